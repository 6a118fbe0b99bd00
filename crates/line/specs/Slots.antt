-- The elements of a line, and what is looked up in them, by place or by a test. Assumes nothing.
use Rattle.std.specs.Prelude.{ℕ, zero, suc, ◌+◌, Bool, true, false, cond, List, [], ◌∷◌, Some, None, Option}

-- the elements in the order of their arrival: those from the front, up to the first free slot
abbrev pub elements : {X : Type 0} → List (Option X) → List X
elements [] = []
elements (Some x ∷ slots) = x ∷ elements slots
elements (None ∷ slots) = []

-- the element at the place, if there is one; the first place is 0
abbrev pub nth : {X : Type 0} → List X → ℕ → Option X
nth [] i = None
nth (x ∷ xs) zero = Some x
nth (x ∷ xs) (suc i) = nth xs i

-- whether every slot is free
abbrev pub free : {X : Type 0} → List (Option X) → Bool
free [] = true
free (Some x ∷ slots) = false
free (None ∷ slots) = free slots

-- whether there is no gap: no element stands behind a free slot
abbrev pub compact : {X : Type 0} → List (Option X) → Bool
compact [] = true
compact (Some x ∷ slots) = compact slots
compact (None ∷ slots) = free slots

-- the first of the elements that passes the test, with its place, where the first place is n
abbrev pub oldest_from : {X : Type 0} → ℕ → (X → Bool) → List X → Option (ℕ × X)
oldest_from n test [] = None
oldest_from n test (x ∷ xs) = cond (test x) (Some (n, x)) (oldest_from (n + 1) test xs)

-- the oldest element that passes the test, with its place
abbrev pub oldest : {X : Type 0} → (X → Bool) → List X → Option (ℕ × X)
oldest test xs = oldest_from 0 test xs
