-- Lists and functions as tables: reading, adding, looking, replacing and taking.
use Rattle.std.specs.Prelude.{ℕ, zero, suc, Bool, cond, List, [], ◌∷◌, ◌++◌, length, Some, None, Option, ◌==◌, nat_lt}

-- a function with one place replaced
abbrev pub update : {X : Type 0} (f : ℕ → X) (i : ℕ) (x : X) → ℕ → X
update f i x j = cond (i == j) x (f j)

-- the element at a place, if the list reaches so far
abbrev pub nth : {X : Type 0} → List X → ℕ → Option X
nth [] i = None
nth (x ∷ xs) zero = Some x
nth (x ∷ xs) (suc i) = nth xs i

-- the list with one more element at its end
abbrev pub snoc : {X : Type 0} → List X → X → List X
snoc xs x = xs ++ x ∷ []

-- the same, if fewer than `limit` stand there; a full line loses the new one
abbrev pub added : {X : Type 0} (limit : ℕ) (xs : List X) (x : X) → List X
added limit xs x = cond (nat_lt (length xs) limit) (snoc xs x) xs

-- an element and where it stands
pub record Placed (X : Type 0) : Type 0 where
  pub place : ℕ
  pub element : X

-- what is found one place later
abbrev pub later : {X : Type 0} → Option (Placed X) → Option (Placed X)
later None = None
later (Some found) = Some (record { place = suc found.place; element = found.element })

-- the oldest element that passes a test, and where it stands
abbrev pub oldest : {X : Type 0} → (X → Bool) → List X → Option (Placed X)
oldest test [] = None
oldest test (x ∷ xs) = cond (test x) (Some (record { place = 0; element = x })) (later (oldest test xs))

-- the list without the element at a place
abbrev pub without : {X : Type 0} → ℕ → List X → List X
without i [] = []
without zero (x ∷ xs) = xs
without (suc i) (x ∷ xs) = x ∷ without i xs

-- two lists of one length whose elements are related one by one
pub data Pairs {X Y : Type 0} (R : X → Y → Type 0) : List X → List Y → Type 0 where
  none : Pairs R [] []
  more : {x : X} {y : Y} {xs : List X} {ys : List Y} → R x y → Pairs R xs ys → Pairs R (x ∷ xs) (y ∷ ys)
