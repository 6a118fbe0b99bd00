-- Laws of lines, over the elements in the order of their arrival. Assumes nothing.
use Rattle.std.specs.Prelude.{◌≡◌, ℕ, ◌-◌, ◌<◌, Bool, false, cond, List, [], ◌∷◌, ◌++◌, length, Some, None, filter, Option, ◌≢◌, nat_lt, slice_index_or}
use Rattle.std.specs.List.{remove}
use Rattle.line.specs.Slots.{oldest}

-- what is done to a line: an element is added, or the oldest with the key is taken
pub data Deed (X K : Type 0) : Type 0 where
  adds : X → Deed X K
  takes : K → Deed X K

-- what has come of a line: those that were added and not refused, and those that were taken, each in order, and
-- those that still wait
pub record History (X : Type 0) : Type 0 where
  pub added : List X
  pub taken : List X
  pub waiting : List X

-- nothing has been done yet
abbrev pub start : {X : Type 0} → History X
start = record { added = []; taken = []; waiting = [] }

-- the element is added, behind the others
abbrev pub with_added : {X : Type 0} → X → History X → History X
with_added e h = record { added = h.added ++ e ∷ []; taken = h.taken; waiting = h.waiting ++ e ∷ [] }

-- what was found is taken; nothing happens where nothing was found
abbrev pub with_taken : {X : Type 0} → Option (ℕ × X) → History X → History X
with_taken None h = h
with_taken (Some found) h = record { added = h.added; taken = h.taken ++ found.1 ∷ []; waiting = remove h.waiting found.0 }

-- one deed, on a line with so many slots: an addition is refused where all are taken
abbrev pub after_deed : {X K : Type 0} → (X → K) → (K → K → Bool) → ℕ → Deed X K → History X → History X
after_deed key_of same slots (adds e) h = cond (nat_lt (length h.waiting) slots) (with_added e h) h
after_deed key_of same slots (takes key) h = with_taken (oldest (λ e. same (key_of e) key) h.waiting) h

-- one deed after another
abbrev pub after_deeds : {X K : Type 0} → (X → K) → (K → K → Bool) → ℕ → List (Deed X K) → History X → History X
after_deeds key_of same slots [] h = h
after_deeds key_of same slots (d ∷ ds) h = after_deeds key_of same slots ds (after_deed key_of same slots d h)

-- Elements with one key leave in the order in which they came: whatever is done to a line that was empty, those with
-- the key that were added are, in order, those that were taken and then those that wait
abbrev pub LeaveInOrder : {X K : Type 0} → (X → K) → (K → K → Bool) → Type 0
LeaveInOrder {X} {K} key_of same = (slots : ℕ) (deeds : List (Deed X K)) (key : K) → let of_key = filter (λ e. same (key_of e) key) in let h = after_deeds key_of same slots deeds start in of_key h.added ≡ of_key h.taken ++ of_key h.waiting

-- An element that is added is not seen by who looks for another key: what is found is what was found before
abbrev pub FoundAsBefore : {X K : Type 0} → (X → K) → (K → K → Bool) → Type 0
FoundAsBefore {X} {K} key_of same = (line : List X) (e : X) (key : K) → same (key_of e) key ≡ false → oldest (λ x. same (key_of x) key) (line ++ e ∷ []) ≡ oldest (λ x. same (key_of x) key) line

-- the place to which an element moves when the one at `gone` leaves
abbrev pub moved : ℕ → ℕ → ℕ
moved gone place = cond (nat_lt place gone) place (place - 1)

-- Taking one leaves the order of the others: each stands where it moved to, and who stood before another still does
pub record OthersInOrder {X : Type 0} (line : List X) (gone : ℕ) : Type 0 where
  pub stands : (place : ℕ) (d : X) → (place ≢ gone) → slice_index_or (remove line gone) (moved gone place) d ≡ slice_index_or line place d
  pub before : (a b : ℕ) → (a ≢ gone) → (b ≢ gone) → a < b → moved gone a < moved gone b
