-- The elements by their places. Assumes nothing.
use Rattle.std.proofs.Common.{◌≡◌, ℕ, zero, suc, ◌<◌, ◌≤◌, true, List, [], ◌∷◌, ◌++◌, length, get_or, set, IfSome, Some, None, Option, refl, ap, arith}
use Rattle.line.specs.Slots.{elements, nth, free, compact}
use Rattle.line.proofs.Lines.{count_within}

module _ {X : Type 0} where
  -- past the last there is none
  pub nth_past : (xs : List X) (i : ℕ) → length xs ≤ i → nth xs i ≡ None
  nth_past [] i h = refl
  nth_past (x ∷ xs) zero h = absurd (omega arith)
  nth_past (x ∷ xs) (suc i) h = nth_past xs i (omega arith)

  -- where there is one, the place is one of theirs
  within_gives : (xs : List X) (i : ℕ) (P : Type 0) → (i < length xs → P) → IfSome (nth xs i) (λ _. P)
  within_gives [] i P k = tt
  within_gives (x ∷ xs) zero P k = k (omega arith)
  within_gives (x ∷ xs) (suc i) P k = within_gives xs i P (λ h. k (omega arith))

  pub nth-within : (xs : List X) (i : ℕ) → IfSome (nth xs i) (λ _. i < length xs)
  nth-within xs i = within_gives xs i (i < length xs) (λ h. h)

  -- a new one has the next place, and the others keep theirs
  pub nth_next : (xs : List X) (e : X) → nth (xs ++ e ∷ []) (length xs) ≡ Some e
  nth_next [] e = refl
  nth_next (x ∷ xs) e = nth_next xs e

  pub nth_before : (xs ys : List X) (i : ℕ) → i < length xs → nth (xs ++ ys) i ≡ nth xs i
  nth_before [] ys i h = absurd (omega arith)
  nth_before (x ∷ xs) ys zero h = refl
  nth_before (x ∷ xs) ys (suc i) h = nth_before xs ys i (omega arith)

  -- what was written stands at its place, and the others stay
  pub nth-set : (xs : List X) (i : ℕ) (e : X) → i < length xs → nth (set xs i e) i ≡ Some e
  nth-set [] i e h = absurd (omega arith)
  nth-set (x ∷ xs) zero e h = refl
  nth-set (x ∷ xs) (suc i) e h = nth-set xs i e (omega arith)

  pub nth-set_other : (xs : List X) (i j : ℕ) (e : X) → (j ≡ i → ⊥) → nth (set xs i e) j ≡ nth xs j
  nth-set_other [] i j e n = refl
  nth-set_other (x ∷ xs) zero zero e n = absurd (n refl)
  nth-set_other (x ∷ xs) zero (suc j) e n = refl
  nth-set_other (x ∷ xs) (suc i) zero e n = refl
  nth-set_other (x ∷ xs) (suc i) (suc j) e n = nth-set_other xs i j e (λ h. n (ap suc h))

-- where there is no gap, the slot at a place holds its element, if there is one
module _ {X : Type 0} where
  -- past the last slot there is none
  pub slot_past : (slots : List (Option X)) (i : ℕ) → length slots ≤ i → nth (elements slots) i ≡ None
  slot_past slots i h = nth_past (elements slots) i (let few = count_within slots in omega arith)

  free_slot : (slots : List (Option X)) (i : ℕ) (d : Option X) → free slots ≡ true → i < length slots → get_or slots i d ≡ None
  free_slot [] i d f h = absurd (omega arith)
  free_slot (Some x ∷ slots) i d f h = let z : ◌≡◌ {A = ℕ} 0 1 = cc in absurd (omega arith)
  free_slot (None ∷ slots) zero d f h = refl
  free_slot (None ∷ slots) (suc i) d f h = free_slot slots i d f (omega arith)

  pub slot_nth : (slots : List (Option X)) (i : ℕ) (d : Option X) → compact slots ≡ true → i < length slots → get_or slots i d ≡ nth (elements slots) i
  slot_nth [] i d k h = absurd (omega arith)
  slot_nth (Some x ∷ slots) zero d k h = refl
  slot_nth (Some x ∷ slots) (suc i) d k h = slot_nth slots i d k (omega arith)
  slot_nth (None ∷ slots) zero d k h = refl
  slot_nth (None ∷ slots) (suc i) d k h = free_slot slots i d k (omega arith)
