-- The parts of an input, by the first two line feeds that stand together.
use Rattle.std.proofs.Common.{◌≡◌, ℕ, suc, ◌+◌, ◌<◌, ◌≤◌, Bool, true, false, ◌&&◌, not, cond, eqb, ltb, List, [], ◌∷◌, length, get_or, take, drop, Some, None, Option, sym, refl, ap, ◌∙◌, subst, inl, inr, arith}
use Rattle.std.specs.List.{position_or_len}
use Rattle.std.specs.Slice.Iter.{windows_steps, windows_rest, windows_size}
use Rattle.std.specs.Str.{bytes_eq}
use Rattle.std.proofs.lemmas.Bool.{cases_Bool, cond-true, cond-false, and_from, ltb-false}
use Rattle.std.proofs.lemmas.Iterator.{YieldsList}
use Rattle.std.proofs.lemmas.Iterator.Splits.{YieldsList-from_shown_while}
use Rattle.std.proofs.lemmas.List.{take_all, drop_all}
use Rattle.std.proofs.lemmas.Option.{cond_some, none-some}
use Rattle.console.specs.Parts.{text_on, text_part, rows_on, rows_part}

-- whether two neighbours are line feeds
abbrev pub feeds : List ℕ → Bool
feeds w = eqb (length w) 2 && (eqb (get_or w 0 0) 10 && eqb (get_or w 1 0) 10)

-- each byte beside the next, where a is the first
abbrev from : ℕ → List ℕ → List (List ℕ)
from a [] = []
from a (b ∷ bs) = (a ∷ b ∷ []) ∷ from b bs

abbrev pub pairs : List ℕ → List (List ℕ)
pairs [] = []
pairs (a ∷ bs) = from a bs

length-from : (a : ℕ) (bs : List ℕ) → length (from a bs) ≡ length bs
length-from a [] = refl
length-from a (b ∷ bs) = ap suc (length-from b bs)

short : (xs : List ℕ) → length xs < 2 → length (pairs xs) ≡ 0
short [] h = refl
short (a ∷ []) h = refl
short (a ∷ b ∷ bs) h = absurd (omega (arith, h))

long : (xs : List ℕ) → 2 ≤ length xs → pairs xs ≡ take 2 xs ∷ pairs (drop 1 xs)
long [] h = absurd (omega (arith, h))
long (a ∷ []) h = absurd (omega (arith, h))
long (a ∷ b ∷ bs) h = refl

length-pairs : (xs : List ℕ) → length xs ≤ length (pairs xs) + 1
length-pairs [] = omega arith
length-pairs (a ∷ bs) = omega (arith, length-from a bs)

-- what `windows` gives
pub windowed : (s : _) (xs : List ℕ) → windows_rest s ≡ xs → windows_size s ≡ 2 → YieldsList windows_steps (λ x. x.now) s (pairs xs)
windowed s xs e h =
    subst (λ ys. YieldsList windows_steps (λ x. x.now) s (pairs ys)) e (YieldsList-from_shown_while windows_steps (λ x. x.now) (λ s. pairs (windows_rest s)) (λ s. windows_size s ≡ 2)
    (λ s t p q. short (windows_rest s) (omega (arith, p, q.1.0)))
    (λ s x t p q.
    let n : take (windows_size s) (windows_rest s) ≡ take 2 (windows_rest s) = ap (λ k. take k (windows_rest s)) p in
    let w = long (windows_rest s) (omega (arith, p, q.1.0)) in
    (q.0 ∙ p, w ∙ ap (λ y. y ∷ pairs (drop 1 (windows_rest s))) (sym (q.1.1 ∙ n)) ∙ ap (λ r. x.now ∷ pairs r) (sym q.1.2)))
    s
    h)

abbrev place : ℕ → List ℕ → ℕ
place a bs = position_or_len feeds (from a bs)

-- the place of the first two of them parts what follows a
cut : (a : ℕ) (bs : List ℕ) → (text_on (eqb a 10) bs ≡ take (place a bs) bs) × (rows_on (eqb a 10) bs ≡ drop (suc (place a bs)) bs)
cut a [] = (refl, refl)
cut a (b ∷ bs) =
    elim (cases_Bool (eqb a 10 && eqb b 10)) [
      | inl e ↦
          let n : place a (b ∷ bs) ≡ 0 = cond-false _ _ _ (ap not e) in
          (cond-true _ _ _ e ∙ ap (λ k. take k (b ∷ bs)) (sym n), cond-true _ _ _ e ∙ ap (λ k. drop (suc k) (b ∷ bs)) (sym n))
      | inr e ↦
          let n : place a (b ∷ bs) ≡ 1 + place b bs = cond-true _ _ _ (ap not e) in
          let m : place a (b ∷ bs) ≡ suc (place b bs) = omega (arith, n) in
          let rest = cut b bs in (
            cond-false _ _ _ e ∙ ap (λ ys. b ∷ ys) rest.0 ∙ ap (λ k. take k (b ∷ bs)) (sym m),
            cond-false _ _ _ e ∙ rest.1 ∙ ap (λ k. drop (suc k) (b ∷ bs)) (sym m),
          )
    ]

-- the same of an input, whose first byte is passed
abbrev at : List ℕ → ℕ
at input = position_or_len feeds (pairs input)

pub record Cut (input : List ℕ) (i : ℕ) : Type 0 where
  pub text : take (i + 1) input ≡ text_on false input
  pub rows : drop (i + 2) input ≡ rows_on false input

parted : (input : List ℕ) → Cut input (at input)
parted [] = record { text = refl; rows = refl }
parted (a ∷ bs) =
    let n = place a bs in
    let one : n + 1 ≡ suc n = omega arith in
    let two : n + 2 ≡ suc (suc n) = omega arith in
    record {
      text = ap (λ k. take k (a ∷ bs)) one ∙ ap (λ ys. a ∷ ys) (sym (cut a bs).0);
      rows = ap (λ k. drop k (a ∷ bs)) two ∙ sym (cut a bs).1;
    }

-- what `position` says of it
abbrev pub found : List ℕ → Option ℕ
found input = cond (ltb (at input) (length (pairs input))) (Some (at input)) None

pub here : (input : List ℕ) (i : ℕ) (r : Option ℕ) → r ≡ found input → r ≡ Some i → Cut input i
here input i r p q = subst (Cut input) (cond_some _ _ _ (sym p ∙ q)).1 (parted input)

pub nowhere : (input : List ℕ) (r : Option ℕ) → r ≡ found input → r ≡ None → (input ≡ text_on false input) × ([] ≡ rows_on false input)
nowhere input r p q =
    let n = at input in
    let past : length (pairs input) ≤ n =
    elim (cases_Bool (ltb n (length (pairs input)))) [ inl t ↦ absurd (none-some n (sym q ∙ p ∙ cond-true _ _ _ t)) | inr f ↦ ltb-false n (length (pairs input)) f ] in
    let all : length input ≤ n + 1 = omega (arith, past, length-pairs input) in
    (sym (take_all (n + 1) input all) ∙ (parted input).text, sym (drop_all (n + 2) input (omega (arith, all))) ∙ (parted input).rows)

-- an input that begins with bytes of a line
begins : (a : ℕ) → bytes_eq (a ∷ []) (10 ∷ []) ≡ false → eqb a 10 ≡ false
begins a h = elim (cases_Bool (eqb a 10)) [ inl t ↦ t ∙ sym (and_from (eqb a 10) true t refl) ∙ h | inr f ↦ f ]

pub same_text : (input : List ℕ) → bytes_eq (take 1 input) (10 ∷ []) ≡ false → text_on false input ≡ text_part input
same_text [] h = refl
same_text (a ∷ bs) h = sym (cond-false _ _ _ (begins a h))

pub same_rows : (input : List ℕ) → bytes_eq (take 1 input) (10 ∷ []) ≡ false → rows_on false input ≡ rows_part input
same_rows [] h = refl
same_rows (a ∷ bs) h = sym (cond-false _ _ _ (begins a h))
