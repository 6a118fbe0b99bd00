-- The laws of lines. Assumes nothing but that keys which are the same are equal.
use Rattle.std.proofs.Common.{◌≡◌, ℕ, ◌+◌, ◌-◌, ◌<◌, Bool, true, false, ltb, List, [], ◌∷◌, ◌++◌, length, get_or, Some, None, filter, Option, sym, refl, ap, ◌∙◌, subst, ⊎_elim, arith}
use Rattle.std.specs.List.{remove}
use Rattle.std.proofs.lemmas.List.Edits.{get_or-remove_below, get_or-remove_above}
use Rattle.std.proofs.lemmas.List.Elements.{filter-append}
use Rattle.std.proofs.lemmas.List.{append_assoc, append-nil}
use Rattle.std.proofs.lemmas.Bool.{cases_Bool, cases_lt, cond_both, cond-true, cond-false, lt-ltb, le-ltb}
use Rattle.line.specs.Slots.{oldest}
use Rattle.line.specs.Laws.{Deed, adds, takes, History, start, with_added, with_taken, after_deed, after_deeds, LeaveInOrder, FoundAsBefore, moved, OthersInOrder}
use Rattle.line.proofs.Oldest.{Found, found, oldest_past}

-- those that pass a test, before and after the one that was found leaves
removed_at : {X : Type 0} (front : List X) (x : X) (rest : List X) → remove (front ++ x ∷ rest) (length front) ≡ front ++ rest
removed_at [] x rest = refl
removed_at (y ∷ front) x rest = ap (λ ys. y ∷ ys) (removed_at front x rest)

module _ {X : Type 0} (test : X → Bool) (xs : List X) (f : ℕ × X) (r : Found 0 test xs f) where
  left : remove xs f.0 ≡ r.front ++ r.rest
  left = let e : f.0 ≡ length r.front = omega (arith, r.place) in ap (λ ys. remove ys f.0) r.is ∙ ap (remove (r.front ++ f.1 ∷ r.rest)) e ∙ removed_at r.front f.1 r.rest

  kept_all : (t : X → Bool) → filter t xs ≡ filter t r.front ++ filter t (f.1 ∷ r.rest)
  kept_all t = ap (filter t) r.is ∙ filter-append t r.front (f.1 ∷ r.rest)

  kept-left : (t : X → Bool) → filter t (remove xs f.0) ≡ filter t r.front ++ filter t r.rest
  kept-left t = ap (filter t) left ∙ filter-append t r.front r.rest

  passed_over : (t : X → Bool) → t f.1 ≡ false → filter t (remove xs f.0) ≡ filter t xs
  passed_over t differs = kept-left t ∙ sym (kept_all t ∙ ap (λ ys. filter t r.front ++ ys) (cond-false (t f.1) (f.1 ∷ filter t r.rest) (filter t r.rest) differs))

  first_of : filter test xs ≡ f.1 ∷ filter test (remove xs f.0)
  first_of =
      kept_all test ∙ ap (λ ys. ys ++ filter test (f.1 ∷ r.rest)) r.first ∙ cond-true (test f.1) (f.1 ∷ filter test r.rest) (filter test r.rest) r.passes ∙ ap (λ ys. f.1 ∷ ys) (sym (kept-left test ∙ ap (λ ys. ys ++ filter test r.rest) r.first))

-- elements with one key leave in the order in which they came
module _ {X K : Type 0} (key_of : X → K) (same : K → K → Bool) (exact : (a b : K) → same a b ≡ true → a ≡ b) where
  abbrev has : K → X → Bool
  has key e = same (key_of e) key

  abbrev InOrder : History X → K → Type 0
  InOrder h key = filter (has key) h.added ≡ filter (has key) h.taken ++ filter (has key) h.waiting

  add_in_order : (e : X) (h : History X) → ((key : K) → InOrder h key) → (key : K) → InOrder (with_added e h) key
  add_in_order e h k key =
      filter-append (has key) h.added (e ∷ []) ∙ ap (λ ys. ys ++ filter (has key) (e ∷ [])) (k key) ∙ append_assoc (filter (has key) h.taken) (filter (has key) h.waiting) (filter (has key) (e ∷ [])) ∙ ap (λ ys. filter (has key) h.taken ++ ys) (sym (filter-append (has key) h.waiting (e ∷ [])))

  module _ (wanted : K) (h : History X) (k : (key : K) → InOrder h key) (f : ℕ × X) (r : Found 0 (has wanted) h.waiting f) where
    taken_one : (key : K) (ys : List X) → filter (has key) (f.1 ∷ []) ≡ ys → filter (has key) (h.taken ++ f.1 ∷ []) ≡ filter (has key) h.taken ++ ys
    taken_one key ys e = filter-append (has key) h.taken (f.1 ∷ []) ∙ ap (λ zs. filter (has key) h.taken ++ zs) e

    take_wanted : InOrder (with_taken (Some f) h) wanted
    take_wanted =
        let t = filter (has wanted) h.taken in
        let w = filter (has wanted) (remove h.waiting f.0) in
        k wanted ∙ ap (λ ys. t ++ ys) (first_of (has wanted) h.waiting f r) ∙ sym (append_assoc t (f.1 ∷ []) w) ∙ ap (λ ys. ys ++ w) (sym (taken_one wanted (f.1 ∷ []) (cond-true (has wanted f.1) (f.1 ∷ []) [] r.passes)))

    take_other : (key : K) → has key f.1 ≡ false → InOrder (with_taken (Some f) h) key
    take_other key differs =
        let t = taken_one key [] (cond-false (has key f.1) (f.1 ∷ []) [] differs) ∙ append-nil (filter (has key) h.taken) in
        let w = passed_over (has wanted) h.waiting f r (has key) differs in
        rw (t, w) (k key)

    take_in_order : (key : K) → InOrder (with_taken (Some f) h) key
    take_in_order key =
        ⊎_elim
        (λ p. let e : wanted ≡ key = sym (exact (key_of f.1) wanted r.passes) ∙ exact (key_of f.1) key p in subst (InOrder (with_taken (Some f) h)) e take_wanted)
        (take_other key)
        (cases_Bool (has key f.1))

  found_in_order : (wanted : K) (h : History X) → ((key : K) → InOrder h key) → (o : Option (ℕ × X)) → o ≡ oldest (has wanted) h.waiting → (key : K) → InOrder (with_taken o h) key
  found_in_order wanted h k None e = k
  found_in_order wanted h k (Some f) e = take_in_order wanted h k f (found (has wanted) h.waiting f e)

  deed_in_order : (slots : ℕ) (d : Deed X K) (h : History X) → ((key : K) → InOrder h key) → (key : K) → InOrder (after_deed key_of same slots d h) key
  deed_in_order slots (adds e) h k key = cond_both (ltb (length h.waiting) slots) (with_added e h) h (λ g. InOrder g key) (λ _. add_in_order e h k key) (λ _. k key)
  deed_in_order slots (takes wanted) h k key = found_in_order wanted h k (oldest (has wanted) h.waiting) refl key

  deeds_in_order : (slots : ℕ) (ds : List (Deed X K)) (h : History X) → ((key : K) → InOrder h key) → (key : K) → InOrder (after_deeds key_of same slots ds h) key
  deeds_in_order slots [] h k = k
  deeds_in_order slots (d ∷ ds) h k = deeds_in_order slots ds (after_deed key_of same slots d h) (deed_in_order slots d h k)

  pub leave_in_order : LeaveInOrder key_of same
  leave_in_order slots deeds = deeds_in_order slots deeds start (λ _. refl)

-- an element that is added is not seen by who looks for another key
pub found_as_before : {X K : Type 0} (key_of : X → K) (same : K → K → Bool) → FoundAsBefore key_of same
found_as_before key_of same line e key = oldest_past 0 (λ x. same (key_of x) key) line e

-- taking one leaves the order of the others
moved-below : (gone place : ℕ) → place < gone → moved gone place ≡ place
moved-below gone place h = cond-true (ltb place gone) place (place - 1) (lt-ltb place gone h)

moved_above : (gone place : ℕ) → gone < place → moved gone place ≡ place - 1
moved_above gone place h = cond-false (ltb place gone) place (place - 1) (le-ltb place gone (omega arith))

stands-moved : {X : Type 0} (line : List X) (gone : ℕ) → gone < length line → (place : ℕ) (d : X) → (place ≡ gone → ⊥) → get_or (remove line gone) (moved gone place) d ≡ get_or line place d
stands-moved line gone h place d apart =
    ⊎_elim
    (λ b. ap (λ i. get_or (remove line gone) i d) (moved-below gone place b) ∙ get_or-remove_below line gone d place b h)
    (λ a.
    let e : place - 1 + 1 ≡ place = omega (arith, apart) in
    ap (λ i. get_or (remove line gone) i d) (moved_above gone place (omega (arith, apart))) ∙ get_or-remove_above line gone d (place - 1) (omega (arith, apart)) h ∙ ap (λ i. get_or line i d) e)
    (cases_lt place gone)

moved_before : (gone a b : ℕ) → (a ≡ gone → ⊥) → (b ≡ gone → ⊥) → a < b → moved gone a < moved gone b
moved_before gone a b na nb h =
    ⊎_elim
    (λ below. ⊎_elim
    (λ b_below. omega (arith, moved-below gone a below, moved-below gone b b_below))
    (λ b_above. omega (arith, nb, moved-below gone a below, moved_above gone b (omega (arith, nb))))
    (cases_lt b gone))
    (λ above. omega (arith, na, moved_above gone a (omega (arith, na)), moved_above gone b (omega (arith, na))))
    (cases_lt a gone)

pub others_in_order : {X : Type 0} (line : List X) (gone : ℕ) → gone < length line → OthersInOrder line gone
others_in_order line gone h = record { stands = stands-moved line gone h; before = moved_before gone }
