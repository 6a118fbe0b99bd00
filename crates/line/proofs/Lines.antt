-- The elements of slots that are walked over or written to. Assumes nothing.
use Rattle.std.proofs.Common.{◌≡◌, ℕ, zero, suc, ◌+◌, ◌-◌, ◌<◌, ◌≤◌, true, List, [], ◌∷◌, ◌++◌, length, get_or, take, drop, set, is_some, Some, None, Option, sym, refl, ap, ◌∙◌, add-one, arith}
use borrow.Rule.Slice.PartMut.{put_mid}
use Rattle.std.specs.List.{remove, prefix_len}
use Rattle.std.proofs.lemmas.List.{at_drop_more, at_drop_all, take_rest, drop-set, take-set, drop_all, append-nil, append_assoc, length-drop}
use Rattle.line.specs.Slots.{elements, free, compact}

-- a walk over the slots that has come to place i
module _ {X : Type 0} (slots : List (Option X)) (i : ℕ) where
  pub rest-none : (x : Option X) → i < length slots → x ≡ get_or slots i x → x ≡ None → elements (drop i slots) ≡ []
  rest-none x h r e = at_drop_more elements slots i x h ∙ ap (λ y. elements (y ∷ drop (i + 1) slots)) (sym r ∙ e)

  pub rest_some : (x : Option X) (v : X) → i < length slots → x ≡ get_or slots i x → x ≡ Some v → elements (drop i slots) ≡ v ∷ elements (drop (i + 1) slots)
  rest_some x v h r e = at_drop_more elements slots i x h ∙ ap (λ y. elements (y ∷ drop (i + 1) slots)) (sym r ∙ e)

  pub rest_all : length slots ≤ i → elements (drop i slots) ≡ []
  rest_all h = at_drop_all elements slots i h

module _ {X : Type 0} where
  pub free-elements : (slots : List (Option X)) → free slots ≡ true → elements slots ≡ []
  free-elements [] f = refl
  free-elements (Some x ∷ slots) f = let z : ◌≡◌ {A = ℕ} 0 1 = cc in absurd (omega arith)
  free-elements (None ∷ slots) f = refl

  pub free-compact : (slots : List (Option X)) → free slots ≡ true → compact slots ≡ true
  free-compact [] f = refl
  free-compact (Some x ∷ slots) f = let z : ◌≡◌ {A = ℕ} 0 1 = cc in absurd (omega arith)
  free-compact (None ∷ slots) f = f

  -- as many as slots are taken from the front on
  pub count_elements : (slots : List (Option X)) → prefix_len is_some slots ≡ length (elements slots)
  count_elements [] = refl
  count_elements (Some x ∷ slots) = let rest = count_elements slots in omega (arith, rest)
  count_elements (None ∷ slots) = refl

  pub count_within : (slots : List (Option X)) → length (elements slots) ≤ length slots
  count_within [] = omega arith
  count_within (Some x ∷ slots) = let h = count_within slots in omega arith
  count_within (None ∷ slots) = omega arith

-- one is written behind the last
module _ {X : Type 0} where
  pub add_elements : (slots : List (Option X)) (e : X) → compact slots ≡ true → length (elements slots) < length slots → elements (set slots (length (elements slots)) (Some e)) ≡ elements slots ++ e ∷ []
  add_elements [] e k h = absurd (omega arith)
  add_elements (Some x ∷ slots) e k h = ap (λ ys. x ∷ ys) (add_elements slots e k (omega arith))
  add_elements (None ∷ slots) e k h = ap (λ ys. e ∷ ys) (free-elements slots k)

  pub add_compact : (slots : List (Option X)) (e : X) → compact slots ≡ true → compact (set slots (length (elements slots)) (Some e)) ≡ true
  add_compact [] e k = refl
  add_compact (Some x ∷ slots) e k = add_compact slots e k
  add_compact (None ∷ slots) e k = free-compact slots k

-- one is written over another
module _ {X : Type 0} where
  pub replace_elements : (slots : List (Option X)) (i : ℕ) (e : X) → i < length (elements slots) → elements (set slots i (Some e)) ≡ set (elements slots) i e
  replace_elements [] i e h = absurd (omega arith)
  replace_elements (Some x ∷ slots) zero e h = refl
  replace_elements (Some x ∷ slots) (suc i) e h = ap (λ ys. x ∷ ys) (replace_elements slots i e (omega arith))
  replace_elements (None ∷ slots) i e h = absurd (omega arith)

  pub replace_compact : (slots : List (Option X)) (i : ℕ) (e : X) → i < length (elements slots) → compact slots ≡ true → compact (set slots i (Some e)) ≡ true
  replace_compact [] i e h k = absurd (omega arith)
  replace_compact (Some x ∷ slots) zero e h k = k
  replace_compact (Some x ∷ slots) (suc i) e h k = replace_compact slots i e (omega arith) k
  replace_compact (None ∷ slots) i e h k = absurd (omega arith)

-- one leaves, the later ones move up, and a free slot comes last
module _ {X : Type 0} where
  free_behind : (slots : List (Option X)) → elements (slots ++ None ∷ []) ≡ elements slots
  free_behind [] = refl
  free_behind (Some x ∷ slots) = ap (λ ys. x ∷ ys) (free_behind slots)
  free_behind (None ∷ slots) = refl

  still_free : (slots : List (Option X)) → free slots ≡ true → free (slots ++ None ∷ []) ≡ true
  still_free [] f = refl
  still_free (Some x ∷ slots) f = f
  still_free (None ∷ slots) f = still_free slots f

  compact_behind : (slots : List (Option X)) → compact slots ≡ true → compact (slots ++ None ∷ []) ≡ true
  compact_behind [] k = refl
  compact_behind (Some x ∷ slots) k = compact_behind slots k
  compact_behind (None ∷ slots) k = still_free slots k

  pub take-elements : (slots : List (Option X)) (i : ℕ) → i < length (elements slots) → elements (remove slots i ++ None ∷ []) ≡ remove (elements slots) i
  take-elements [] i h = absurd (omega arith)
  take-elements (Some x ∷ slots) zero h = free_behind slots
  take-elements (Some x ∷ slots) (suc i) h = ap (λ ys. x ∷ ys) (take-elements slots i (omega arith))
  take-elements (None ∷ slots) i h = absurd (omega arith)

  pub take-compact : (slots : List (Option X)) (i : ℕ) → i < length (elements slots) → compact slots ≡ true → compact (remove slots i ++ None ∷ []) ≡ true
  take-compact [] i h k = absurd (omega arith)
  take-compact (Some x ∷ slots) zero h k = compact_behind slots k
  take-compact (Some x ∷ slots) (suc i) h k = take-compact slots i (omega arith) k
  take-compact (None ∷ slots) i h k = absurd (omega arith)

-- the slot at the place of an element holds it
module _ {X : Type 0} where
  pub slot_holds : (slots : List (Option X)) (i : ℕ) (d : Option X) (v : X) → i < length (elements slots) → get_or slots i d ≡ Some (get_or (elements slots) i v)
  slot_holds [] i d v h = absurd (omega arith)
  slot_holds (Some x ∷ slots) zero d v h = refl
  slot_holds (Some x ∷ slots) (suc i) d v h = slot_holds slots i d v (omega arith)
  slot_holds (None ∷ slots) i d v h = absurd (omega arith)

  pub slot_some : (slots : List (Option X)) (i : ℕ) (d : Option X) → i < length (elements slots) → is_some (get_or slots i d) ≡ true
  slot_some [] i d h = absurd (omega arith)
  slot_some (Some x ∷ slots) zero d h = refl
  slot_some (Some x ∷ slots) (suc i) d h = slot_some slots i d (omega arith)
  slot_some (None ∷ slots) i d h = absurd (omega arith)

-- w is written at i, and what stands from there on is turned by one
module _ {X : Type 0} (xs : List X) (i : ℕ) (w : X) (h : i < length xs) where
  tail : take (length (set xs i w) - i) (drop i (set xs i w)) ≡ w ∷ drop (suc i) xs
  tail = take_rest (set xs i w) i ∙ drop-set xs i w h ∙ rw add-one

  pub moved_up : (ys : List X) → ys ≡ drop 1 (take (length (set xs i w) - i) (drop i (set xs i w))) ++ take 1 (take (length (set xs i w) - i) (drop i (set xs i w))) → put_mid i (length (set xs i w) - i) (set xs i w) ys ≡ remove xs i ++ w ∷ []
  moved_up ys e =
      let f : ys ≡ drop (suc i) xs ++ w ∷ [] = e ∙ ap (λ zs. drop 1 zs ++ take 1 zs) tail in
      let z : drop (length (set xs i w) - i) (drop i (set xs i w)) ≡ [] = drop_all (length (set xs i w) - i) (drop i (set xs i w)) (simp length-drop (omega arith)) in
      simp (z, take-set, f, append-nil, append_assoc)
