-- Arguments, masked one by one into the first locals of a call.
use Rattle.std.proofs.Common.{◌≡◌, ℕ, ◌<◌, ◌≤◌, ltb, List, map, length, get_or, sym, ap, ◌∙◌, inl, inr, arith}
use mathlib.Core.Path.{fun_ext}
use Rattle.std.proofs.lemmas.List.{length-map, get_or-map, get_or_past}
use Rattle.std.proofs.lemmas.Bool.{cases_Bool, cases_lt, cond-true, cond-false, ltb-true, ltb-false}
use Rattle.rules.specs.declared.values.Labelled.{Labelled}
use Rattle.rules.specs.Values.{Made, given, blank, nought}
use Rattle.rules.specs.Wrapper.{first_locals}

module _ (mask : Labelled → Made) (xs : List Labelled) where
  mask_at : (s k : ℕ) → k < length xs → get_or (map given (map mask xs)) k (nought s) ≡ given (mask (get_or xs k blank))
  mask_at s k h =
      let e = length-map xs mask in
      get_or-map given (map mask xs) k (mask blank) (nought s) (omega arith) ∙ ap given (get_or-map mask xs k blank (mask blank) h)

  -- all arguments are in place, and zeros behind them
  pub locals_filled : (s : ℕ) (locals : List Labelled) (i : ℕ) → length xs ≤ i → i ≤ length xs → length locals ≡ 8
      → ((k : ℕ) → k < i → get_or locals k blank ≡ given (mask (get_or xs k blank))) → ((k : ℕ) → i ≤ k → k < 8 → get_or locals k blank ≡ nought s)
      → (λ (k : ℕ). get_or locals k blank) ≡ first_locals s (map given (map mask xs))
  locals_filled s locals i a b e front back =
      let sizes = length-map xs mask in
      let sizes_2 = length-map (map mask xs) given in
      fun_ext (λ k. elim (cases_Bool (ltb k 8)) [
        | inl t ↦ elim (cases_lt k i) [
          | inl h ↦ front k h ∙ sym (mask_at s k (omega arith)) ∙ sym (cond-true (ltb k 8) _ _ t)
          | inr h ↦ back k h (ltb-true k 8 t) ∙ sym (get_or_past (map given (map mask xs)) k (nought s) (omega arith)) ∙ sym (cond-true (ltb k 8) _ _ t)
        ]
        | inr t ↦ get_or_past locals k blank (omega (arith, ltb-false k 8 t)) ∙ sym (cond-false (ltb k 8) _ _ t)
      ])
