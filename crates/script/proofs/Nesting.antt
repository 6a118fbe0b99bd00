-- A range of statements is its first statement, with its branches, and then the rest; more fuel than statements changes nothing, and neither
-- does the place where the range stands.
use Rattle.std.proofs.Common.{◌≡◌, ℕ, zero, suc, ◌+◌, ◌-◌, ◌<◌, ◌≤◌, Bool, true, false, ◌&&◌, ltb, leb, ◌⊎◌, List, ◌∷◌, length, get_or, take, drop, sym, refl, ap, ◌∙◌, inl, inr, arith}
use Rattle.std.specs.List.{IsSplitAt}
use Rattle.std.proofs.lemmas.Bool.{cases_lt, leb-true, le-leb, lt-leb}
use Rattle.std.proofs.lemmas.List.{length-drop, length-take-le, get_or-take, get_or-drop, drop-drop, take_rest}
use Rattle.std.proofs.lemmas.Bool.Decides.{nat_tests}
use Rattle.script.specs.declared.class.Variable.{Variable}
use Rattle.script.specs.declared.class.Statement.{Statement}
use Rattle.script.specs.declared.class.Statement.TheVariants.{Constant, Itself, Copy, Add, Subtract, Less, Branch, Invoke, Get, Create, Return}
use Rattle.script.specs.Bodies.{idle, branch_rows, branches_fit, nested}

-- what tells of a range: how deep, from where, up to where
abbrev Ranges : Type 0
Ranges = ℕ → ℕ → ℕ → Bool

leb_moved : (k m n : ℕ) → leb m n ≡ leb (k + m) (k + n)
leb_moved k m n =
    elim (cases_lt n m) [
      | inl l ↦ lt-leb m n l ∙ sym (lt-leb (k + m) (k + n) (omega arith))
      | inr l ↦ le-leb m n l ∙ sym (le-leb (k + m) (k + n) (omega arith))
    ]

both_same : (test a b c d : Bool) → (test ≡ true → (a ≡ c) × (b ≡ d)) → (test && (a && b)) ≡ (test && (c && d))
both_same true a b c d h = let e = h refl in rw (e.0, e.1)
both_same false a b c d h = refl

-- the branches of a statement, by two tests that agree on every range that is shorter than its own
pub branches_same : (inner other : Ranges) (depth : ℕ) (s : Statement) (at end : ℕ) → at < end
    → ((d low high : ℕ) → high - low < end - at → inner d low high ≡ other d low high) → branches_fit inner depth s at end ≡ branches_fit other depth s at end
branches_same inner other depth (Constant to number) at end h same = refl
branches_same inner other depth (Itself to) at end h same = refl
branches_same inner other depth (Copy to from) at end h same = refl
branches_same inner other depth (Add to left right) at end h same = refl
branches_same inner other depth (Subtract to left right) at end h same = refl
branches_same inner other depth (Less to left right) at end h same = refl
branches_same inner other zero (Branch guard first second) at end h same = refl
branches_same inner other (suc depth) (Branch guard first second) at end h same =
    both_same (leb (at + 1 + first + second) end) _ _ _ _ (λ t. let k = leb-true _ _ t in (same depth _ _ (omega arith), same depth _ _ (omega arith)))
branches_same inner other depth (Invoke to receiver method arguments) at end h same = refl
branches_same inner other depth (Get to future) at end h same = refl
branches_same inner other depth (Create to class level) at end h same = refl
branches_same inner other depth (Return value) at end h same = refl

module _ (body : List Statement) where
  abbrev here : ℕ → Statement
  here at = get_or body at idle

  nested-none : (fuel depth at end : ℕ) → end ≤ at → nested fuel body depth at end ≡ true
  nested-none zero depth at end h = grind (arith, nat_tests)
  nested-none (suc fuel) depth at end h = let e : ltb at end ≡ false = grind (arith, nat_tests) in rw e

  nested-some : (fuel depth at end : ℕ) → at < end
      → nested (suc fuel) body depth at end ≡ (branches_fit (nested fuel body) depth (here at) at end && nested fuel body depth (at + 1 + branch_rows (here at)) end)
  nested-some fuel depth at end h = let e : ltb at end ≡ true = grind (arith, nat_tests) in rw e

  -- enough fuel is as good as any other
  pub enough : (fuel more depth at end : ℕ) → end - at ≤ fuel → end - at ≤ more → nested fuel body depth at end ≡ nested more body depth at end
  enough zero more depth at end h k = nested-none zero depth at end (omega arith) ∙ sym (nested-none more depth at end (omega arith))
  enough (suc fuel) zero depth at end h k = nested-none (suc fuel) depth at end (omega arith) ∙ sym (nested-none zero depth at end (omega arith))
  enough (suc fuel) (suc more) depth at end h k =
      elim (cases_lt at end) [
        | inl lt ↦
            let fit = branches_same (nested fuel body) (nested more body) depth (here at) at end lt (λ d low high l. enough fuel more d low high (omega arith) (omega arith)) in
            let rest = enough fuel more depth (at + 1 + branch_rows (here at)) end (omega arith) (omega arith) in
            nested-some fuel depth at end lt ∙ (λ i. fit i && rest i) ∙ sym (nested-some more depth at end lt)
        | inr ge ↦ nested-none (suc fuel) depth at end ge ∙ sym (nested-none (suc more) depth at end ge)
      ]

  -- a range, with as much fuel as it has statements
  abbrev pub range : Ranges
  range depth at end = nested (end - at) body depth at end

  -- the first statement of a range, and the rest
  pub first_of : (depth at end : ℕ) → at < end
      → range depth at end ≡ (branches_fit range depth (here at) at end && range depth (at + 1 + branch_rows (here at)) end)
  first_of depth at end h =
      let few : suc (end - at - 1) ≡ end - at = omega arith in
      let fit = branches_same (nested (end - at - 1) body) range depth (here at) at end h (λ d low high l. enough (end - at - 1) (high - low) d low high (omega arith) (omega arith)) in
      let rest = enough (end - at - 1) (end - (at + 1 + branch_rows (here at))) depth (at + 1 + branch_rows (here at)) end (omega arith) (omega arith) in
      ap (λ n. nested n body depth at end) (sym few) ∙ nested-some (end - at - 1) depth at end h ∙ (λ i. fit i && rest i)

  -- a range that begins with a branch
  module _ (depth at end first second : ℕ) (guard : Variable) (is : here at ≡ Branch guard first second) (some : at < end) where
    -- too deep, or past the end
    pub branch_never : (depth ≡ 0) ⊎ (end - at ≤ first + second) → range depth at end ≡ false
    branch_never h = first_of depth at end some ∙ rw is (never depth h)
      where
        never : (d : ℕ) → (d ≡ 0) ⊎ (end - at ≤ first + second)
            → (branches_fit range d (Branch guard first second) at end && range depth (at + 1 + (first + second)) end) ≡ false
        never zero h = refl
        never (suc d) (inl z) = absurd (omega arith)
        never (suc d) (inr l) = let e : leb (at + 1 + first + second) end ≡ false = grind (arith, nat_tests) in rw e

    pub branch_first : 0 < depth → first + second < end - at
        → range depth at end ≡ ((range (depth - 1) (at + 1) (at + 1 + first) && range (depth - 1) (at + 1 + first) (at + 1 + first + second)) && range depth (at + 1 + first + second) end)
    branch_first deep fits =
        first_of depth at end some ∙ rw is (inside depth deep)
      where
        inside : (d : ℕ) → 0 < d → (branches_fit range d (Branch guard first second) at end && range depth (at + 1 + (first + second)) end)
            ≡ ((range (d - 1) (at + 1) (at + 1 + first) && range (d - 1) (at + 1 + first) (at + 1 + first + second)) && range depth (at + 1 + first + second) end)
        inside zero l = absurd (omega arith)
        inside (suc d) l =
            let e : leb (at + 1 + first + second) end ≡ true = grind (arith, nat_tests) in
            let p : suc d - 1 ≡ d = omega arith in
            let q : at + 1 + (first + second) ≡ at + 1 + first + second = omega arith in
            rw (e, p, q)

  plain : (depth at end : ℕ) (s : Statement) → here at ≡ s → at < end → branches_fit range depth s at end ≡ true → branch_rows s ≡ 0
      → range depth at end ≡ range depth (at + 1) end
  plain depth at end s e h fit none =
      let q : at + 1 + 0 ≡ at + 1 = omega arith in first_of depth at end h ∙ rw (e, fit, none, q)

  -- a range that begins with any other statement
  pub plain_first : (depth at end : ℕ) (s : Statement) → here at ≡ s → ((guard : Variable) (first second : ℕ) → s ≡ Branch guard first second → ⊥) → at < end
      → range depth at end ≡ range depth (at + 1) end
  plain_first depth at end (Constant to number) e other h = plain depth at end _ e h refl refl
  plain_first depth at end (Itself to) e other h = plain depth at end _ e h refl refl
  plain_first depth at end (Copy to from) e other h = plain depth at end _ e h refl refl
  plain_first depth at end (Add to left right) e other h = plain depth at end _ e h refl refl
  plain_first depth at end (Subtract to left right) e other h = plain depth at end _ e h refl refl
  plain_first depth at end (Less to left right) e other h = plain depth at end _ e h refl refl
  plain_first depth at end (Branch guard first second) e other h = absurd (other guard first second refl)
  plain_first depth at end (Invoke to receiver method arguments) e other h = plain depth at end _ e h refl refl
  plain_first depth at end (Get to future) e other h = plain depth at end _ e h refl refl
  plain_first depth at end (Create to class level) e other h = plain depth at end _ e h refl refl
  plain_first depth at end (Return value) e other h = plain depth at end _ e h refl refl

-- the branches of a statement, in one place and k further on, by two tests that agree where the range ends at most at `end`
branches_moved : (inner other : Ranges) (k depth : ℕ) (s : Statement) (at end : ℕ)
    → ((d low high : ℕ) → high ≤ end → inner d low high ≡ other d (k + low) (k + high)) → branches_fit inner depth s at end ≡ branches_fit other depth s (k + at) (k + end)
branches_moved inner other k depth (Constant to number) at end same = refl
branches_moved inner other k depth (Itself to) at end same = refl
branches_moved inner other k depth (Copy to from) at end same = refl
branches_moved inner other k depth (Add to left right) at end same = refl
branches_moved inner other k depth (Subtract to left right) at end same = refl
branches_moved inner other k depth (Less to left right) at end same = refl
branches_moved inner other k zero (Branch guard first second) at end same = refl
branches_moved inner other k (suc depth) (Branch guard first second) at end same =
    let m : k + (at + 1 + first + second) ≡ k + at + 1 + first + second = omega arith in
    let e : leb (at + 1 + first + second) end ≡ leb (k + at + 1 + first + second) (k + end) = leb_moved k (at + 1 + first + second) end ∙ ap (λ n. leb n (k + end)) m in
    let p : k + (at + 1) ≡ k + at + 1 = omega arith in
    let q : k + (at + 1 + first) ≡ k + at + 1 + first = omega arith in
    both_same (leb (at + 1 + first + second) end) _ _ _ _ (λ t. let h = leb-true _ _ t in (
      same depth _ _ (omega arith) ∙ (λ i. other depth (p i) (q i)),
      same depth _ _ h ∙ (λ i. other depth (q i) (m i)),
    ))
    ∙ (λ i. e i && (other depth (k + at + 1) (k + at + 1 + first) && other depth (k + at + 1 + first) (k + at + 1 + first + second)))
branches_moved inner other k depth (Invoke to receiver method arguments) at end same = refl
branches_moved inner other k depth (Get to future) at end same = refl
branches_moved inner other k depth (Create to class level) at end same = refl
branches_moved inner other k depth (Return value) at end same = refl

-- a range of statements that stand k further on in another body
moved : (one other : List Statement) (k fuel depth at end : ℕ) → ((i : ℕ) → i < end → get_or one i idle ≡ get_or other (k + i) idle)
    → nested fuel one depth at end ≡ nested fuel other depth (k + at) (k + end)
moved one other k zero depth at end same = leb_moved k end at
moved one other k (suc fuel) depth at end same =
    elim (cases_lt at end) [
      | inl lt ↦
          let e = same at lt in
          let s = get_or one at idle in
          let n : k + (at + 1 + branch_rows s) ≡ k + at + 1 + branch_rows (get_or other (k + at) idle) = omega (arith, ap branch_rows e) in
          let fit = branches_moved (nested fuel one) (nested fuel other) k depth s at end (λ d low high h. moved one other k fuel d low high (λ i l. same i (omega arith))) ∙ ap (λ x. branches_fit (nested fuel other) depth x (k + at) (k + end)) e in
          let rest = moved one other k fuel depth (at + 1 + branch_rows s) end same ∙ ap (λ m. nested fuel other depth m (k + end)) n in
          nested-some one fuel depth at end lt ∙ (λ i. fit i && rest i) ∙ sym (nested-some other fuel depth (k + at) (k + end) (omega arith))
      | inr ge ↦ nested-none one (suc fuel) depth at end ge ∙ sym (nested-none other (suc fuel) depth (k + at) (k + end) (omega arith))
    ]

-- statements as a range of their own
abbrev pub fits : ℕ → List Statement → Bool
fits depth body = nested (length body) body depth 0 (length body)

-- n statements from the place k on
part : (body : List Statement) (k n depth : ℕ) → k + n ≤ length body → fits depth (take n (drop k body)) ≡ range body depth k (k + n)
part body k n depth h =
    let long : length (take n (drop k body)) ≡ n = length-take-le n (drop k body) (simp length-drop (omega arith)) in
    let here : k + 0 ≡ k = omega arith in
    let few : n ≡ k + n - k = omega arith in
    ap (λ m. nested m (take n (drop k body)) depth 0 m) long
    ∙ moved (take n (drop k body)) body k n depth 0 n (λ i l. get_or-take n (drop k body) i idle l ∙ get_or-drop k body i idle)
    ∙ (λ i. nested (few i) body depth (here i) (k + n))

-- all from the place k on
back : (body : List Statement) (k depth : ℕ) → k ≤ length body → fits depth (drop k body) ≡ range body depth k (length body)
back body k depth h =
    let whole : k + (length body - k) ≡ length body = omega arith in
    ap (fits depth) (sym (take_rest body k)) ∙ part body k (length body - k) depth (omega arith) ∙ ap (range body depth k) whole

-- all of them
whole : (body : List Statement) (depth : ℕ) → fits depth body ≡ range body depth 0 (length body)
whole body depth = let few : length body ≡ length body - 0 = omega arith in ap (λ n. nested n body depth 0 (length body)) few

-- the first of some statements, and the rest
module _ (depth : ℕ) (body rest : List Statement) where
  pub fits_plain : (s : Statement) → body ≡ s ∷ rest → ((guard : Variable) (first second : ℕ) → s ≡ Branch guard first second → ⊥) → fits depth body ≡ fits depth rest
  fits_plain s e other =
      let some : 0 < length body = rw e (omega arith) in
      whole body depth ∙ plain_first body depth 0 (length body) s (ap (λ xs. get_or xs 0 idle) e) other some ∙ sym (back body 1 depth some) ∙ ap (λ xs. fits depth (drop 1 xs)) e

  module _ (guard : Variable) (first second : ℕ) (e : body ≡ Branch guard first second ∷ rest) where
    pub fits_never : (depth ≡ 0) ⊎ (length rest < first + second) → fits depth body ≡ false
    fits_never h =
        let long : length body ≡ suc (length rest) = ap length e in
        let some : 0 < length body = omega arith in
        let why : (depth ≡ 0) ⊎ (length body - 0 ≤ first + second) = elim h [ inl z ↦ inl z | inr l ↦ inr (omega arith) ] in
        whole body depth ∙ branch_never body depth 0 (length body) first second guard (ap (λ xs. get_or xs 0 idle) e) some why

    fits_branch : 0 < depth → first + second ≤ length rest
        → fits depth body ≡ ((fits (depth - 1) (take first rest) && fits (depth - 1) (take second (drop first rest))) && fits depth (drop second (drop first rest)))
    fits_branch deep h =
        let long : length body ≡ suc (length rest) = ap length e in
        let some : 0 < length body = omega arith in
        let r : drop 1 body ≡ rest = ap (λ xs. drop 1 xs) e in
        let q : drop (1 + first) body ≡ drop first rest = sym (drop-drop first 1 body) ∙ ap (drop first) r in
        let p : drop (1 + first + second) body ≡ drop second (drop first rest) = sym (drop-drop second (1 + first) body) ∙ ap (drop second) q in
        let one = part body 1 first (depth - 1) (omega arith) in
        let two = part body (1 + first) second (depth - 1) (omega arith) in
        let after = back body (1 + first + second) depth (omega arith) in
        whole body depth
        ∙ branch_first body depth 0 (length body) first second guard (ap (λ xs. get_or xs 0 idle) e) some deep (omega arith)
        ∙ sym (λ i. (one i && two i) && after i)
        ∙ (λ i. (fits (depth - 1) (take first (r i)) && fits (depth - 1) (take second (q i))) && fits depth (p i))

    -- the same, where the branches were cut off
    pub fits_cut : (m n : ℕ) (one mid two after : List Statement) → 0 < depth → m ≡ first → n ≡ second → IsSplitAt rest m one mid → IsSplitAt mid n two after
        → fits depth body ≡ ((fits (depth - 1) one && fits (depth - 1) two) && fits depth after)
    fits_cut m n one mid two after deep em en p q =
        let o : one ≡ take first rest = p.1 ∙ ap (λ k. take k rest) em in
        let d : mid ≡ drop first rest = p.2 ∙ ap (λ k. drop k rest) em in
        let t : two ≡ take second (drop first rest) = q.1 ∙ (λ i. take (en i) (d i)) in
        let a : after ≡ drop second (drop first rest) = q.2 ∙ (λ i. drop (en i) (d i)) in
        fits_branch deep (omega (arith, p.0, q.0, p.4, em, en)) ∙ sym (λ i. (fits (depth - 1) (o i) && fits (depth - 1) (t i)) && fits depth (a i))
