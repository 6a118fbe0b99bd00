-- A statement of a body stands in at most four branches.
use Rattle.std.proofs.Common.{◌≡◌, ℕ, zero, suc, ◌+◌, ◌-◌, ◌<◌, ◌≤◌, Bool, true, ltb, leb, ◌⊎◌, List, [], ◌∷◌, length, get_or, take, refl, ap, ◌∙◌, inl, inr, add-one, arith}
use Rattle.std.specs.List.{AllByRecursion}
use Rattle.std.proofs.lemmas.Bool.{cases_lt, and_parts, leb-true, le-ltb, lt-ltb, cond-true, cond-false}
use Rattle.std.proofs.lemmas.List.{get_or-take, length-take-le}
use Rattle.script.specs.declared.class.Statement.{Statement}
use Rattle.script.specs.declared.class.Statement.TheVariants.{Constant, Itself, Copy, Add, Subtract, Less, Branch, Invoke, Get, Create, Return}
use Rattle.script.specs.Bodies.{idle, branch_rows, branches_fit, nested, reaching, depth_at, stands, is_return, no_return}
use Rattle.script.specs.Classes.{Method, Class, Program}
use Rattle.script.specs.Layout.{every, method_formed, class_formed, well_formed, in_range}
use Rattle.script.specs.Laws.{FourDeep, NestsFourDeep}
use Rattle.script.proofs.Lines.{none}
use Rattle.script.proofs.Exactly.{only}

-- what it takes for branches to fit: there are none, or there are two, one less deep
record Split (inner : ℕ → ℕ → ℕ → Bool) (depth : ℕ) (s : Statement) (at end : ℕ) : Type 0 where
  less : ℕ
  first : ℕ
  second : ℕ
  deep : depth ≡ suc less
  rows : branch_rows s ≡ first + second
  ends : at + 1 + first + second ≤ end
  one : inner less (at + 1) (at + 1 + first) ≡ true
  two : inner less (at + 1 + first) (at + 1 + first + second) ≡ true

fit_cases : (inner : ℕ → ℕ → ℕ → Bool) (depth : ℕ) (s : Statement) (at end : ℕ) → branches_fit inner depth s at end ≡ true → (branch_rows s ≡ 0) ⊎ Split inner depth s at end
fit_cases inner depth (Constant to number) at end h = inl refl
fit_cases inner depth (Itself to) at end h = inl refl
fit_cases inner depth (Copy to from) at end h = inl refl
fit_cases inner depth (Add to left right) at end h = inl refl
fit_cases inner depth (Subtract to left right) at end h = inl refl
fit_cases inner depth (Less to left right) at end h = inl refl
fit_cases inner zero (Branch guard first second) at end h = none (cc)
fit_cases inner (suc depth) (Branch guard first second) at end h =
    let p = and_parts (leb (at + 1 + first + second) end) _ h in
    let q = and_parts (inner depth (at + 1) (at + 1 + first)) _ p.1 in
    inr (record { less = depth; first = first; second = second; deep = refl; rows = refl; ends = leb-true _ _ p.0; one = q.0; two = q.1 })
fit_cases inner depth (Invoke to receiver method arguments) at end h = inl refl
fit_cases inner depth (Get to future) at end h = inl refl
fit_cases inner depth (Create to class level) at end h = inl refl
fit_cases inner depth (Return value) at end h = inl refl

module _ (body : List Statement) (i : ℕ) where
  abbrev rows : ℕ → ℕ
  rows n = branch_rows (get_or body n idle)

  -- one statement more, which reaches i or does not
  reaches : (n : ℕ) → i < n + 1 + rows n → reaching body i (n + 1) ≡ 1 + reaching body i n
  reaches n h = rw add-one (ap (λ k. k + reaching body i n) (cond-true (ltb i (n + 1 + rows n)) 1 0 (lt-ltb i _ h)))

  misses : (n : ℕ) → n + 1 + rows n ≤ i → reaching body i (n + 1) ≡ reaching body i n
  misses n h = rw add-one (ap (λ k. k + reaching body i n) (cond-false (ltb i (n + 1 + rows n)) 1 0 (le-ltb i _ h)) ∙ omega arith)

  -- the first statement of a range and the rest
  by_range : (fuel depth at end : ℕ) → at < end → nested (suc fuel) body depth at end ≡ true
      → ((rows at ≡ 0) ⊎ Split (nested fuel body) depth (get_or body at idle) at end) × (nested fuel body depth (at + 1 + rows at) end ≡ true)
  by_range fuel depth at end h n =
      let t : ltb at end ≡ true = lt-ltb at end h in
      let p = and_parts (branches_fit (nested fuel body) depth (get_or body at idle) at end) _ (rw t at n) in
      (fit_cases (nested fuel body) depth (get_or body at idle) at end p.0, p.1)

  -- no statement of a range reaches past it
  inside : (fuel depth at end : ℕ) → nested fuel body depth at end ≡ true → at ≤ end → end ≤ i → reaching body i end ≡ reaching body i at
  inside zero depth at end n h k = let s : end ≡ at = omega (arith, leb-true end at n) in ap (reaching body i) s
  inside (suc fuel) depth at end n h k =
      elim (cases_lt at end) [
        | inl lt ↦
            let p = by_range fuel depth at end lt n in
            elim p.0 [
              | inl z ↦
                  let next : at + 1 + rows at ≡ at + 1 = omega arith in
                  inside fuel depth (at + 1 + rows at) end p.1 (omega arith) k ∙ ap (reaching body i) next ∙ misses at (omega arith)
              | inr s ↦
                  let next : at + 1 + rows at ≡ at + 1 + s.first + s.second = omega (arith, s.rows) in
                  inside fuel depth (at + 1 + rows at) end p.1 (omega (arith, s.ends)) k ∙ ap (reaching body i) next
                  ∙ inside fuel s.less (at + 1 + s.first) (at + 1 + s.first + s.second) s.two (omega arith) (omega (arith, s.ends))
                  ∙ inside fuel s.less (at + 1) (at + 1 + s.first) s.one (omega arith) (omega (arith, s.ends))
                  ∙ misses at (omega (arith, s.rows, s.ends))
            ]
        | inr ge ↦ let s : end ≡ at = omega arith in ap (reaching body i) s
      ]

  -- in a range, at most so many branches are added
  deeper : (fuel depth at end : ℕ) → nested fuel body depth at end ≡ true → at ≤ i → i < end → reaching body i i ≤ reaching body i at + depth
  deeper zero depth at end n h k = absurd (omega (arith, leb-true end at n))
  deeper (suc fuel) depth at end n h k =
      let p = by_range fuel depth at end (omega arith) n in
      elim (cases_lt at i) [
        | inl past ↦
            elim p.0 [
              | inl z ↦
                  let next : at + 1 + rows at ≡ at + 1 = omega arith in
                  let e = ap (reaching body i) next ∙ misses at (omega arith) in
                  omega (arith, e, deeper fuel depth (at + 1 + rows at) end p.1 (omega arith) k)
              | inr s ↦
                  elim (cases_lt i (at + 1 + s.first)) [
                    | inl in_first ↦
                        omega (arith, s.deep, reaches at (omega (arith, s.rows)), deeper fuel s.less (at + 1) (at + 1 + s.first) s.one (omega arith) in_first)
                    | inr later ↦
                        let over = inside fuel s.less (at + 1) (at + 1 + s.first) s.one (omega arith) later in
                        elim (cases_lt i (at + 1 + s.first + s.second)) [
                          | inl in_second ↦
                              omega (arith, s.deep, reaches at (omega (arith, s.rows)), over, deeper fuel s.less (at + 1 + s.first) (at + 1 + s.first + s.second) s.two later in_second)
                          | inr after ↦
                              let past_both = inside fuel s.less (at + 1 + s.first) (at + 1 + s.first + s.second) s.two (omega arith) after in
                              let next : at + 1 + rows at ≡ at + 1 + s.first + s.second = omega (arith, s.rows) in
                              omega (arith, ap (reaching body i) next, past_both, over, misses at (omega (arith, s.rows)), deeper fuel depth (at + 1 + rows at) end p.1 (omega (arith, s.rows)) k)
                        ]
                  ]
            ]
        | inr here ↦ let s : i ≡ at = omega arith in omega (arith, ap (reaching body i) s)
      ]

-- what is before i is all that counts
reaching_same : (one other : List Statement) (i n : ℕ) → ((k : ℕ) → k < n → get_or one k idle ≡ get_or other k idle) → reaching one i n ≡ reaching other i n
reaching_same one other i zero h = refl
reaching_same one other i (suc n) h = rw (h n (omega arith), reaching_same one other i n (λ k l. h k (omega arith)))

pub body_depth : (body : List Statement) (i : ℕ) → stands body ≡ true → i < length body → depth_at body i ≤ 4
body_depth body i h lt =
    let front = take (length body - 1) body in
    let a = and_parts (ltb 0 (length body)) _ h in
    let b = and_parts (is_return (get_or body (length body - 1) idle)) _ a.1 in
    let c = and_parts (no_return front) _ b.1 in
    let long : length front ≡ length body - 1 = length-take-le (length body - 1) body (omega arith) in
    let same = reaching_same front body i i (λ k l. get_or-take (length body - 1) body k idle (omega arith)) in
    elim (cases_lt i (length front)) [
      | inl before ↦ omega (arith, same, deeper front i (length front) 4 0 (length front) c.1 (omega arith) before)
      | inr last ↦ let e : i ≡ length front = omega arith in omega (arith, same, ap (reaching front i) e, inside front i (length front) 4 0 (length front) c.1 (omega arith) last)
    ]

-- and so in every method of every class
method_deep : (levels fields : ℕ) (m : Method) → method_formed levels fields m ≡ true → (at : ℕ) → at < length m.statements → depth_at m.statements at ≤ 4
method_deep levels fields m h at lt =
    let a = and_parts (ltb m.parameters 5) _ h in
    let b = and_parts (leb (length m.statements) 32) _ a.1 in
    let c = and_parts (every (in_range levels fields) m.statements) _ b.1 in
    body_depth m.statements at c.1 lt

all_of : {X : Type 0} (test : X → Bool) (P : X → Type 0) (xs : List X) → ((x : X) → test x ≡ true → P x) → every test xs ≡ true → AllByRecursion P xs
all_of test P [] f h = tt
all_of test P (x ∷ xs) f h = let p = and_parts (test x) (every test xs) h in (f x p.0, all_of test P xs f p.1)

class_deep : (levels : ℕ) (c : Class) → class_formed levels c ≡ true → AllByRecursion (λ (m : Method). (at : ℕ) → at < length m.statements → depth_at m.statements at ≤ 4) c.methods
class_deep levels c h =
    let a = and_parts (leb (length c.fields) 8) _ h in
    let b = and_parts (leb (length c.methods) 4) _ a.1 in
    let d = and_parts (ltb 0 (length c.fields + length c.methods)) _ b.1 in
    let e = and_parts (every (λ l. ltb l levels) c.fields) _ d.1 in
    all_of (method_formed levels (length c.fields)) _ c.methods (method_deep levels (length c.fields)) e.1

pub four_deep : (levels : ℕ) (p : Program) → well_formed levels p ≡ true → FourDeep p
four_deep levels p h = let a = and_parts (leb (length p) 8) _ h in all_of (class_formed levels) _ p (class_deep levels) a.1

pub nests_four_deep : (levels : ℕ) → NestsFourDeep levels
nests_four_deep levels text p e = four_deep levels p (only levels text p e).1
