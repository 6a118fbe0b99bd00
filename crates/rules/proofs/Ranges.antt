-- Ranges of statements: which variables they assign, and how their branches nest.
use Rattle.std.proofs.Common.{◌≡◌, ℕ, zero, suc, ◌+◌, ◌<◌, ◌≤◌, true, eqb, ltb, leb, List, get_or, refl, inl, inr, arith}
use Rattle.std.proofs.lemmas.Bool.Decides.{nat_tests}
use Rattle.script.specs.declared.class.Variable.{Variable}
use Rattle.script.specs.declared.class.Statement.{Statement}
use Rattle.script.specs.declared.class.Statement.TheVariants.{Branch}
use Rattle.script.specs.Bodies.{idle, branch_rows, branches_fit, nested}
use Rattle.rules.specs.Wrapper.{target, assigns, assigned}
use Rattle.rules.proofs.Listing.{either, clash, eq_is, both_left, both_right, or_cases, or_right}

-- WHICH STATEMENTS ASSIGN WHAT

-- some statement from lo up to hi assigns x
abbrev pub Hit : List Statement → ℕ → ℕ → Variable → Type 0
Hit body lo hi x = (k : ℕ) × (lo ≤ k) × (k < hi) × (assigns (target (get_or body k idle)) x ≡ true)

pub wider : (body : List Statement) (lo hi lo' hi' : ℕ) (x : Variable) → lo ≤ lo' → hi' ≤ hi → Hit body lo' hi' x → Hit body lo hi x
wider body lo hi lo' hi' x a b (k, c, d, h) = (k, omega arith, omega arith, h)

pub hit_assigned : (body : List Statement) (lo n : ℕ) (x : Variable) → Hit body lo (lo + n) x → assigned body lo n x ≡ true
hit_assigned body lo zero x (k, a, b, h) = absurd (omega arith)
hit_assigned body lo (suc n) x (k, a, b, h) =
    elim (either (eqb lo k)) [
      | inl e ↦ let q : lo ≡ k = eq_is lo k e in rw (q, h)
      | inr e ↦ or_right _ _ (hit_assigned body (suc lo) n x (k, grind (arith, nat_tests), omega arith, h))
    ]

pub assigned_hit : (body : List Statement) (lo n : ℕ) (x : Variable) → assigned body lo n x ≡ true → Hit body lo (lo + n) x
assigned_hit body lo zero x h = clash h refl
assigned_hit body lo (suc n) x h =
    elim (or_cases _ _ h) [
      | inl e ↦ (lo, omega arith, omega arith, e)
      | inr e ↦ wider body lo (lo + suc n) (suc lo) (suc lo + n) x (omega arith) (omega arith) (assigned_hit body (suc lo) n x e)
    ]

-- HOW BRANCHES NEST

-- the two parts of a range: the branches of its first statement, and what follows
pub nested_parts : (f depth at end : ℕ) (body : List Statement) → nested (suc f) body depth at end ≡ true → ltb at end ≡ true
    → (branches_fit (nested f body) depth (get_or body at idle) at end ≡ true) × (nested f body depth (at + 1 + branch_rows (get_or body at idle)) end ≡ true)
nested_parts f depth at end body n e =
    let here = branches_fit (nested f body) depth (get_or body at idle) at end in
    let all = rw e at n in
    (both_left here _ all, both_right here _ all)

-- the branches of an I end inside its range, and each is a range of its own
pub branch_fits : (body : List Statement) (f : ℕ) (x : Variable) (first second at end depth : ℕ) (P : Type 0)
    → ((d : ℕ) → at + 1 + first + second ≤ end → nested f body d (at + 1) (at + 1 + first) ≡ true
    → nested f body d (at + 1 + first) (at + 1 + first + second) ≡ true → P)
    → branches_fit (nested f body) depth (Branch x first second) at end ≡ true → P
branch_fits body f x first second at end zero P h e = clash e refl
branch_fits body f x first second at end (suc depth) P h e =
    let a = both_left (leb (at + 1 + first + second) end) _ e in
    let b = both_right (leb (at + 1 + first + second) end) _ e in
    h depth (grind (arith, nat_tests)) (both_left (nested f body depth (at + 1) (at + 1 + first)) _ b)
    (both_right (nested f body depth (at + 1) (at + 1 + first)) _ b)
