-- Where a statement leads into a range: it is one of the statement's own branches.
use Rattle.std.proofs.Common.{◌≡◌, ℕ, zero, suc, ◌+◌, ◌-◌, ◌<◌, ◌≤◌, Bool, true, false, cond, ◌&&◌, ltb, leb, ◌⊎◌, List, refl, inl, inr, arith}
use Rattle.std.proofs.lemmas.Bool.{cases_Bool, leb-true}
use Rattle.order.specs.Levels.{Levels}
use Rattle.script.specs.declared.class.Variable.{Variable}
use Rattle.script.specs.declared.class.Statement.{Statement}
use Rattle.script.specs.declared.class.Statement.TheVariants.{Constant, Itself, Copy, Add, Subtract, Less, Branch, Invoke, Get, Create, Return}
use Rattle.script.specs.Classes.{Program}
use Rattle.script.specs.Bodies.{branch_rows, branches_fit}
use Rattle.script.proofs.Nesting.{range}
use Rattle.rules.specs.declared.values.Value.{Value}
use Rattle.rules.specs.declared.values.Value.TheVariants.{Number, ObjectName, FutureName, Marked}
use Rattle.rules.specs.Values.{nonzero}
use Rattle.rules.specs.Statements.{Scene, Running, Fetched, gives, waits, read, fetched}
use Rattle.rules.proofs.Listing.{both_left, both_right}
use Rattle.stepper.specs.declared.machine.Next.{Next}
use Rattle.stepper.specs.declared.machine.Next.TheVariants.{On, Enter, Hold}
use Rattle.stepper.specs.Halves.{picked, waiting, does_lead, passes, leads}

-- a statement and its branches end within their range
pub inside : (body : List Statement) (d at end : ℕ) (s : Statement) → at < end → branches_fit (range body) d s at end ≡ true → at + 1 + branch_rows s ≤ end
inside body d at end (Constant to k) h n = omega arith
inside body d at end (Itself to) h n = omega arith
inside body d at end (Copy to x) h n = omega arith
inside body d at end (Add to x y) h n = omega arith
inside body d at end (Subtract to x y) h n = omega arith
inside body d at end (Less to x y) h n = omega arith
inside body zero at end (Branch x first second) h n = let z : ◌≡◌ {A = ℕ} 0 1 = cc in absurd (omega arith)
inside body (suc d) at end (Branch x first second) h n =
    omega (arith, leb-true (at + 1 + first + second) end (both_left (leb (at + 1 + first + second) end) (range body d (at + 1) (at + 1 + first) && range body d (at + 1 + first) (at + 1 + first + second)) n))
inside body d at end (Invoke to x method xs) h n = omega arith
inside body d at end (Get to x) h n = omega arith
inside body d at end (Create to class level) h n = omega arith
inside body d at end (Return x) h n = omega arith

module _ (o : Levels) (program : Program) (scene : Scene) where
  -- a range that the statement s leads into: one of its branches, which nest less deep, in its own context or a join with it
  pub record Entered (d : ℕ) (s : Statement) (at context from to inner : ℕ) : Type 0 where
    pub room : 1 ≤ d
    pub nested : range scene.body (d - 1) from to ≡ true
    pub after : at + 1 ≤ from
    pub before : to ≤ at + 1 + branch_rows s
    pub level : (inner ≡ context) ⊎ ((g : ℕ) × (inner ≡ o.join g context))

  no_way : {A : Type 0} (from to inner : ℕ) (n : Next) → n ≡ On ⊎ n ≡ Hold → Enter from to inner ≡ n → A
  no_way from to inner n (inl e) q = let z : ◌≡◌ {A = ℕ} 0 1 = cc in absurd (omega arith)
  no_way from to inner n (inr e) q = let z : ◌≡◌ {A = ℕ} 0 1 = cc in absurd (omega arith)

  -- the two branches of a statement, in some context
  module _ (d : ℕ) (x : Variable) (first second at end context l : ℕ) (fit : branches_fit (range scene.body) d (Branch x first second) at end ≡ true)
      (l_is : (l ≡ context) ⊎ ((g : ℕ) × (l ≡ o.join g context))) where
    abbrev s : Statement
    s = Branch x first second

    deep : (d : ℕ) → branches_fit (range scene.body) d s at end ≡ true → 1 ≤ d
    deep zero n = let z : ◌≡◌ {A = ℕ} 0 1 = cc in absurd (omega arith)
    deep (suc d) n = omega arith

    both : (d : ℕ) → branches_fit (range scene.body) d s at end ≡ true
        → (range scene.body (d - 1) (at + 1) (at + 1 + first) && range scene.body (d - 1) (at + 1 + first) (at + 1 + first + second)) ≡ true
    both zero n = let z : ◌≡◌ {A = ℕ} 0 1 = cc in absurd (omega arith)
    both (suc d) n = let p : suc d - 1 ≡ d = omega arith in rw p (both_right _ _ n)

    first_entered : (from to inner : ℕ) → Enter from to inner ≡ Enter (at + 1) (at + 1 + first) l → Entered d s at context from to inner
    first_entered from to inner q =
        let f : from ≡ at + 1 = cc in
        let t : to ≡ at + 1 + first = cc in
        let m : inner ≡ l = cc in
        record { room = deep d fit; nested = rw (f, t) (both_left _ _ (both d fit)); after = omega arith; before = omega arith; level = rw m l_is }

    second_entered : (from to inner : ℕ) → Enter from to inner ≡ Enter (at + 1 + first) (at + 1 + first + second) l → Entered d s at context from to inner
    second_entered from to inner q =
        let f : from ≡ at + 1 + first = cc in
        let t : to ≡ at + 1 + first + second = cc in
        let m : inner ≡ l = cc in
        record { room = deep d fit; nested = rw (f, t) (both_right _ _ (both d fit)); after = omega arith; before = omega arith; level = rw m l_is }

    pub picked_entered : (v : Value) (from to inner : ℕ)
        → Enter from to inner ≡ picked v (Enter (at + 1) (at + 1 + first) l) (Enter (at + 1 + first) (at + 1 + first + second) l) → Entered d s at context from to inner
    picked_entered (Number k) from to inner q =
        elim (cases_Bool (nonzero k)) [ inl e ↦ first_entered from to inner (rw e at q) | inr e ↦ second_entered from to inner (rw e at q) ]
    picked_entered (ObjectName n) from to inner q = no_way from to inner On (inl refl) q
    picked_entered (FutureName n) from to inner q = no_way from to inner On (inl refl) q
    picked_entered (Marked k) from to inner q = no_way from to inner On (inl refl) q

    pub passed_entered : (a b : Bool) (from to inner : ℕ)
        → Enter from to inner ≡ cond a (Enter (at + 1) (at + 1 + first) l) (cond b (Enter (at + 1 + first) (at + 1 + first + second) l) On) → Entered d s at context from to inner
    passed_entered true b from to inner q = first_entered from to inner q
    passed_entered false true from to inner q = second_entered from to inner q
    passed_entered false false from to inner q = no_way from to inner On (inl refl) q

  waiting_never : (f : Fetched) → waiting f ≡ On ⊎ waiting f ≡ Hold
  waiting_never (gives m) = inl refl
  waiting_never waits = inr refl

  module _ (d at end context from to inner : ℕ) (r : Running) where
    does_enter : (s : Statement) → branches_fit (range scene.body) d s at end ≡ true
        → Enter from to inner ≡ does_lead o program scene s at context r → Entered d s at context from to inner
    does_enter (Constant x k) n q = no_way from to inner On (inl refl) q
    does_enter (Itself x) n q = no_way from to inner On (inl refl) q
    does_enter (Copy x y) n q = no_way from to inner On (inl refl) q
    does_enter (Add x y z) n q = no_way from to inner On (inl refl) q
    does_enter (Subtract x y z) n q = no_way from to inner On (inl refl) q
    does_enter (Less x y z) n q = no_way from to inner On (inl refl) q
    does_enter (Branch x first second) n q = picked_entered d x first second at end context _ n (inr ((read r x).label, refl)) (read r x).value from to inner q
    does_enter (Invoke x y method xs) n q = no_way from to inner On (inl refl) q
    does_enter (Get x y) n q = no_way from to inner _ (waiting_never (fetched o program scene r.tables context (read r y).value (read r y).label)) q
    does_enter (Create x class level) n q = no_way from to inner On (inl refl) q
    does_enter (Return x) n q = no_way from to inner On (inl refl) q

    passes_enter : (s : Statement) → branches_fit (range scene.body) d s at end ≡ true
        → Enter from to inner ≡ passes scene.from s at context → Entered d s at context from to inner
    passes_enter (Constant x k) n q = no_way from to inner On (inl refl) q
    passes_enter (Itself x) n q = no_way from to inner On (inl refl) q
    passes_enter (Copy x y) n q = no_way from to inner On (inl refl) q
    passes_enter (Add x y z) n q = no_way from to inner On (inl refl) q
    passes_enter (Subtract x y z) n q = no_way from to inner On (inl refl) q
    passes_enter (Less x y z) n q = no_way from to inner On (inl refl) q
    passes_enter (Branch x first second) n q =
        passed_entered d x first second at end context context n (inl refl) (ltb scene.from (at + 1 + first)) (ltb scene.from (at + 1 + first + second)) from to inner q
    passes_enter (Invoke x y method xs) n q = no_way from to inner On (inl refl) q
    passes_enter (Get x y) n q = no_way from to inner On (inl refl) q
    passes_enter (Create x class level) n q = no_way from to inner On (inl refl) q
    passes_enter (Return x) n q = no_way from to inner On (inl refl) q

    pub enters : (s : Statement) → branches_fit (range scene.body) d s at end ≡ true
        → Enter from to inner ≡ leads o program scene s at context r → Entered d s at context from to inner
    enters s n q =
        elim (cases_Bool (ltb at scene.from)) [ inl e ↦ passes_enter s n (rw e at q) | inr e ↦ does_enter s n (rw e at q) ]
