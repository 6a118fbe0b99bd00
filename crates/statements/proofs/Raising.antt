-- What the statements of a range assign, and what a branch raises.
use Rattle.std.proofs.Common.{◌≡◌, ℕ, zero, suc, ◌+◌, ◌-◌, ◌<◌, Bool, true, false, cond, not, ◌&&◌, ◌||◌, nat_eq, List, get_or, take, drop, Some, None, Option, sym, refl, ap, ◌∙◌, inl, inr, arith}
use mathlib.Core.Path.{fun_ext}
use Rattle.std.proofs.Math.Bool.{or-false, or_assoc}
use Rattle.std.proofs.lemmas.Bool.{cases_eq, ne_eqb}
use Rattle.std.proofs.lemmas.List.{get_or-drop, get_or-take}
use Rattle.order.specs.Levels.{Levels}
use Rattle.script.specs.declared.class.Variable.{Variable}
use Rattle.script.specs.declared.class.Variable.TheVariants.{Local, Field}
use Rattle.script.specs.declared.class.Statement.{Statement}
use Rattle.script.specs.Bodies.{idle}
use Rattle.script.specs.Classes.{Program}
use Rattle.rules.specs.declared.values.Labelled.{Labelled}
use Rattle.rules.specs.Lists.{update}
use Rattle.rules.specs.Values.{labelled}
use Rattle.rules.specs.Tables.{State}
use Rattle.rules.specs.Wrapper.{target, assigns, assigned}
use Rattle.rules.specs.Statements.{Scene, Running, read, stored, raised, raise}

-- a range with one statement more
assigned_more : (body : List Statement) (at n : ℕ) (x : Variable)
    → assigned body at (suc n) x ≡ (assigned body at n x || assigns (target (get_or body (at + n) idle)) x)
assigned_more body at zero x =
    let same : at ≡ at + 0 = omega arith in
    or-false _ ∙ ap (λ j. assigns (target (get_or body j idle)) x) same
assigned_more body at (suc n) x =
    let same : suc at + n ≡ at + suc n = omega arith in
    ap (λ b. assigns (target (get_or body at idle)) x || b) (assigned_more body (suc at) n x)
    ∙ sym (or_assoc (assigns (target (get_or body at idle)) x) (assigned body (suc at) n x) (assigns (target (get_or body (suc at + n) idle)) x))
    ∙ ap (λ j. assigned body at (suc n) x || assigns (target (get_or body j idle)) x) same

-- a statement of a slice of the body, by its place in the body
pub slice_item : (body : List Statement) (at n i : ℕ) → i < n → get_or (take (at + n - at) (drop at body)) i idle ≡ get_or body (at + i) idle
slice_item body at n i h = get_or-take (at + n - at) (drop at body) i idle (omega arith) ∙ get_or-drop at body i idle

-- a value with its label raised
abbrev pub lifted : Levels → ℕ → Labelled → Labelled
lifted o by y = labelled y.value (o.join y.label by)

-- what f makes of i's value in g is put at i in h: at any place k, f may as well be given k's value in g
update_from : (f : Labelled → Labelled) (g h : ℕ → Labelled) (i k : ℕ) → update h i (f (g i)) k ≡ cond (nat_eq i k) (f (g k)) (h k)
update_from f g h i k =
    elim (cases_eq i k) [
      | inl same ↦ ap (λ j. cond (nat_eq i k) (f (g j)) (h k)) same
      | inr other ↦ ap (λ b. cond b (f (g i)) (h k)) (ne_eqb i k other) ∙ ap (λ b. cond b (f (g k)) (h k)) (sym (ne_eqb i k other))
    ]

-- what is done of a statement that assigns a variable, or none: that variable is raised, from what it held before
abbrev pub with_raised : Levels → (by : ℕ) → Option Variable → (before now : Running) → Running
with_raised o by None before now = now
with_raised o by (Some x) before now = stored now x (lifted o by (read before x))

pub with_raised_some : (o : Levels) (by : ℕ) (to : Option Variable) (before now after : Running) (x : Variable) (y : Labelled)
    → to ≡ Some x → y ≡ lifted o by (read before x) → after ≡ stored now x y → after ≡ with_raised o by to before now
with_raised_some o by to before now after x y e higher put = put ∙ ap (stored now x) higher ∙ ap (λ t. with_raised o by t before now) (sym e)

pub with_raised_none : (o : Levels) (by : ℕ) (to : Option Variable) (before now : Running) → ((x : Variable) → to ≡ Some x → ⊥)
    → now ≡ with_raised o by to before now
with_raised_none o by None before now h = refl
with_raised_none o by (Some x) before now h = absurd (h x refl)

same_running : (f g h k : ℕ → Labelled) (σ : State) → f ≡ g → h ≡ k
    → ◌≡◌ {A = Running} (record { locals = f; fields = h; tables = σ }) (record { locals = g; fields = k; tables = σ })
same_running f g h k σ d e = ap (λ x. record { locals = x; fields = h; tables = σ }) d ∙ ap (λ x. record { locals = g; fields = x; tables = σ }) e

module _ (o : Levels) (program : Program) (scene : Scene) (g context by : ℕ) (flows : false ≡ o.flow g context) (joined : by ≡ o.join g context) where
  -- raised by one test or another: raised by the other, and else by the first
  raised_or : (b c : Bool) (x : Labelled)
      → raised o program scene g context (b || c) x ≡ cond c (lifted o by x) (raised o program scene g context b x)
  raised_or b c x =
      ap (λ f. cond (not f && (b || c)) (lifted o (o.join g context) x) x) (sym flows) ∙ either b c
      ∙ ap (λ f. cond c (lifted o (o.join g context) x) (cond (not f && b) (lifted o (o.join g context) x) x)) flows
      ∙ ap (λ l. cond c (lifted o l x) (raised o program scene g context b x)) (sym joined)
    where
      either : (b c : Bool) → cond (b || c) (lifted o (o.join g context) x) x ≡ cond c (lifted o (o.join g context) x) (cond b (lifted o (o.join g context) x) x)
      either true true = refl
      either true false = refl
      either false true = refl
      either false false = refl

  module _ (start n : ℕ) where
    -- one place, with one statement more
    one_more : (to : Option Variable) → to ≡ target (get_or scene.body (start + n) idle) → (x : Variable) (y : Labelled)
        → cond (assigns to x) (lifted o by y) (raised o program scene g context (assigned scene.body start n x) y)
        ≡ raised o program scene g context (assigned scene.body start (suc n) x) y
    one_more to e x y =
        sym (raised_or (assigned scene.body start n x) (assigns to x) y)
        ∙ ap (λ t. raised o program scene g context (assigned scene.body start n x || assigns t x) y) e
        ∙ ap (λ b. raised o program scene g context b y) (sym (assigned_more scene.body start n x))

    -- all places, with one statement more
    raise_more : (to : Option Variable) → to ≡ target (get_or scene.body (start + n) idle) → (r : Running)
        → with_raised o by to r (raise o program scene g context start n r) ≡ raise o program scene g context start (suc n) r
    raise_more None e r =
        same_running _ _ _ _ r.tables (fun_ext (λ k. one_more None e (Local k) (r.locals k))) (fun_ext (λ k. one_more None e (Field k) (r.fields k)))
    raise_more (Some (Local i)) e r =
        same_running _ _ _ _ r.tables
        (fun_ext (λ k. update_from (lifted o by) r.locals (raise o program scene g context start n r).locals i k ∙ one_more (Some (Local i)) e (Local k) (r.locals k)))
        (fun_ext (λ k. one_more (Some (Local i)) e (Field k) (r.fields k)))
    raise_more (Some (Field i)) e r =
        same_running _ _ _ _ r.tables
        (fun_ext (λ k. one_more (Some (Field i)) e (Local k) (r.locals k)))
        (fun_ext (λ k. update_from (lifted o by) r.fields (raise o program scene g context start n r).fields i k ∙ one_more (Some (Field i)) e (Field k) (r.fields k)))

    -- the same, of what the loop holds before and after the statement
    pub raise_next : (to : Option Variable) → to ≡ target (get_or scene.body (start + n) idle) → (before now after : Running)
        → now ≡ raise o program scene g context start n before → after ≡ with_raised o by to before now
        → after ≡ raise o program scene g context start (n + 1) before
    raise_next to e before now after so_far put =
        let more : suc n ≡ n + 1 = omega arith in
        put ∙ ap (with_raised o by to before) so_far ∙ raise_more to e before ∙ ap (λ m. raise o program scene g context start m before) more
