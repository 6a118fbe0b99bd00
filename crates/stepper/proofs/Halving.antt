-- A statement of the rules is its two halves.
use Rattle.std.proofs.Common.{◌≡◌, ℕ, ◌+◌, Bool, true, false, cond, ltb, refl}
use Rattle.order.specs.Levels.{Levels}
use Rattle.script.specs.declared.class.Variable.{Variable}
use Rattle.script.specs.declared.class.Statement.{Statement}
use Rattle.script.specs.declared.class.Statement.TheVariants.{Constant, Itself, Copy, Add, Subtract, Less, Branch, Invoke, Get, Create, Return}
use Rattle.script.specs.Classes.{Program}
use Rattle.rules.specs.declared.values.Value.{Value}
use Rattle.rules.specs.declared.values.Value.TheVariants.{Number, ObjectName, FutureName, Marked}
use Rattle.rules.specs.Values.{nonzero}
use Rattle.rules.specs.Statements.{Scene, Running, done, Run, read, raise, Fetched, gives, waits, branch, received, act}
use Rattle.rules.specs.Turns.{passing}
use Rattle.stepper.specs.declared.machine.Next.{Next}
use Rattle.stepper.specs.declared.machine.Next.TheVariants.{On, Enter}
use Rattle.stepper.specs.Halves.{after, picked, waiting, taken, does_change, does_lead, passes, TwoHalves}

-- a choice between two ranges
after_either : (go : Run) (at : ℕ) (b : Bool) (x y : Next) (r : Running)
    → elim b [ true ↦ after go at x r | false ↦ after go at y r ] ≡ after go at (cond b x y) r
after_either go at true x y r = refl
after_either go at false x y r = refl

branch_halves : (go : Run) (at : ℕ) (v : Value) (f t f' t' l : ℕ) (r : Running)
    → branch v (go f t l) (go f' t' l) r ≡ after go at (picked v (Enter f t l) (Enter f' t' l)) r
branch_halves go at (Number k) f t f' t' l r = after_either go at (nonzero k) (Enter f t l) (Enter f' t' l) r
branch_halves go at (ObjectName n) f t f' t' l r = refl
branch_halves go at (FutureName n) f t f' t' l r = refl
branch_halves go at (Marked k) f t f' t' l r = refl

module _ (o : Levels) (program : Program) (scene : Scene) where
  get_halves : (go : Run) (at context : ℕ) (to : Variable) (r : Running) (f : Fetched)
      → received o program scene context at to r f ≡ after go at (waiting f) (taken o program scene context at to r f)
  get_halves go at context to r (gives m) = refl
  get_halves go at context to r waits = refl

  act_halves : (go : Run) (s : Statement) (at context : ℕ) (r : Running)
      → act o program scene go s at context r ≡ after go at (does_lead o program scene s at context r) (does_change o program scene s at context r)
  act_halves go (Constant to k) at context r = refl
  act_halves go (Itself to) at context r = refl
  act_halves go (Copy to x) at context r = refl
  act_halves go (Add to x y) at context r = refl
  act_halves go (Subtract to x y) at context r = refl
  act_halves go (Less to x y) at context r = refl
  act_halves go (Branch x first second) at context r =
      let g = (read r x).label in
      branch_halves go at (read r x).value (at + 1) (at + 1 + first) (at + 1 + first) (at + 1 + first + second) (o.join g context)
      (raise o program scene g context (at + 1) (first + second) r)
  act_halves go (Invoke to x method xs) at context r = refl
  act_halves go (Get to x) at context r = get_halves go at context to r _
  act_halves go (Create to class level) at context r = refl
  act_halves go (Return x) at context r = refl

  passing_halves : (go : Run) (s : Statement) (at context : ℕ) (r : Running)
      → passing o program scene go s at context r ≡ after go at (passes scene.from s at context) r
  passing_halves go (Constant to k) at context r = refl
  passing_halves go (Itself to) at context r = refl
  passing_halves go (Copy to x) at context r = refl
  passing_halves go (Add to x y) at context r = refl
  passing_halves go (Subtract to x y) at context r = refl
  passing_halves go (Less to x y) at context r = refl
  passing_halves go (Branch x first second) at context r = choice (ltb scene.from (at + 1 + first)) (ltb scene.from (at + 1 + first + second)) _ _
    where
      choice : (a b : Bool) (x y : Next)
          → elim a [ true ↦ after go at x r | false ↦ elim b [ true ↦ after go at y r | false ↦ done r ] ] ≡ after go at (cond a x (cond b y On)) r
      choice true b x y = refl
      choice false b x y = after_either go at b y On r
  passing_halves go (Invoke to x method xs) at context r = refl
  passing_halves go (Get to x) at context r = refl
  passing_halves go (Create to class level) at context r = refl
  passing_halves go (Return x) at context r = refl

pub two_halves : TwoHalves
two_halves o program scene go s at context r =
    elim (ltb at scene.from) as
    (λ b. elim b [ true ↦ passing o program scene go s at context r | false ↦ act o program scene go s at context r ]
    ≡ after go at (cond b (passes scene.from s at context) (does_lead o program scene s at context r)) (cond b r (does_change o program scene s at context r)))
    [ true ↦ passing_halves o program scene go s at context r | false ↦ act_halves o program scene go s at context r ]
