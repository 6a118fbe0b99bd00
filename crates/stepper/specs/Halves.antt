-- One statement in two halves: what it changes, and where it leads.
use Rattle.std.specs.Prelude.{◌≡◌, ℕ, ◌+◌, ◌<◌, cond, Some, nat_lt}
use Rattle.order.specs.Levels.{Levels}
use Rattle.script.specs.declared.class.Variable.{Variable}
use Rattle.script.specs.declared.class.Statement.{Statement}
use Rattle.script.specs.declared.class.Statement.TheVariants.{Constant, Itself, Copy, Add, Subtract, Less, Branch, Invoke, Get, Create, Return}
use Rattle.script.specs.Classes.{Program}
use Rattle.rules.specs.declared.values.Value.{Value}
use Rattle.rules.specs.declared.values.Value.TheVariants.{Number, ObjectName, FutureName, Marked}
use Rattle.rules.specs.Values.{labelled, plain, plus, minus, less, nonzero}
use Rattle.rules.specs.Wrapper.{unmakeable}
use Rattle.rules.specs.Statements.{Scene, Running, Step, done, held, Run, read, passed, Fetched, gives, waits, with_result, raise, invoked, fetched, created, operated}
use Rattle.rules.specs.Turns.{step}
use Rattle.stepper.specs.declared.machine.Next.{Next}
use Rattle.stepper.specs.declared.machine.Next.TheVariants.{On, Enter, Hold}
use Rattle.stepper.specs.declared.turn.Outcome.{Outcome}
use Rattle.stepper.specs.declared.turn.Outcome.TheVariants.{Ended, Held}

-- what is left to do of a statement once it has changed what it changes; `go` carries out a range of statements
abbrev pub after : Run → ℕ → Next → Running → Step
after go at On r = done r
after go at (Enter from to context) r = go from to context r
after go at Hold r = held at r

-- a turn's outcome with what it leaves, as the rules tell it
abbrev pub ends : Outcome → Running → Step
ends Ended r = done r
ends (Held at) r = held at r

-- a turn that is held is held by one of the n statements of its body
abbrev pub StopsWithin : ℕ → Outcome → Type 0
StopsWithin n Ended = Unit {0}
StopsWithin n (Held at) = at < n

-- a number other than 0 picks the first branch, 0 the second, anything else neither
abbrev pub picked : Value → Next → Next → Next
picked (Number k) first second = cond (nonzero k) first second
picked (ObjectName n) first second = On
picked (FutureName n) first second = On
picked (Marked mark) first second = On

-- a G that finds nothing yet holds the turn
abbrev pub waiting : Fetched → Next
waiting (gives m) = On
waiting waits = Hold

-- Where a statement leads that is passed over, since the turn goes on at `from`: into the branch in which that place stands, in the same
-- context.
abbrev pub passes : ℕ → Statement → ℕ → ℕ → Next
passes from (Constant to number) at context = On
passes from (Itself to) at context = On
passes from (Copy to source) at context = On
passes from (Add to left right) at context = On
passes from (Subtract to left right) at context = On
passes from (Less to left right) at context = On
passes from (Branch guard first second) at context =
    cond (nat_lt from (at + 1 + first)) (Enter (at + 1) (at + 1 + first) context)
    (cond (nat_lt from (at + 1 + first + second)) (Enter (at + 1 + first) (at + 1 + first + second) context) On)
passes from (Invoke to receiver method arguments) at context = On
passes from (Get to future) at context = On
passes from (Create to class level) at context = On
passes from (Return value) at context = On

module _ (o : Levels) (program : Program) (scene : Scene) where
  -- what G changes
  abbrev pub taken : ℕ → ℕ → Variable → Running → Fetched → Running
  taken context at to r (gives m) = with_result o program scene context at (Some to) m r
  taken context at to r waits = r

  -- what a statement that is carried out changes
  abbrev pub does_change : Statement → ℕ → ℕ → Running → Running
  does_change (Constant to number) at context r = with_result o program scene context at (Some to) (plain (labelled (Number number) 0)) r
  does_change (Itself to) at context r = with_result o program scene context at (Some to) (plain (labelled (ObjectName scene.self) 0)) r
  does_change (Copy to from) at context r = with_result o program scene context at (Some to) (plain (read r from)) r
  does_change (Add to left right) at context r = with_result o program scene context at (Some to) (operated o program scene plus (read r left) (read r right)) r
  does_change (Subtract to left right) at context r = with_result o program scene context at (Some to) (operated o program scene minus (read r left) (read r right)) r
  does_change (Less to left right) at context r = with_result o program scene context at (Some to) (operated o program scene less (read r left) (read r right)) r
  does_change (Branch guard first second) at context r = raise o program scene (read r guard).label context (at + 1) (first + second) r
  does_change (Invoke to receiver method arguments) at context r =
      invoked o program scene context at to (read r receiver).value (read r receiver).label method (passed r arguments) r
  does_change (Get to future) at context r = taken context at to r (fetched o program scene r.tables context (read r future).value (read r future).label)
  does_change (Create to class level) at context r = created o program scene context at to class level r (unmakeable o program r.tables context class level)
  does_change (Return value) at context r = r

  -- where a statement that is carried out leads
  abbrev pub does_lead : Statement → ℕ → ℕ → Running → Next
  does_lead (Constant to number) at context r = On
  does_lead (Itself to) at context r = On
  does_lead (Copy to from) at context r = On
  does_lead (Add to left right) at context r = On
  does_lead (Subtract to left right) at context r = On
  does_lead (Less to left right) at context r = On
  does_lead (Branch guard first second) at context r =
      let inner = o.join (read r guard).label context in
      picked (read r guard).value (Enter (at + 1) (at + 1 + first) inner) (Enter (at + 1 + first) (at + 1 + first + second) inner)
  does_lead (Invoke to receiver method arguments) at context r = On
  does_lead (Get to future) at context r = waiting (fetched o program scene r.tables context (read r future).value (read r future).label)
  does_lead (Create to class level) at context r = On
  does_lead (Return value) at context r = On

  -- what the statement at `at` changes; a statement that is passed over changes nothing
  abbrev pub changed : Statement → ℕ → ℕ → Running → Running
  changed s at context r = cond (nat_lt at scene.from) r (does_change s at context r)

  -- where the statement at `at` leads
  abbrev pub leads : Statement → ℕ → ℕ → Running → Next
  leads s at context r = cond (nat_lt at scene.from) (passes scene.from s at context) (does_lead s at context r)

-- the two halves are the whole: a statement of the rules is what is left to do where it leads, after what it changes
abbrev pub TwoHalves : Type 0
TwoHalves =
    (o : Levels) (program : Program) (scene : Scene) (go : Run) (s : Statement) (at context : ℕ) (r : Running)
    → step o program scene go s at context r ≡ after go at (leads o program scene s at context r) (changed o program scene s at context r)
