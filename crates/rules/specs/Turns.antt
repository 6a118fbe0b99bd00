-- A turn: statement by statement, until the call has ended or is held.
use Rattle.std.specs.Prelude.{ℕ, zero, suc, ◌+◌, ◌-◌, true, false, List, [], length, get_or, take, set, Some, None, Option, nat_lt, slice_index_or, slice_set}
use Rattle.order.specs.Levels.{Levels}
use Rattle.script.specs.declared.class.Variable.{Variable}
use Rattle.script.specs.declared.class.Variable.TheVariants.{Local}
use Rattle.script.specs.declared.class.Statement.{Statement}
use Rattle.script.specs.declared.class.Statement.TheVariants.{Constant, Itself, Copy, Add, Subtract, Less, Branch, Invoke, Get, Create, Return}
use Rattle.script.specs.Classes.{Method, Program}
use Rattle.script.specs.Bodies.{idle, branch_rows}
use Rattle.rules.specs.declared.values.Name.{Name}
use Rattle.rules.specs.declared.values.Labelled.{Labelled}
use Rattle.rules.specs.declared.tables.Future.{Future}
use Rattle.rules.specs.declared.tables.Future.TheVariants.{Holding}
use Rattle.rules.specs.Lists.{update, without, Placed}
use Rattle.rules.specs.Values.{labelled}
use Rattle.rules.specs.Tables.{Object, Call, State}
use Rattle.rules.specs.Wrapper.{method_at}
use Rattle.rules.specs.Statements.{Scene, Running, Step, done, held, Run, read, act}

-- what follows, unless the turn is held
abbrev pub bind : Step → (Running → Step) → Step
bind (done r) next = next r
bind (held at r) next = held at r

-- the variable that R gives back
abbrev pub returned : Statement → Variable
returned (Constant to number) = Local 0
returned (Itself to) = Local 0
returned (Copy to from) = Local 0
returned (Add to left right) = Local 0
returned (Subtract to left right) = Local 0
returned (Less to left right) = Local 0
returned (Branch guard first second) = Local 0
returned (Invoke to receiver method arguments) = Local 0
returned (Get to future) = Local 0
returned (Create to class level) = Local 0
returned (Return value) = value

-- the statements before the last, which is the R
abbrev pub before_last : List Statement → List Statement
before_last body = take (length body - 1) body

-- the statements of a method; none where it is missing, which no call in line asks for
abbrev pub statements_of : Option Method → List Statement
statements_of None = []
statements_of (Some m) = m.statements

-- the variable that a method's last statement gives back
abbrev pub reply_variable : (program : Program) (class method : ℕ) → Variable
reply_variable program class method =
    let body = statements_of (method_at program class (Some method)) in
    returned (slice_index_or body (length body - 1) idle)

-- an owed future takes the value
abbrev pub resolved : Option ℕ → Labelled → List Future → List Future
resolved None x futures = futures
resolved (Some n) x futures = slice_set futures n (Holding x)

module _ (o : Levels) (program : Program) (scene : Scene) where
  -- A statement before the place where a held turn goes on is passed over; where that place stands in one of its branches, the turn goes
  -- on inside that branch, in the same context.
  abbrev pub passing : (go : Run) → Statement → (at context : ℕ) → Running → Step
  passing go (Constant to number) at context r = done r
  passing go (Itself to) at context r = done r
  passing go (Copy to from) at context r = done r
  passing go (Add to left right) at context r = done r
  passing go (Subtract to left right) at context r = done r
  passing go (Less to left right) at context r = done r
  passing go (Branch guard first second) at context r =
      elim (nat_lt scene.from (at + 1 + first)) [
        | true ↦ go (at + 1) (at + 1 + first) context r
        | false ↦ elim (nat_lt scene.from (at + 1 + first + second)) [ true ↦ go (at + 1 + first) (at + 1 + first + second) context r | false ↦ done r ]
      ]
  passing go (Invoke to receiver method arguments) at context r = done r
  passing go (Get to future) at context r = done r
  passing go (Create to class level) at context r = done r
  passing go (Return value) at context r = done r

  -- one statement: it is passed over or carried out
  abbrev pub step : (go : Run) → Statement → (at context : ℕ) → Running → Step
  step go s at context r =
      elim (nat_lt at scene.from) [ true ↦ passing go s at context r | false ↦ act o program scene go s at context r ]

  -- the statements from `at` up to `end`; `fuel` is at least their number
  unfoldable pub exec : (fuel at end context : ℕ) → Running → Step
  exec zero at end context r = done r
  exec (suc fuel) at end context r =
      let s = get_or scene.body at idle in
      elim (nat_lt at end) [
        | true ↦ bind (step (exec fuel) s at context r) (exec fuel (at + 1 + branch_rows s) end context)
        | false ↦ done r
      ]

-- the turn of a call at level m for the object b of a name
abbrev pub scene_of : (program : Program) (m : ℕ) (n : Name) (b : Object) (c : Call) → Scene
scene_of program m n b c =
    record {
      self = n;
      class = b.class;
      level = b.level;
      method = c.method;
      body = before_last (statements_of (method_at program b.class (Some c.method)));
      called_at = m;
      from = c.next;
    }

-- the variables and tables that a turn begins with
abbrev pub started : State → Object → Call → Running
started σ b c = record { locals = c.locals; fields = b.fields; tables = σ }

-- the object's fields stand again in the table
abbrev pub with_fields : (objects : ℕ → List Object) (n : Name) (b : Object) (fields : ℕ → Labelled) → ℕ → List Object
with_fields objects n b fields =
    update objects n.home (slice_set (objects n.home) n.number (record { class = b.class; level = b.level; fields = fields }))

-- a held call stays in its place, as far as it ran
abbrev pub paused : (m : ℕ) (n : Name) (b : Object) (c : Placed Call) (at : ℕ) → Running → State
paused m n b c at r =
    record {
      objects = with_fields r.tables.objects n b r.fields;
      futures = r.tables.futures;
      calls =
          update r.tables.calls m
          (set (r.tables.calls m) c.place
          (record { receiver = c.element.receiver; method = c.element.method; locals = r.locals; next = at; owed = c.element.owed }));
      notes = r.tables.notes;
    }

module _ (o : Levels) (program : Program) where
  -- all statements before the R, in the call's level as their context
  abbrev pub turned : (σ : State) (m : ℕ) (n : Name) (b : Object) (c : Call) → Step
  turned σ m n b c =
      let scene = scene_of program m n b c in
      exec o program scene (length scene.body) 0 (length scene.body) m (started σ b c)

  -- the R's value, with its label joined with m
  abbrev pub reply : (m : ℕ) (b : Object) (c : Call) → Running → Labelled
  reply m b c r =
      let x = read r (reply_variable program b.class c.method) in
      labelled x.value (o.join x.label m)

  -- R: the reply goes into the owed future, and the call out of line
  abbrev pub ended : (m : ℕ) (n : Name) (b : Object) (c : Placed Call) → Running → State
  ended m n b c r =
      record {
        objects = with_fields r.tables.objects n b r.fields;
        futures = update r.tables.futures m (resolved c.element.owed (reply m b c.element r) (r.tables.futures m));
        calls = update r.tables.calls m (without c.place (r.tables.calls m));
        notes = r.tables.notes;
      }
