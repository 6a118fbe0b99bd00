-- What each statement does.
use Rattle.std.specs.Prelude.{ℕ, ◌+◌, Bool, true, false, cond, not, ◌&&◌, List, [], ◌∷◌, length, ℤ, Some, None, Option, slice_index_or}
use Rattle.order.specs.Levels.{Levels}
use Rattle.script.specs.declared.class.Variable.{Variable}
use Rattle.script.specs.declared.class.Variable.TheVariants.{Local, Field}
use Rattle.script.specs.declared.class.Arguments.{Arguments}
use Rattle.script.specs.declared.class.Arguments.TheVariants.{Empty, One, Two, Three, Four}
use Rattle.script.specs.declared.class.Statement.{Statement}
use Rattle.script.specs.declared.class.Statement.TheVariants.{Constant, Itself, Copy, Add, Subtract, Less, Branch, Invoke, Get, Create, Return}
use Rattle.script.specs.Classes.{Program}
use Rattle.rules.specs.declared.values.Mark.TheVariants.{Withheld, Refused, NoSpace, NotYet, WrongKind}
use Rattle.rules.specs.declared.values.Name.{Name}
use Rattle.rules.specs.declared.values.Value.{Value}
use Rattle.rules.specs.declared.values.Value.TheVariants.{Number, ObjectName, FutureName, Marked}
use Rattle.rules.specs.declared.values.Labelled.{Labelled}
use Rattle.rules.specs.declared.tables.Layer.TheVariants.{AtObject, AtFuture, AtTable, AtStatement}
use Rattle.rules.specs.declared.tables.Future.{Future}
use Rattle.rules.specs.declared.tables.Future.TheVariants.{Open, Holding}
use Rattle.rules.specs.declared.calls.Refusal.{Refusal}
use Rattle.rules.specs.declared.calls.Refusal.TheVariants.{NotALevel, Unknown, NotMade, NoFlow, Full, Nothing}
use Rattle.rules.specs.Lists.{update}
use Rattle.rules.specs.Values.{name, labelled, Made, plain, fresh, given, plus, minus, less, worked, nonzero}
use Rattle.rules.specs.Tables.{State, Place, filed}
use Rattle.rules.specs.Wrapper.{assigned, next_object, next_future, floor, unmakeable, with_object, Verdict, admitted, refused, verdict, sent}

-- What stays the same through a turn: the running object's name, class and level, the method's number, the statements before its R, the
-- call's level, and where the turn goes on.
pub record Scene : Type 0 where
  pub self : Name
  pub class : ℕ
  pub level : ℕ
  pub method : ℕ
  pub body : List Statement
  pub called_at : ℕ
  pub from : ℕ

-- What a turn works on: the call's locals, the object's fields, and the tables.
pub record Running : Type 0 where
  pub locals : ℕ → Labelled
  pub fields : ℕ → Labelled
  pub tables : State

-- how far a turn came: through, or to a statement that holds it
pub data Step : Type 0 where
  done : Running → Step
  held : ℕ → Running → Step

-- what a variable holds
abbrev pub read : Running → Variable → Labelled
read r (Local k) = r.locals k
read r (Field k) = r.fields k

-- a value put into a variable, as it is
abbrev pub stored : Running → Variable → Labelled → Running
stored r (Local k) x = record { locals = update r.locals k x; fields = r.fields; tables = r.tables }
stored r (Field k) x = record { locals = r.locals; fields = update r.fields k x; tables = r.tables }

-- the same variables over other tables
abbrev pub with_tables : Running → State → Running
with_tables r σ = record { locals = r.locals; fields = r.fields; tables = σ }

-- the variables that M passes on
abbrev pub passed : Running → Arguments → List Labelled
passed r Empty = []
passed r (One x) = read r x ∷ []
passed r (Two x y) = read r x ∷ read r y ∷ []
passed r (Three x y z) = read r x ∷ read r y ∷ read r z ∷ []
passed r (Four x y z w) = read r x ∷ read r y ∷ read r z ∷ read r w ∷ []

-- the mark that a refused M leaves, labelled s: 3 without space, else 2
abbrev pub call_mark : (why : Refusal) (s : ℕ) → Made
call_mark NotALevel s = fresh Refused AtObject s
call_mark Unknown s = fresh Refused AtObject s
call_mark NotMade s = fresh Refused AtObject s
call_mark NoFlow s = fresh Refused AtObject s
call_mark Full s = fresh NoSpace AtTable s
call_mark Nothing s = fresh Refused AtObject s

-- the mark that a refused O leaves: the same, but the statement's own
abbrev pub object_mark : (why : Refusal) (s : ℕ) → Made
object_mark NotALevel s = fresh Refused AtStatement s
object_mark Unknown s = fresh Refused AtStatement s
object_mark NotMade s = fresh Refused AtStatement s
object_mark NoFlow s = fresh Refused AtStatement s
object_mark Full s = fresh NoSpace AtTable s
object_mark Nothing s = fresh Refused AtStatement s

-- M has a variable for the reply's future
abbrev pub given_to : Option Variable → Bool
given_to (Some to) = true
given_to None = false

-- what G finds: a value, or nothing yet, so that the turn is held
pub data Fetched : Type 0 where
  gives : Made → Fetched
  waits : Fetched

-- carries out the statements of a range, from one place up to another, in a context
abbrev pub Run : Type 0
Run = (at end context : ℕ) → Running → Step

-- a number other than 0 picks the first branch, 0 the second, anything else neither
abbrev pub branch : Value → (first second : Running → Step) → Running → Step
branch (Number k) first second r = elim (nonzero k) [ true ↦ first r | false ↦ second r ]
branch (ObjectName n) first second r = done r
branch (FutureName n) first second r = done r
branch (Marked mark) first second r = done r

module _ (o : Levels) (program : Program) (scene : Scene) where
  -- the place that notes tell
  abbrev pub here : ℕ → Place
  here at = record { class = scene.class; method = scene.method; statement = at + 1 }

  -- the label of a result in a variable: its own joined with the context and, in a field, with the floor
  abbrev pub settled : (context : ℕ) (to : Variable) (l : ℕ) → ℕ
  settled context (Local k) l = o.join l context
  settled context (Field k) l = o.join (o.join l context) (floor o program scene.class scene.self.home k)

  -- a result goes into its variable, if there is one
  abbrev pub put : (context : ℕ) (to : Option Variable) (x : Labelled) → Running → Running
  put context None x r = r
  put context (Some to) x r = stored r to (labelled x.value (settled context to x.label))

  -- the note of a new mark goes into its line
  abbrev pub noted : (context at : ℕ) (m : Made) → State → State
  noted context at m σ =
      record { objects = σ.objects; futures = σ.futures; calls = σ.calls; notes = filed o.join context (here at) m σ.notes }

  -- both
  abbrev pub with_result : (context at : ℕ) (to : Option Variable) (m : Made) → Running → Running
  with_result context at to m r = put context to (given m) (with_tables r (noted context at m r.tables))

  -- I

  -- a value whose label is raised, if `chosen`, by the guard's label g and the context
  abbrev pub raised : (g context : ℕ) (chosen : Bool) (x : Labelled) → Labelled
  raised g context chosen x = cond (not (o.flow g context) && chosen) (labelled x.value (o.join x.label (o.join g context))) x

  -- before a branch: where the guard's label does not flow to the context, all that the n statements from `at` on assign is raised
  abbrev pub raise : (g context at n : ℕ) → Running → Running
  raise g context at n r =
      record {
        locals = λ k. raised g context (assigned scene.body at n (Local k)) (r.locals k);
        fields = λ k. raised g context (assigned scene.body at n (Field k)) (r.fields k);
        tables = r.tables;
      }

  -- M

  -- the call goes out at level s and leaves its future's name; or it leaves a mark
  abbrev pub asked : (context at : ℕ) (to : Option Variable) (s : ℕ) (n : Name) (method : ℕ) (arguments : List Labelled) → Running → Verdict → Running
  asked context at to s n method arguments r (refused why) = with_result context at to (call_mark why s) r
  asked context at to s n method arguments r (admitted b) =
      put context to (labelled (FutureName (name s (next_future r.tables s))) s)
      (with_tables r (sent o program r.tables s context (here at) AtObject n b method arguments (given_to to)))

  -- s is the context, the receiver's label and its home joined
  abbrev pub invoked : (context at : ℕ) (to : Option Variable) (receiver : Value) (l method : ℕ) (arguments : List Labelled) → Running → Running
  invoked context at to (Number k) l method arguments r = with_result context at to (fresh WrongKind AtStatement l) r
  invoked context at to (ObjectName n) l method arguments r =
      let s = o.join (o.join context l) n.home in
      asked context at to s n method arguments r (verdict o program r.tables s n (Some method) (length arguments) (given_to to))
  invoked context at to (FutureName n) l method arguments r = with_result context at to (fresh WrongKind AtStatement l) r
  invoked context at to (Marked mark) l method arguments r = with_result context at to (fresh WrongKind AtStatement l) r

  -- G

  -- an open future holds the turn, or gives mark 4; a value comes with its label joined with t if that flows to the object's level
  abbrev pub opened : (t : ℕ) → Future → Fetched
  opened t Open = cond (o.flow t scene.called_at) waits (gives (plain (labelled (Marked NotYet) t)))
  opened t (Holding x) =
      gives (cond (o.flow (o.join x.label t) scene.level) (plain (labelled x.value (o.join x.label t))) (fresh Withheld AtFuture scene.level))

  -- t is the context, the name's label and its home joined; a mark is copied
  abbrev pub fetched : (σ : State) (context : ℕ) (future : Value) (l : ℕ) → Fetched
  fetched σ context (Number k) l = gives (fresh WrongKind AtStatement l)
  fetched σ context (ObjectName n) l = gives (fresh WrongKind AtStatement l)
  fetched σ context (FutureName n) l = opened (o.join (o.join context l) n.home) (slice_index_or (σ.futures n.home) n.number Open)
  fetched σ context (Marked mark) l = gives (plain (labelled (Marked mark) l))

  -- the turn goes on with what was found, or is held here
  abbrev pub received : (context at : ℕ) (to : Variable) → Running → Fetched → Step
  received context at to r (gives m) = done (with_result context at (Some to) m r)
  received context at to r waits = held at r

  -- O

  -- the object is made with the context as its home, or leaves a mark
  abbrev pub created : (context at : ℕ) (to : Variable) (class level : ℕ) → Running → Option Refusal → Running
  created context at to class level r (Some why) = with_result context at (Some to) (object_mark why context) r
  created context at to class level r None =
      put context (Some to) (labelled (ObjectName (name context (next_object r.tables context))) context)
      (with_tables r (with_object o program r.tables context class level))

  -- A, D, L

  -- two operands, and both labels joined
  abbrev pub operated : (ℤ → ℤ → ℤ) → Labelled → Labelled → Made
  operated f x y = worked f x.value y.value (o.join x.label y.label)

  -- EVERY STATEMENT

  -- the statement at `at`, in a context; `go` carries out a range of statements
  abbrev pub act : (go : Run) → Statement → (at context : ℕ) → Running → Step
  act go (Constant to number) at context r = done (with_result context at (Some to) (plain (labelled (Number number) 0)) r)
  act go (Itself to) at context r = done (with_result context at (Some to) (plain (labelled (ObjectName scene.self) 0)) r)
  act go (Copy to from) at context r = done (with_result context at (Some to) (plain (read r from)) r)
  act go (Add to left right) at context r = done (with_result context at (Some to) (operated plus (read r left) (read r right)) r)
  act go (Subtract to left right) at context r = done (with_result context at (Some to) (operated minus (read r left) (read r right)) r)
  act go (Less to left right) at context r = done (with_result context at (Some to) (operated less (read r left) (read r right)) r)
  act go (Branch guard first second) at context r =
      let g = (read r guard).label in
      let inner = o.join g context in
      branch (read r guard).value (go (at + 1) (at + 1 + first) inner) (go (at + 1 + first) (at + 1 + first + second) inner)
      (raise g context (at + 1) (first + second) r)
  act go (Invoke to receiver method arguments) at context r =
      done (invoked context at to (read r receiver).value (read r receiver).label method (passed r arguments) r)
  act go (Get to future) at context r = received context at to r (fetched r.tables context (read r future).value (read r future).label)
  act go (Create to class level) at context r = done (created context at to class level r (unmakeable o program r.tables context class level))
  act go (Return value) at context r = done r
