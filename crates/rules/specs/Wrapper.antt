-- Floors, what a method assigns, what a wrapper admits, and what becomes of the arguments.
use Rattle.std.specs.Prelude.{ℕ, zero, suc, Bool, true, false, cond, not, ◌&&◌, ◌||◌, List, [], map, length, Some, None, Option, ◌==◌, nat_lt, slice_index, slice_index_or}
use Rattle.order.specs.Levels.{Levels}
use Rattle.script.specs.declared.class.Variable.{Variable}
use Rattle.script.specs.declared.class.Variable.TheVariants.{Local, Field}
use Rattle.script.specs.declared.class.Statement.{Statement}
use Rattle.script.specs.declared.class.Statement.TheVariants.{Constant, Itself, Copy, Add, Subtract, Less, Branch, Invoke, Get, Create, Return}
use Rattle.script.specs.Classes.{Method, Class, Program}
use Rattle.script.specs.Bodies.{idle}
use Rattle.script.specs.Layout.{every}
use Rattle.rules.specs.declared.values.Mark.TheVariants.{Withheld}
use Rattle.rules.specs.declared.values.Name.{Name}
use Rattle.rules.specs.declared.values.Labelled.{Labelled}
use Rattle.rules.specs.declared.tables.Layer.{Layer}
use Rattle.rules.specs.declared.tables.Future.TheVariants.{Open}
use Rattle.rules.specs.declared.calls.Refusal.{Refusal}
use Rattle.rules.specs.declared.calls.Refusal.TheVariants.{Unknown, NotMade, NoFlow, Full}
use Rattle.rules.specs.Lists.{update, nth, snoc}
use Rattle.rules.specs.Values.{labelled, nought, blank, Made, plain, fresh, given}
use Rattle.rules.specs.Tables.{Object, Call, State, Place, most_objects, most_futures, most_calls, all_filed}

-- the variable that a statement assigns, if any
abbrev pub target : Statement → Option Variable
target (Constant to number) = Some to
target (Itself to) = Some to
target (Copy to from) = Some to
target (Add to left right) = Some to
target (Subtract to left right) = Some to
target (Less to left right) = Some to
target (Branch guard first second) = None
target (Invoke to receiver method arguments) = to
target (Get to future) = Some to
target (Create to class level) = Some to
target (Return value) = None

-- two variables are one
abbrev pub same_variable : Variable → Variable → Bool
same_variable (Local i) (Local j) = i == j
same_variable (Local i) (Field j) = false
same_variable (Field i) (Local j) = false
same_variable (Field i) (Field j) = i == j

-- what is assigned, if anything, is x
abbrev pub assigns : Option Variable → Variable → Bool
assigns (Some to) x = same_variable to x
assigns None x = false

-- whether one of the n statements from `at` on assigns x
abbrev pub assigned : (body : List Statement) (at n : ℕ) (x : Variable) → Bool
assigned body at zero x = false
assigned body at (suc n) x = assigns (target (slice_index_or body at idle)) x || assigned body (suc at) n x

-- a class that the program lacks has neither fields nor methods
abbrev pub class_at : Program → ℕ → Class
class_at program class = slice_index_or program class (record { fields = []; methods = [] })

-- the method, if it takes that many arguments
abbrev pub taking : (count : ℕ) → Option Method → Option Method
taking count None = None
taking count (Some m) = cond (m.parameters == count) (Some m) None

-- the method of a class, by number, if it has one
abbrev pub method_at : (program : Program) (class : ℕ) (method : Option ℕ) → Option Method
method_at program class None = None
method_at program class (Some method) = nth (class_at program class).methods method

-- a call takes a place in line at s, and a future, if it is to be answered
abbrev pub room : (σ : State) (s : ℕ) (answered : Bool) → Bool
room σ s answered = (not answered || nat_lt (length (σ.futures s)) most_futures) && nat_lt (length (σ.calls s)) most_calls

-- what the wrapper says: the object that is to serve the call, or why not
pub data Verdict : Type 0 where
  admitted : Object → Verdict
  refused : Refusal → Verdict

-- parameters are the first of the eight locals; the others start as 0 labelled with the call's level
abbrev pub first_locals : (s : ℕ) (arguments : List Labelled) (i : ℕ) → Labelled
first_locals s arguments i = cond (nat_lt i 8) (slice_index_or arguments i (nought s)) blank

-- the numbers that the next object and the next future at a level get: they are numbered as made
abbrev pub next_object : State → ℕ → ℕ
next_object σ k = length (σ.objects k)

abbrev pub next_future : State → ℕ → ℕ
next_future σ k = length (σ.futures k)

-- the future that a call at s owes, if it is to be answered
abbrev pub ticket : (σ : State) (s : ℕ) (answered : Bool) → Option ℕ
ticket σ s answered = cond answered (Some (next_future σ s)) None

-- a new call at level s
abbrev pub new_call : (σ : State) (s : ℕ) (n : Name) (method : ℕ) (arguments : List Labelled) (answered : Bool) → Call
new_call σ s n method arguments answered =
    record { receiver = n; method = method; locals = first_locals s arguments; next = 0; owed = ticket σ s answered }

module _ (o : Levels) (program : Program) where
  -- a field's floor: its declared label joined with the object's home
  abbrev pub floor : (class home k : ℕ) → ℕ
  floor class home k = o.join (slice_index (class_at program class).fields k) home

  -- MAKING AN OBJECT

  -- the home and every floor flow to the level
  abbrev pub makeable : (home class level : ℕ) → Bool
  makeable home class level = o.flow home level && every (λ declared. o.flow (o.join declared home) level) (class_at program class).fields

  -- why an object is not made, if so: no such class, a rule of flow, no space
  abbrev pub unmakeable : (σ : State) (home class level : ℕ) → Option Refusal
  unmakeable σ home class level =
      cond (nat_lt class (length program))
      (cond (makeable home class level) (cond (nat_lt (length (σ.objects home)) most_objects) None (Some Full)) (Some NoFlow))
      (Some Unknown)

  -- fields start as 0 labelled with their floor; an object has eight places for them
  abbrev pub new_object : (home class level : ℕ) → Object
  new_object home class level = record { class = class; level = level; fields = λ k. cond (nat_lt k 8) (nought (floor class home k)) blank }

  -- the object stands last at its home
  abbrev pub with_object : (σ : State) (home class level : ℕ) → State
  with_object σ home class level =
      record {
        objects = update σ.objects home (snoc (σ.objects home) (new_object home class level));
        futures = σ.futures;
        calls = σ.calls;
        notes = σ.notes;
      }

  -- ADMITTING A CALL

  -- a call at level s may assign the variable: if it is a field, s flows to its floor
  abbrev pub writes : (s class home : ℕ) → Option Variable → Bool
  writes s class home None = true
  writes s class home (Some (Local k)) = true
  writes s class home (Some (Field k)) = o.flow s (floor class home k)

  -- s flows to the object's level and to the floor of each field that the method assigns
  abbrev pub flows_in : (s : ℕ) (b : Object) (home : ℕ) (m : Method) → Bool
  flows_in s b home m = o.flow s b.level && every (λ statement. writes s b.class home (target statement)) m.statements

  -- with the method found: the rules of flow, and then space
  abbrev pub judged_flow : (σ : State) (s home : ℕ) (answered : Bool) (b : Object) → Option Method → Verdict
  judged_flow σ s home answered b None = refused Unknown
  judged_flow σ s home answered b (Some m) =
      cond (flows_in s b home m) (cond (room σ s answered) (admitted b) (refused Full)) (refused NoFlow)

  -- with the object found: the method, and then the rest
  abbrev pub judged : (σ : State) (s home : ℕ) (method : Option ℕ) (count : ℕ) (answered : Bool) → Option Object → Verdict
  judged σ s home method count answered None = refused NotMade
  judged σ s home method count answered (Some b) = judged_flow σ s home answered b (taking count (method_at program b.class method))

  -- the object of that name, if its home flows to s
  abbrev pub object_for : (σ : State) (s : ℕ) (n : Name) → Option Object
  object_for σ s n = cond (o.flow n.home s) (nth (σ.objects n.home) n.number) None

  -- the wrapper's verdict on a call at level s with that many arguments
  abbrev pub verdict : (σ : State) (s : ℕ) (n : Name) (method : Option ℕ) (count : ℕ) (answered : Bool) → Verdict
  verdict σ s n method count answered = judged σ s n.home method count answered (object_for σ s n)

  -- SENDING A CALL

  -- an argument goes with its label joined with s, if that flows to the object's level; else mark 1 goes, labelled with that level
  abbrev pub shown : (level s : ℕ) (layer : Layer) (x : Labelled) → Made
  shown level s layer x = cond (o.flow (o.join x.label s) level) (plain (labelled x.value (o.join x.label s))) (fresh Withheld layer level)

  -- the call, at level s, stands last in line; its future is open; the notes of withheld arguments are filed
  abbrev pub sent : (σ : State) (s context : ℕ) (w : Place) (layer : Layer) (n : Name) (b : Object) (method : ℕ) (arguments : List Labelled) (answered : Bool)
      → State
  sent σ s context w layer n b method arguments answered =
      let all = map (shown b.level s layer) arguments in
      record {
        objects = σ.objects;
        futures = cond answered (update σ.futures s (snoc (σ.futures s) Open)) σ.futures;
        calls = update σ.calls s (snoc (σ.calls s) (new_call σ s n method (map given all) answered));
        notes = all_filed o.join context w all σ.notes;
      }
