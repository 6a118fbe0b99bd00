-- Settled cases, each worked out by the rules themselves; and two runs with different secrets that look the same.
use Rattle.std.specs.Prelude.{◌≡◌, ℕ, Bool, true, false, List, [], ◌∷◌, ℤ, pos, negsuc, Some, slice_index_or}
use Rattle.order.specs.Supplied.{ladder, makers}
use Rattle.script.specs.declared.class.Variable.TheVariants.{Local, Field}
use Rattle.script.specs.declared.class.Arguments.TheVariants.{Empty}
use Rattle.script.specs.declared.class.Statement.{Statement}
use Rattle.script.specs.declared.class.Statement.TheVariants.{Constant, Itself, Branch, Invoke, Get, Return}
use Rattle.script.specs.Classes.{Method, Class, Program}
use Rattle.script.specs.Layout.{every, well_formed}
use Rattle.rules.specs.declared.values.Mark.TheVariants.{Withheld, NotYet}
use Rattle.rules.specs.declared.values.Value.TheVariants.{Number, Marked}
use Rattle.rules.specs.declared.values.Labelled.{Labelled}
use Rattle.rules.specs.declared.tables.Future.{Future}
use Rattle.rules.specs.declared.tables.Future.TheVariants.{Open, Holding}
use Rattle.rules.specs.declared.calls.Argument.{Argument}
use Rattle.rules.specs.declared.calls.Refusal.TheVariants.{NoFlow}
use Rattle.rules.specs.declared.calls.Answer.{Answer}
use Rattle.rules.specs.declared.calls.Answer.TheVariants.{Refused, Made, Posted, Ended, Held, Collected}
use Rattle.rules.specs.Values.{name, labelled, blank, plus, minus}
use Rattle.rules.specs.Tables.{Object, Call, new}
use Rattle.rules.specs.Answers.{number_of}
use Rattle.rules.specs.Calling.{Request, make, post, turn, collect, answer as answered_by, run}
use Rattle.rules.specs.Laws.{Alike, seen, owed_by}

-- what a case is about: a join, a flow, a sum, a value, an answer
pub data Shown : Type 0 where
  level : ℕ → Shown
  truth : Bool → Shown
  sum : ℤ → Shown
  value : Labelled → Shown
  answer : Answer → Shown

pub record Case : Type 0 where
  pub worked : Shown
  pub expected : Shown

abbrev pub case : Shown → Shown → Case
case worked expected = record { worked = worked; expected = expected }

-- all cases come out as expected
abbrev pub Hold : List Case → Type 0
Hold [] = Unit {0}
Hold (c ∷ cs) = (c.worked ≡ c.expected) × Hold cs

-- PROGRAMS AND LISTS

abbrev pub method : ℕ → List Statement → Method
method parameters statements = record { parameters = parameters; statements = statements }

abbrev pub class_of : List ℕ → List Method → Class
class_of fields methods = record { fields = fields; methods = methods }

abbrev pub argument : ℕ → ℕ → Argument
argument n l = record { number = pos n; label = pos l }

-- a class whose one method gives its parameter back
abbrev pub echo : Program
echo = class_of [] (method 1 (Return (Local 0) ∷ []) ∷ []) ∷ []

-- a guard over `local 1 := 7`
abbrev pub guarded : Program
guarded = class_of [] (method 1 (Branch (Local 0) 1 0 ∷ Constant (Local 1) (pos 7) ∷ Return (Local 1) ∷ []) ∷ []) ∷ []

-- a call of oneself, and then a guard over a G on its future
abbrev pub waiting : Program
waiting =
    class_of []
    (method 1
    (Itself (Local 1) ∷ Invoke (Some (Local 2)) (Local 1) 1 Empty ∷ Branch (Local 0) 1 0 ∷ Get (Local 3) (Local 2) ∷ Return (Local 3) ∷ [])
    ∷ method 0 (Return (Local 0) ∷ []) ∷ [])
    ∷ []

-- a method that assigns a field with that declared label
abbrev pub writing : ℕ → Program
writing label = class_of (label ∷ []) (method 0 (Constant (Field 0) (pos 1) ∷ Return (Local 0) ∷ []) ∷ []) ∷ []

-- an object of level l is made at 0, and its method is posted there with one argument
abbrev pub one_post : ℕ → Argument → List Request
one_post l x = make (pos 0) (pos 0) (pos l) ∷ post (pos 0) (pos 0) (pos 0) (pos 0) (x ∷ []) ∷ []

-- the same, and a turn
abbrev pub one_turn : ℕ → Argument → List Request
one_turn l x =
    make (pos 0) (pos 0) (pos l) ∷ post (pos 0) (pos 0) (pos 0) (pos 0) (x ∷ []) ∷ turn (pos 0) (pos 0) (pos 0) ∷ []

-- an object of level 3 is made at 0, and posted to at 1
abbrev pub post_above : List Request
post_above = make (pos 0) (pos 0) (pos 3) ∷ post (pos 1) (pos 0) (pos 0) (pos 0) [] ∷ []

-- the first local of the oldest call at 0, and the value of the first future there
abbrev pub local_of : List Call → Labelled
local_of [] = blank
local_of (c ∷ cs) = c.locals 0

abbrev pub held_by : List Future → Labelled
held_by [] = blank
held_by (Open ∷ fs) = blank
held_by (Holding x ∷ fs) = x

-- THE CASES

abbrev pub first_local : ℕ → Argument → Shown
first_local l x = value (local_of ((run ladder echo (one_post l x)).state.calls 0))

abbrev pub replied : Program → Argument → Shown
replied program x = value (held_by ((run ladder program (one_turn 3 x)).state.futures 0))

abbrev pub last_answer : Program → List Request → ℕ → Shown
last_answer program requests i = answer (slice_index_or (run ladder program requests).answers i Ended)

abbrev pub cases : List Case
cases =
    case (level (makers.join 1 2)) (level 3)
    ∷ case (truth (makers.flow 1 2)) (truth false)
    ∷ case (sum (plus (pos 2147483647) (pos 1))) (sum (pos 2147483647))
    ∷ case (sum (minus (negsuc 2147483647) (pos 1))) (sum (negsuc 2147483647))
    -- 5 labelled 3, posted at 0 to objects of level 1 and 3
    ∷ case (first_local 1 (argument 5 3)) (value (labelled (Marked Withheld) 1))
    ∷ case (first_local 3 (argument 5 3)) (value (labelled (Number (pos 5)) 3))
    -- the guards 0 and 1, labelled 3, in a call at 0
    ∷ case (replied guarded (argument 0 3)) (value (labelled (Number (pos 0)) 3))
    ∷ case (replied guarded (argument 1 3)) (value (labelled (Number (pos 7)) 3))
    -- G on a name labelled 0 of an open future, in context 3 and in context 0
    ∷ case (replied waiting (argument 1 3)) (value (labelled (Marked NotYet) 3))
    ∷ case (last_answer waiting (one_turn 3 (argument 1 0)) 2) (answer Held)
    -- a post at 1 to an object of home 0 and level 3, whose method assigns a field of floor 0, and of floor 1
    ∷ case (last_answer (writing 0) post_above 1) (answer (Refused NoFlow))
    ∷ case (last_answer (writing 1) post_above 1) (answer (Posted (name 1 0)))
    ∷ []

abbrev pub Settled : Type 0
Settled = Hold cases

-- TWO RUNS

-- a field with label 3 becomes 7 or 9, by a guard
abbrev pub choosing : Program
choosing =
    class_of (3 ∷ [])
    (method 1 (Branch (Local 0) 1 1 ∷ Constant (Field 0) (pos 7) ∷ Constant (Field 0) (pos 9) ∷ Return (Local 0) ∷ []) ∷ [])
    ∷ []

-- one list posts the secret 1, the other the secret 0; the other also has a call at level 3
abbrev pub one_secret : List Request
one_secret =
    make (pos 0) (pos 0) (pos 3) ∷ post (pos 0) (pos 0) (pos 0) (pos 0) (argument 1 3 ∷ []) ∷ turn (pos 0) (pos 0) (pos 0)
    ∷ collect (pos 0) (pos 0) (pos 0) ∷ []

abbrev pub other_secret : List Request
other_secret =
    make (pos 0) (pos 0) (pos 3) ∷ post (pos 0) (pos 0) (pos 0) (pos 0) (argument 0 3 ∷ []) ∷ make (pos 3) (pos 0) (pos 3)
    ∷ turn (pos 0) (pos 0) (pos 0) ∷ collect (pos 0) (pos 0) (pos 0) ∷ []

abbrev pub field_of : List Object → Labelled
field_of [] = blank
field_of (b ∷ bs) = b.fields 0

-- the two lists are alike to a reader at 0, who sees the same four answers, while the object's field holds 7 after the one and 9 after the other
pub record ToldApartByNone : Type 0 where
  pub alike : Alike ladder 0 one_secret other_secret
  pub sees : seen ladder 0 one_secret (run ladder choosing one_secret).answers
      ≡ Made (name 0 0) ∷ Posted (name 0 0) ∷ Ended ∷ Collected (labelled (Marked Withheld) 0) ∷ []
  pub sees_too : seen ladder 0 other_secret (run ladder choosing other_secret).answers
      ≡ Made (name 0 0) ∷ Posted (name 0 0) ∷ Ended ∷ Collected (labelled (Marked Withheld) 0) ∷ []
  pub one_field : field_of ((run ladder choosing one_secret).state.objects 0) ≡ labelled (Number (pos 7)) 3
  pub other_field : field_of ((run ladder choosing other_secret).state.objects 0) ≡ labelled (Number (pos 9)) 3

-- every program above loads on the ladder
abbrev pub programs : List Program
programs = echo ∷ guarded ∷ waiting ∷ writing 0 ∷ writing 1 ∷ choosing ∷ []

abbrev pub AllLoad : Type 0
AllLoad = every (well_formed ladder.count) programs ≡ true

-- The premises of the promises are met by runs: a call in line owes an open future, a future holds a value, and a request is refused.
pub record PremisesMet : Type 0 where
  pub owes_one : owed_by ((run ladder echo (one_post 3 (argument 5 3))).state.calls 0) ≡ 0 ∷ []
  pub stands_open : (run ladder echo (one_post 3 (argument 5 3))).state.futures 0 ≡ Open ∷ []
  pub holds_five : (run ladder echo (one_turn 3 (argument 5 3))).state.futures 0 ≡ Holding (labelled (Number (pos 5)) 3) ∷ []
  pub refuses : number_of (answered_by ladder echo new (turn (pos 4) (pos 0) (pos 0))).answer ≡ 1
