-- The five calls of the parties: their answers, and the state after each.
use Rattle.std.specs.Prelude.{ℕ, Bool, true, false, cond, List, [], ◌∷◌, map, length, take, ℤ, pos, negsuc, Some, None, vec_items, Option, ◌==◌, nat_lt}
use Rattle.order.specs.Levels.{Levels}
use Rattle.script.specs.Classes.{Program}
use Rattle.script.specs.Layout.{every}
use Rattle.rules.specs.declared.values.Mark.TheVariants.{Withheld}
use Rattle.rules.specs.declared.values.Name.{Name}
use Rattle.rules.specs.declared.values.Value.TheVariants.{Number, Marked}
use Rattle.rules.specs.declared.values.Labelled.{Labelled}
use Rattle.rules.specs.declared.tables.Layer.TheVariants.{AtPost}
use Rattle.rules.specs.declared.tables.Note.{Note}
use Rattle.rules.specs.declared.tables.Future.{Future}
use Rattle.rules.specs.declared.tables.Future.TheVariants.{Open, Holding}
use Rattle.rules.specs.declared.calls.Argument.{Argument}
use Rattle.rules.specs.declared.calls.Request.{Request as StoredRequest}
use Rattle.rules.specs.declared.calls.Request.TheVariants.{Make, Post, Turn, Collect, Take}
use Rattle.rules.specs.declared.calls.Refusal.{Refusal}
use Rattle.rules.specs.declared.calls.Refusal.TheVariants.{NotALevel, Unknown, NotMade, Nothing}
use Rattle.rules.specs.declared.calls.Answer.{Answer}
use Rattle.rules.specs.declared.calls.Answer.TheVariants.{Refused, Made, Posted, Ended, Held, Collected, Noted}
use Rattle.rules.specs.Lists.{update, nth, oldest, without, Placed}
use Rattle.rules.specs.Values.{name, labelled}
use Rattle.rules.specs.Tables.{Object, Call, State, new, same_name}
use Rattle.rules.specs.Wrapper.{next_object, next_future, unmakeable, with_object, object_for, Verdict, admitted, refused as denied, verdict, sent}
use Rattle.rules.specs.Statements.{Step, done, held}
use Rattle.rules.specs.Turns.{turned, ended, paused}

-- What a party asks: the level that it bears, and the numbers, all as they were sent.
pub data Request : Type 0 where
  make : (bearer class level : ℤ) → Request
  post : (bearer home number method : ℤ) (arguments : List Argument) → Request
  turn : (bearer home number : ℤ) → Request
  collect : (bearer home number : ℤ) → Request
  note : (bearer class : ℤ) → Request

-- what memory holds of it
abbrev pub request_of : StoredRequest → Request
request_of (Make bearer class level) = make bearer class level
request_of (Post bearer home number method arguments) = post bearer home number method (vec_items arguments)
request_of (Turn bearer home number) = turn bearer home number
request_of (Collect bearer home number) = collect bearer home number
request_of (Take bearer class) = note bearer class

-- the level that the party bears
abbrev pub bearer : Request → ℤ
bearer (make a class level) = a
bearer (post a home number method arguments) = a
bearer (turn a home number) = a
bearer (collect a home number) = a
bearer (note a class) = a

-- NUMBERS AS SENT

-- a number that may count something
abbrev pub natural : ℤ → Option ℕ
natural (pos n) = Some n
natural (negsuc n) = None

-- a negative number counts as 0 where it is known to be none
abbrev pub size : ℤ → ℕ
size (pos n) = n
size (negsuc n) = 0

-- the level that a number is, if it is one
abbrev pub level_of : Levels → ℤ → Option ℕ
level_of o (pos n) = cond (nat_lt n o.count) (Some n) None
level_of o (negsuc n) = None

-- whether it is one
abbrev pub is_level : Levels → ℤ → Bool
is_level o (pos n) = nat_lt n o.count
is_level o (negsuc n) = false

-- only the first four labels are looked at
abbrev pub labels_stand : Levels → List Argument → Bool
labels_stand o arguments = every (λ x. is_level o x.label) (take 4 arguments)

-- a party passes numbers
abbrev pub argument_value : Argument → Labelled
argument_value x = labelled (Number x.number) (size x.label)

-- ANSWERS

-- an answer, and the state after it
pub record Served : Type 0 where
  pub answer : Answer
  pub state : State

-- what a list of requests came to: its answers, in order, and the state after it
pub record Ran : Type 0 where
  pub answers : List Answer
  pub state : State

-- a refusal alters nothing
abbrev pub refuse : State → Refusal → Served
refuse σ why = record { answer = Refused why; state = σ }

-- the check passes, or the call is refused
abbrev pub require : State → Bool → Refusal → Served → Served
require σ false why rest = refuse σ why
require σ true why rest = rest

-- the call goes on with what was found, or is refused
abbrev pub found : {X : Type 0} → State → Option X → Refusal → (X → Served) → Served
found σ None why rest = refuse σ why
found σ (Some x) why rest = rest x

-- whether a call is for the object of a name
abbrev pub is_for : Name → Call → Bool
is_for n c = same_name c.receiver n

-- whether a note is of a class
abbrev pub is_of : ℕ → Note → Bool
is_of class x = x.class == class

-- note: it is taken out of line
abbrev pub taken : (σ : State) (a : ℕ) (x : Placed Note) → Served
taken σ a x =
    record {
      answer = Noted x.element;
      state = record { objects = σ.objects; futures = σ.futures; calls = σ.calls; notes = update σ.notes a (without x.place (σ.notes a)) };
    }

module _ (o : Levels) (program : Program) where
  -- make: the object stands at the party's level
  abbrev pub made : (σ : State) (a class level : ℕ) → Option Refusal → Served
  made σ a class level (Some why) = refuse σ why
  made σ a class level None = record { answer = Made (name a (next_object σ a)); state = with_object o program σ a class level }

  -- post: the call stands at the party's level, and its future too
  abbrev pub posted : (σ : State) (a : ℕ) (n : Name) (method : ℕ) (arguments : List Argument) → Verdict → Served
  posted σ a n method arguments (denied why) = refuse σ why
  posted σ a n method arguments (admitted b) =
      record {
        answer = Posted (name a (next_future σ a));
        state =
            sent o program σ a a (record { class = b.class; method = method; statement = 0 }) AtPost n b method (map argument_value arguments) true;
      }

  -- turn: the call has ended, or is held
  abbrev pub stopped : (a : ℕ) (n : Name) (b : Object) (c : Placed Call) → Step → Served
  stopped a n b c (done r) = record { answer = Ended; state = ended o program a n b c r }
  stopped a n b c (held at r) = record { answer = Held; state = paused a n b c at r }

  -- collect: the future of that name, if its home flows to a
  abbrev pub future_for : (σ : State) (a : ℕ) (n : Name) → Option Future
  future_for σ a n = cond (o.flow n.home a) (nth (σ.futures n.home) n.number) None

  -- the value, or mark 1 labelled with the party's level
  abbrev pub readable : (a : ℕ) (x : Labelled) → Labelled
  readable a x = cond (o.flow x.label a) x (labelled (Marked Withheld) a)

  -- an open future has nothing to read
  abbrev pub collected : (σ : State) (a : ℕ) → Future → Served
  collected σ a Open = refuse σ Nothing
  collected σ a (Holding x) = record { answer = Collected (readable a x); state = σ }

  -- the checks in their fixed order, and then what the call does
  abbrev pub answer : State → Request → Served
  answer σ (make a class level) =
      found σ (level_of o a) NotALevel λ home.
      found σ (level_of o level) NotALevel λ l.
      found σ (natural class) Unknown λ c.
      made σ home c l (unmakeable o program σ home c l)
  answer σ (post a home number method arguments) =
      found σ (level_of o a) NotALevel λ s.
      found σ (level_of o home) NotALevel λ h.
      require σ (labels_stand o arguments) NotALevel (
      found σ (natural number) NotMade λ n.
      posted σ s (name h n) (size method) arguments (verdict o program σ s (name h n) (natural method) (length arguments) true))
  answer σ (turn a home number) =
      found σ (level_of o a) NotALevel λ s.
      found σ (level_of o home) NotALevel λ h.
      found σ (natural number) NotMade λ n.
      found σ (object_for o program σ s (name h n)) NotMade λ b.
      found σ (oldest (is_for (name h n)) (σ.calls s)) Nothing λ c.
      stopped s (name h n) b c (turned o program σ s (name h n) b c.element)
  answer σ (collect a home number) =
      found σ (level_of o a) NotALevel λ s.
      found σ (level_of o home) NotALevel λ h.
      found σ (natural number) NotMade λ n.
      found σ (future_for σ s (name h n)) NotMade λ f.
      collected σ s f
  answer σ (note a class) =
      found σ (level_of o a) NotALevel λ s.
      found σ (natural class) Unknown λ c.
      require σ (nat_lt c (length program)) Unknown (
      found σ (oldest (is_of c) (σ.notes s)) Nothing λ x.
      taken σ s x)

  -- a list of requests, one after the other, from a state
  abbrev pub run_from : State → List Request → Ran
  run_from σ [] = record { answers = []; state = σ }
  run_from σ (x ∷ xs) =
      let rest = run_from (answer σ x).state xs in
      record { answers = (answer σ x).answer ∷ rest.answers; state = rest.state }

  -- a run starts new, with all tables empty
  abbrev pub run : List Request → Ran
  run xs = run_from new xs
