-- What the host promises, over whole lists of requests.
use Rattle.std.specs.Prelude.{◌≡◌, ℕ, suc, ◌<◌, ◌≤◌, Bool, true, false, cond, List, [], ◌∷◌, ◌++◌, length, ℤ, pos, negsuc, Some, None, Option}
use Rattle.order.specs.Levels.{Levels, Laws}
use Rattle.script.specs.Classes.{Program}
use Rattle.script.specs.Layout.{well_formed}
use Rattle.rules.specs.declared.values.Labelled.{Labelled}
use Rattle.rules.specs.declared.tables.Future.{Future}
use Rattle.rules.specs.declared.tables.Future.TheVariants.{Open, Holding}
use Rattle.rules.specs.declared.calls.Argument.{Argument}
use Rattle.rules.specs.declared.calls.Answer.{Answer}
use Rattle.rules.specs.Lists.{nth, Pairs}
use Rattle.rules.specs.Tables.{Object, Call, State}
use Rattle.rules.specs.Calling.{Request, post, bearer, is_level, answer, run}
use Rattle.rules.specs.Answers.{number_of}

-- SECRECY

module _ (o : Levels) (reader : ℕ) where
  -- a number, as sent, is a level that flows to the reader
  abbrev pub reaches : ℤ → Bool
  reaches (pos n) = o.flow n reader
  reaches (negsuc n) = false

  -- the requests whose own level flows to the reader; the others are struck
  abbrev pub remaining : List Request → List Request
  remaining [] = []
  remaining (x ∷ xs) = cond (reaches (bearer x)) (x ∷ remaining xs) (remaining xs)

  -- an argument may differ in its number and its label, where both labels are levels and neither flows to the reader
  pub data AlikeArgument (x y : Argument) : Type 0 where
    unchanged : x ≡ y → AlikeArgument x y
    secret : is_level o x.label ≡ true → is_level o y.label ≡ true → reaches x.label ≡ false → reaches y.label ≡ false
        → AlikeArgument x y

  -- two requests agree: they are equal, or posts that differ in such arguments only
  pub data Agree (x y : Request) : Type 0 where
    equal : x ≡ y → Agree x y
    posts : (a home number method : ℤ) (xs ys : List Argument) → x ≡ post a home number method xs → y ≡ post a home number method ys
        → Pairs AlikeArgument xs ys → Agree x y

  -- two lists are alike to the reader: equally many requests remain, and they agree one by one
  abbrev pub Alike : List Request → List Request → Type 0
  Alike first second = Pairs Agree (remaining first) (remaining second)

  -- the answers to the requests whose own level flows to the reader
  abbrev pub seen : List Request → List Answer → List Answer
  seen [] replies = []
  seen (x ∷ xs) [] = []
  seen (x ∷ xs) (r ∷ replies) = cond (reaches (bearer x)) (r ∷ seen xs replies) (seen xs replies)

-- What holds for every order that keeps the laws, every program that loads and every list of requests.
abbrev pub Always : ((o : Levels) (program : Program) (requests : List Request) → Type 0) → Type 0
Always P = (o : Levels) → Laws o → (program : Program) → well_formed o.count program ≡ true → (requests : List Request) → P o program requests

-- Two lists that are alike to a reader give that reader the same answers.
abbrev pub Secrecy : Type 0
Secrecy =
    Always (λ o program first. (reader : ℕ) → reader < o.count → (second : List Request) → Alike o reader first second
    → seen o reader first (run o program first).answers ≡ seen o reader second (run o program second).answers)

-- LABELS

-- A call waits for an object that stands, and the label of each of its locals flows to that object's level.
pub record Waiting (o : Levels) (σ : State) (c : Call) : Type 0 where
  pub object : Object
  pub stands : nth (σ.objects c.receiver.home) c.receiver.number ≡ Some object
  pub flows : (k : ℕ) → o.flow (c.locals k).label object.level ≡ true

-- Each value in an object's fields, or in the locals of a call in line for it, has a label that flows to the object's level.
pub record LabelsFlow (o : Levels) (σ : State) : Type 0 where
  pub fields : (home n : ℕ) (b : Object) → nth (σ.objects home) n ≡ Some b → (k : ℕ) → o.flow (b.fields k).label b.level ≡ true
  pub locals : (level i : ℕ) (c : Call) → nth (σ.calls level) i ≡ Some c → Waiting o σ c

-- So after every list.
abbrev pub LabelsAlwaysFlow : Type 0
LabelsAlwaysFlow = Always (λ o program requests. LabelsFlow o (run o program requests).state)

-- Every label is a level.
pub record LabelsAreLevels (o : Levels) (σ : State) : Type 0 where
  pub fields : (home n : ℕ) (b : Object) → nth (σ.objects home) n ≡ Some b → (k : ℕ) → (b.fields k).label < o.count
  pub locals : (level i : ℕ) (c : Call) → nth (σ.calls level) i ≡ Some c → (k : ℕ) → (c.locals k).label < o.count
  pub futures : (home n : ℕ) (x : Labelled) → nth (σ.futures home) n ≡ Some (Holding x) → x.label < o.count

-- So after every list.
abbrev pub LabelsAlwaysLevels : Type 0
LabelsAlwaysLevels = Always (λ o program requests. LabelsAreLevels o (run o program requests).state)

-- FUTURES

-- one more future that is owed, if a call owes one
abbrev pub owes : Option ℕ → List ℕ → List ℕ
owes None ns = ns
owes (Some n) ns = n ∷ ns

-- the futures that the calls of a line owe, call by call
abbrev pub owed_by : List Call → List ℕ
owed_by [] = []
owed_by (c ∷ cs) = owes c.owed (owed_by cs)

-- one more, if a future is open
abbrev pub counted : Future → ℕ → ℕ
counted Open n = suc n
counted (Holding x) n = n

-- how many futures are open
abbrev pub open_count : List Future → ℕ
open_count [] = 0
open_count (f ∷ fs) = counted f (open_count fs)

-- as many futures are open as calls in line owe one; each owes one that is open; no two owe the same
pub record Owed (futures : List Future) (calls : List Call) : Type 0 where
  pub count : length (owed_by calls) ≡ open_count futures
  pub each : (i n : ℕ) → nth (owed_by calls) i ≡ Some n → nth futures n ≡ Some Open
  pub once : (i j n : ℕ) → nth (owed_by calls) i ≡ Some n → nth (owed_by calls) j ≡ Some n → i ≡ j

-- So at each level, after every list.
abbrev pub FuturesOwed : Type 0
FuturesOwed =
    Always (λ o program requests. (level : ℕ) → Owed ((run o program requests).state.futures level) ((run o program requests).state.calls level))

-- A future that holds a value keeps it through every longer list.
abbrev pub ValuesStay : Type 0
ValuesStay =
    Always (λ o program requests. (more : List Request) (home n : ℕ) (x : Labelled)
    → nth ((run o program requests).state.futures home) n ≡ Some (Holding x)
    → nth ((run o program (requests ++ more)).state.futures home) n ≡ Some (Holding x))

-- REFUSALS

-- An answer of 1 to 9 leaves every table as it was, in every state.
abbrev pub RefusalsAlterNothing : Type 0
RefusalsAlterNothing =
    (o : Levels) (program : Program) (σ : State) (x : Request) → 1 ≤ number_of (answer o program σ x).answer
    → number_of (answer o program σ x).answer ≤ 9 → (answer o program σ x).state ≡ σ
