-- What a host holds, as the rules see it, and what a call does to it.
use Rattle.std.specs.Prelude.{◌≡◌, ℕ, true, List, [], length, ℤ, is_some, Some, None, Ok, Err, vec_items, Option, Result}
use Rattle.order.specs.Levels.{Levels}
use Rattle.script.specs.declared.class.Class.{Class as StoredClass}
use Rattle.script.specs.declared.fault.LoadError.{LoadError}
use Rattle.script.specs.declared.fault.LoadError.TheVariants.{Fault, Memory as OutOfMemory}
use Rattle.script.specs.declared.program.Program.{Program as StoredProgram}
use Rattle.script.specs.Classes.{Program, classes_of}
use Rattle.script.specs.Reading.{reading}
use Rattle.rules.specs.declared.calls.Answer.{Answer}
use Rattle.rules.specs.declared.calls.Answer.TheVariants.{Refused}
use Rattle.rules.specs.declared.calls.Argument.{Argument}
use Rattle.rules.specs.declared.calls.Refusal.{Refusal}
use Rattle.rules.specs.declared.values.Name.{Name}
use Rattle.rules.specs.Tables.{State}
use Rattle.rules.specs.Wrapper.{verdict}
use Rattle.rules.specs.Calling.{Request, natural, size, posted, answer}
use Rattle.store.specs.States.{state_of}
use Rattle.host.specs.declared.host.Host.{Host}
use Rattle.host.specs.declared.loading.LoadRefusal.{LoadRefusal}
use Rattle.host.specs.declared.loading.LoadRefusal.TheVariants.{AlreadyLoaded, Faulty, Memory}

-- the classes that are loaded; before a text is loaded there are none
abbrev pub classes_in : Option StoredProgram → List StoredClass
classes_in None = []
classes_in (Some p) = vec_items p.classes

-- the program that a host serves
abbrev pub program_in : Host → Program
program_in h = classes_of (classes_in h.program)

-- what stands in its tables
abbrev pub state_in : Host → State
state_in h = state_of h.tables

-- what a party is told of what came of its call: what the call gave, or why it was refused
abbrev pub told : {X : Type 0} → (X → Answer) → Result X Refusal → Answer
told given (Ok x) = given x
told given (Err why) = Refused why

-- The host h answers the request x with r and becomes k, as the rules say; the program stays.
pub record Answers (o : Levels) (h : Host) (x : Request) (r : Answer) (k : Host) : Type 0 where
  pub served : answer o (program_in h) (state_in h) x ≡ record { answer = r; state = state_in k }
  pub program : k.program ≡ h.program

-- The host h sends a posted call at level s to the object of a name, or refuses it, answers r and becomes k, as the rules say.
pub record Delivers (o : Levels) (h : Host) (s : ℕ) (n : Name) (method : ℤ) (arguments : List Argument) (r : Answer) (k : Host) : Type 0 where
  pub served :
      posted o (program_in h) (state_in h) s n (size method) arguments (verdict o (program_in h) (state_in h) s n (natural method) (length arguments) true)
      ≡ record { answer = r; state = state_in k }
  pub program : k.program ≡ h.program

-- What came of loading a text into the host h, which becomes k: a program, where none was loaded; or nothing changes.
abbrev pub Loads : Levels → List ℕ → Host → Result (Unit {0}) LoadRefusal → Host → Type 0
Loads o text h (Ok done) k = (h.program ≡ None) × (reading o.count text ≡ Ok (program_in k)) × (is_some k.program ≡ true) × (k.tables ≡ h.tables)
Loads o text h (Err AlreadyLoaded) k = (is_some h.program ≡ true) × (k ≡ h)
Loads o text h (Err (Faulty f)) k = (h.program ≡ None) × (reading o.count text ≡ Err f) × (k ≡ h)
Loads o text h (Err Memory) k = (h.program ≡ None) × (k ≡ h)

-- why a load was refused that failed so
abbrev pub refusal_of : LoadError → LoadRefusal
refusal_of (Fault f) = Faulty f
refusal_of OutOfMemory = Memory

-- the number that a load returns that was refused; want of memory has none
abbrev pub load_number : LoadRefusal → Option ℕ
load_number AlreadyLoaded = Some 8
load_number (Faulty f) = Some 7
load_number Memory = None
