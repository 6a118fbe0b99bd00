-- What serving a whole list of requests promises, from new, with one text under one order.
use Rattle.std.specs.Prelude.{◌≡◌, ℕ, ◌<◌, List, ◌++◌, Some, Ok, Err, vec_items, Result}
use Rattle.order.specs.Levels.{Levels}
use Rattle.script.specs.declared.fault.BodyFault.{BodyFault}
use Rattle.script.specs.Classes.{Program}
use Rattle.script.specs.Reading.{reading}
use Rattle.rules.specs.declared.values.Labelled.{Labelled}
use Rattle.rules.specs.declared.tables.Future.TheVariants.{Holding}
use Rattle.rules.specs.Lists.{nth}
use Rattle.rules.specs.Calling.{Request, Ran, run}
use Rattle.rules.specs.Laws.{Alike, seen, Owed}
use Rattle.host.specs.declared.serving.Served.{Served}
use Rattle.host.specs.Hosts.{program_in, state_in}

-- what was served: the answers, in order, and the tables after them
abbrev pub ran_of : Served → Ran
ran_of s = record { answers = vec_items s.answers; state = state_in s.host }

-- the run of the rules with the program that a text is read as; or the text's first fault
abbrev pub run_with : Levels → Result Program BodyFault → List Request → Result Ran BodyFault
run_with o (Ok program) requests = Ok (run o program requests)
run_with o (Err fault) requests = Err fault

abbrev pub run_of : Levels → (text : List ℕ) → List Request → Result Ran BodyFault
run_of o text requests = run_with o (reading o.count text) requests

-- Every reader sees the same as in any other run whose list is alike to that reader.
abbrev pub KeepsSecrets : Levels → List Request → Served → Type 0
KeepsSecrets o requests s =
    (reader : ℕ) → reader < o.count → (second : List Request) → Alike o reader requests second
    → seen o reader requests (vec_items s.answers) ≡ seen o reader second (run o (program_in s.host) second).answers

-- At each level the open futures are those that calls in line there owe, one each.
abbrev pub OwesEach : Served → Type 0
OwesEach s = (level : ℕ) → Owed ((state_in s.host).futures level) ((state_in s.host).calls level)

-- A value that a future held at any time of the run is there at its end.
abbrev pub KeepsValues : Levels → List Request → Served → Type 0
KeepsValues o requests s =
    (before more : List Request) → requests ≡ before ++ more → (home n : ℕ) (x : Labelled)
    → nth ((run o (program_in s.host) before).state.futures home) n ≡ Some (Holding x) → nth ((state_in s.host).futures home) n ≡ Some (Holding x)
