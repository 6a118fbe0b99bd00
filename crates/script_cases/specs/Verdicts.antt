-- What a verdict says of what loading answered.
use Rattle.std.specs.Prelude.{◌≡◌, length, Ok, Err, vec_items, Result}
use Rattle.script.specs.declared.program.Program.{Program}
use Rattle.script.specs.declared.fault.LoadError.{LoadError}
use Rattle.script.specs.declared.fault.LoadError.TheVariants.{Fault, Memory}
use Rattle.script.specs.Faults.{line_of, cause_of, layer_of}
use Rattle.script_cases.specs.declared.verdict.Verdict.{Verdict}
use Rattle.script_cases.specs.declared.verdict.Verdict.TheVariants.{Loads, Told, NoMemory}

-- a verdict that a text loaded, with so many classes
abbrev pub Counts : Program → Verdict → Type 0
Counts p (Loads classes methods statements) = classes ≡ length (vec_items p.classes)
Counts p (Told line cause layer) = ⊥
Counts p NoMemory = ⊥

-- the verdict on a program, on a fault, and on want of memory
abbrev pub Judges : Result Program LoadError → Verdict → Type 0
Judges (Ok p) v = Counts p v
Judges (Err (Fault f)) v = v ≡ Told (line_of f) (cause_of f) (layer_of f)
Judges (Err Memory) v = v ≡ NoMemory
