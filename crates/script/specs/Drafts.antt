-- What the memory of a draft holds, and what a method of a draft did.
use Rattle.std.specs.Prelude.{◌≡◌, map, Ok, Err, vec_items, Result}
use Rattle.script.specs.declared.fault.BodyFault.{BodyFault}
use Rattle.script.specs.declared.fault.LoadError.{LoadError}
use Rattle.script.specs.declared.fault.LoadError.TheVariants.{Fault, Memory}
use Rattle.script.specs.declared.draft.Draft.{Draft as StoredDraft}
use Rattle.script.specs.Classes.{method_of, classes_of}
use Rattle.script.specs.Reading.{Draft}

abbrev pub draft_of : StoredDraft → Draft
draft_of d =
    record {
      classes = classes_of (vec_items d.classes);
      fields = vec_items d.fields;
      methods = map method_of (vec_items d.methods);
      heading = d.heading;
      statements = vec_items d.statements;
    }

-- why something was not done: there was no memory, or what was to be done is the fault
abbrev pub Failed : {X : Type 0} → LoadError → Result X BodyFault → Type 0
Failed Memory told = Unit {0}
Failed (Fault f) told = told ≡ Err f

-- r did what is told, and left x
abbrev pub Does : {X Y : Type 0} → Result X LoadError → Result Y BodyFault → Y → Type 0
Does (Ok _) told x = told ≡ Ok x
Does (Err e) told x = Failed e told

-- r gave what is told, as `view` sees it
abbrev pub Gives : {X Y : Type 0} → (X → Y) → Result X LoadError → Result Y BodyFault → Type 0
Gives view (Ok x) told = told ≡ Ok (view x)
Gives view (Err e) told = Failed e told
