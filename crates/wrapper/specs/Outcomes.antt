-- What the wrapper's functions answer, as the rules tell it.
use Rattle.std.specs.Prelude.{◌≡◌, ℕ, Some, None, Ok, Err, Result}
use Rattle.order.specs.Levels.{Levels}
use Rattle.script.specs.Classes.{Program}
use Rattle.rules.specs.declared.values.Name.{Name}
use Rattle.rules.specs.declared.tables.Object.{Object as StoredObject}
use Rattle.rules.specs.declared.calls.Refusal.{Refusal}
use Rattle.rules.specs.Values.{name}
use Rattle.rules.specs.Tables.{State, object_of}
use Rattle.rules.specs.Wrapper.{Verdict, admitted, refused, next_object, unmakeable, with_object}

-- the verdict on a call: the object that is to serve it, or why not
abbrev pub verdict_of : Result StoredObject Refusal → Verdict
verdict_of (Ok b) = admitted (object_of b)
verdict_of (Err why) = refused why

-- an object was made, and τ has it; or it cannot be made, and τ is as before
abbrev pub Makes : Levels → Program → State → (home class level : ℕ) → Result Name Refusal → State → Type 0
Makes o program σ home class level (Ok n) τ =
    (unmakeable o program σ home class level ≡ None) × (n ≡ name home (next_object σ home)) × (τ ≡ with_object o program σ home class level)
Makes o program σ home class level (Err why) τ = (unmakeable o program σ home class level ≡ Some why) × (τ ≡ σ)
