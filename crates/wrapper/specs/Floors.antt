-- Floors of the fields of one class, by the labels that the class declares.
use Rattle.std.specs.Prelude.{ℕ, Bool, true, List, Some, None, Option, slice_index}
use Rattle.order.specs.Levels.{Levels}
use Rattle.script.specs.declared.class.Variable.{Variable}
use Rattle.script.specs.declared.class.Variable.TheVariants.{Local, Field}

-- a field's floor: its declared label joined with the object's home
abbrev pub floor_in : Levels → (fields : List ℕ) (home k : ℕ) → ℕ
floor_in o fields home k = o.join (slice_index fields k) home

-- a call at level s may assign the variable: if it is a field, s flows to its floor
abbrev pub writes_in : Levels → (fields : List ℕ) (s home : ℕ) → Option Variable → Bool
writes_in o fields s home None = true
writes_in o fields s home (Some (Local k)) = true
writes_in o fields s home (Some (Field k)) = o.flow s (floor_in o fields home k)
