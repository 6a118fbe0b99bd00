-- The numbers of variables.
use Rattle.std.specs.Prelude.{ℕ}
use Rattle.script.specs.declared.class.Variable.{Variable}
use Rattle.script.specs.declared.class.Variable.TheVariants.{Local, Field}

-- the number of a variable among the locals, or among the fields
abbrev pub number_of : Variable → ℕ
number_of (Local k) = k
number_of (Field k) = k
