-- What A, D and L work out.
use Rattle.std.specs.Prelude.{ℤ}
use Rattle.rules.specs.Values.{plus, minus, less}
use Rattle.statements.specs.declared.operating.Operation.{Operation}
use Rattle.statements.specs.declared.operating.Operation.TheVariants.{Sum, Difference, Comparison}

-- the number that an operation makes of two
abbrev pub on_numbers : Operation → ℤ → ℤ → ℤ
on_numbers Sum = plus
on_numbers Difference = minus
on_numbers Comparison = less
