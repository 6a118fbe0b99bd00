-- What M passes on.
use Rattle.std.specs.Prelude.{List, take}
use Rattle.rules.specs.declared.values.Labelled.{Labelled}
use Rattle.statements.specs.declared.passing.Passed.{Passed}

-- the values that M passes on: the first of the four, as many as there are
abbrev pub values_of : Passed → List Labelled
values_of p = take p.count p.values
