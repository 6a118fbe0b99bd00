use Rattle.std.proofs.Common.{◌≡◌, true, length}
use Rattle.line.specs.Tables.{packed}
use Rattle.line.proofs.tests.eight_fit_at_a_level.Given as goal

abbrev pub invariant-loop-number : goal.invariant-loop-number
invariant-loop-number g l = (length l.table ≡ 16) × (packed 8 l.table ≡ true)
