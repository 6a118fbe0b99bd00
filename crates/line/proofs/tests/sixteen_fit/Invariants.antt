use Rattle.std.proofs.Common.{◌≡◌, true, length}
use Rattle.line.specs.Slots.{compact}
use Rattle.line.proofs.tests.sixteen_fit.Given as goal

abbrev pub invariant-loop-place : goal.invariant-loop-place
invariant-loop-place g l = (length l.slots ≡ 16) × (compact l.slots ≡ true)
