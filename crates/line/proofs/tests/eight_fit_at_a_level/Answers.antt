use Rattle.std.proofs.Common.{refl}
use Rattle.line.proofs.Parts.{packed-free}
use Rattle.line.proofs.tests.eight_fit_at_a_level.Goals as goal

pub loop-number-init : goal.loop-number-init
loop-number-init g c = (refl, packed-free 8 _ refl)
