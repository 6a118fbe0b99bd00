use Rattle.std.proofs.Common.{refl, rules}
use Rattle.line.proofs.Parts.{packed-free}
use Rattle.line.proofs.tests.levels_stay_apart.Goals as goal

pub add_at-requires : goal.add_at-requires
add_at-requires g c = record { level = search rules; packed = packed-free 16 _ refl }
