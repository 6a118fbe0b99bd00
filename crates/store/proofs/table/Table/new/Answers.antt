use Rattle.std.proofs.lemmas.List.{length-replicate}
use Rattle.line.proofs.Parts.{packed-free}
use Rattle.store.proofs.Lining.{free-new, no_lines}
use Rattle.store.proofs.table.Table.new.Goals as goal

pub invariant_of-result : goal.invariant_of-result
invariant_of-result g c = record { size = simp length-replicate c.requires; packed = packed-free g.row.ROOM _ (free-new _ g.row.SLOTS) }

pub returns : goal.returns
returns g c = no_lines g.E.Kept.told _ (free-new _ g.row.SLOTS)
