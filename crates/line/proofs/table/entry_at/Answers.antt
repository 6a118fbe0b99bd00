use Rattle.line.specs.Slots.{elements}
use Rattle.line.specs.Tables.{part}
use Rattle.line.proofs.Places.{nth-within}
use Rattle.line.proofs.table.entry_at.Goals as goal

pub returns : goal.returns
returns g c = record { found = c.at_place.ensures; within = rw c.at_place.ensures (nth-within (elements (part c.args.room c.args.level c.args.table.now)) c.args.place) }
