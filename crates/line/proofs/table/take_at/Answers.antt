use Rattle.std.proofs.Common.{◌*◌, ◌≤◌, length, arith, rules}
use borrow.Author.Rules.{scaled_fits≤}
use Rattle.line.proofs.Parts.{lent}
use Rattle.line.proofs.table.take_at.Goals as goal

pub offset_bounds-table-level : goal.offset_bounds-table-level
offset_bounds-table-level g c = let h : c.args.level * c.args.room ≤ length c.args.table.now = omega (arith, c.requires.level) in search (rules, scaled_fits≤)

pub returns : goal.returns
returns g c =
    let l = lent c.args.room c.args.level c.args.table.now c.take.new.slots c.requires.level c.take.auto.slots in
    let p = c.take.ensures in
    record { taken = p.taken; elements = rw l.same p.elements; others = l.others; packed = l.stays c.requires.packed p.compact }
