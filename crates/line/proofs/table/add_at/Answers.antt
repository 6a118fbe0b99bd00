use Rattle.std.proofs.Common.{◌*◌, ◌≤◌, ltb, length, ap, ◌∙◌, arith, rules}
use borrow.Author.Rules.{scaled_fits≤}
use Rattle.line.specs.Slots.{elements}
use Rattle.line.specs.Tables.{part}
use Rattle.line.proofs.Parts.{lent, lent_add, length_part}
use Rattle.line.proofs.table.add_at.Goals as goal

pub offset_bounds-table-level : goal.offset_bounds-table-level
offset_bounds-table-level g c = let h : c.args.level * c.args.room ≤ length c.args.table.now = omega (arith, c.requires.level) in search (rules, scaled_fits≤)

pub returns : goal.returns
returns g c =
    let l = lent c.args.room c.args.level c.args.table.now c.add.new.slots c.requires.level c.add.auto.slots in
    let p = c.add.ensures in
    record {
      accepts = p.accepts ∙ ap (ltb (length (elements (part c.args.room c.args.level c.args.table.now)))) (length_part c.args.room c.args.level c.args.table.now c.requires.level);
      cases = lent_add c.args.room c.args.level c.args.table.now _ c.add.new.slots l c.add.result c.args.e p.cases;
      others = l.others;
      packed = l.stays c.requires.packed p.compact;
    }
