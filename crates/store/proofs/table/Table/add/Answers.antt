use Rattle.store.proofs.Lining.{lines_added}
use Rattle.store.proofs.table.Table.add.Goals as goal

pub returns-clause-lines : goal.returns-clause-lines
returns-clause-lines g c = let e = c.add_at.ensures in lines_added g.E.Kept.told c.args.self.now _ c.args.level c.args.e c.add_at.result e.accepts e.cases e.others
