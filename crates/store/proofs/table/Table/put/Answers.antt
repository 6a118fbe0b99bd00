use Rattle.std.proofs.Common.{rules}
use Rattle.store.proofs.Lining.{none_put}
use Rattle.store.proofs.table.Table.put.Goals as goal

pub returns-else-is_some : goal.returns-else-is_some
returns-else-is_some g c = none_put g.E.Kept.told c.args.self.now c.args.level c.args.place _ (search rules)
