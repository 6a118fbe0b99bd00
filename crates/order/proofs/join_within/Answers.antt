use Rattle.order.proofs.Joining.{joins}
use Rattle.order.proofs.join_within.Goals as goal

pub returns-clause-theory : goal.returns-clause-theory
returns-clause-theory g c = joins _ (g.met.O.Order.lawful c.args.order.now)
