use Rattle.line.proofs.Order.{leave_in_order, found_as_before, others_in_order}
use Rattle.line.proofs.laws.order_is_kept.Goals as goal

pub returns : goal.returns
returns g c =
    let e = g.E.Element in
    record { in_order = leave_in_order e.key_of e.same g.met.E.Element.exact; as_before = found_as_before e.key_of e.same; others = others_in_order }
