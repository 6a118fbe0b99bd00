use Rattle.std.proofs.Common.{[]}
use Rattle.rules.specs.Wrapper.{shown}
use Rattle.wrapper.proofs.Masks.{locals_filled}
use Rattle.wrapper.proofs.sending.masked.Goals as goal

pub returns-clause-locals : goal.returns-clause-locals
returns-clause-locals g c =
    let sending = c.args.sending.now in
    let mask = shown (g.O.Order.levels c.args.order.now) [] c.args.level sending.level sending.layer in
    let v = c.loop-i.invariant in
    locals_filled mask c.args.arguments.now sending.level c.loop-i.locals c.loop-i.i c.loop-i-test.false c.loop-i.auto.i-end v.0 v.1 v.2
