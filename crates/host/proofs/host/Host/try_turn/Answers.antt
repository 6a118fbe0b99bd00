use Rattle.std.proofs.Common.{rules}
use Rattle.host.specs.Hosts.{program_in, state_in}
use Rattle.host.proofs.Sizes.{objects_few}
use Rattle.host.proofs.Sent.{level_sent, name_sent, turn_no_name}
use Rattle.host.proofs.host.Host.try_turn.Goals as goal

pub returns-in_err-name : goal.returns-in_err-name
returns-in_err-name g c =
    let o = g.O.Order.levels c.args.order.now in
    let h = c.args.self.now in
    let refused = turn_no_name o (program_in h) (state_in h) c.args.bearer c.args.home c.args.number c.in_ok-level.level c.in_err-name.field-0.0
    (level_sent o c.args.bearer _ c.ranges.bearer c.in_ok-level.ensures.value)
    (name_sent o c.args.home c.args.number _ c.ranges.home c.ranges.number c.in_err-name.ensures.value) (objects_few h.tables) in
    search rules
