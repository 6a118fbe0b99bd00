use Rattle.std.proofs.Common.{◌≡◌, map, length, take, drop}
use Rattle.script.specs.Layout.{every}
use Rattle.rules.specs.declared.calls.Argument.{Argument}
use Rattle.rules.specs.Calling.{is_level, argument_value}
use Rattle.host.proofs.arguments.values_of.Given as goal

abbrev pub invariant-loop-i : goal.invariant-loop-i
invariant-loop-i g l =
    let stands = λ (x : Argument). is_level (g.O.Order.levels l.order) x.label in
    (length l.values ≡ 4)
    × (every stands (drop l.i l.arguments) ≡ every stands l.arguments)
    × (take l.i l.values ≡ map argument_value (take l.i l.arguments))
