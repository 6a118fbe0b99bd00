use Rattle.std.proofs.Common.{◌≡◌, ◌+◌, ◌-◌, ◌*◌, length}
use Rattle.stepper.proofs.Stack.{left, Going}
use Rattle.stepper.proofs.turn.run.Given as goal

abbrev pub invariant-loop-range : goal.invariant-loop-range
invariant-loop-range g l =
    let o = g.O.Order.levels l.order in
    let m = g.M.Machine in
    let program = m.program l.initial.machine in
    let scene = m.scene l.initial.machine in
    Going o program scene (length l.body) l.level (m.running l.initial.machine) l.waiting.items l.range (m.running l.machine)
    × (m.program l.machine ≡ program) × (m.scene l.machine ≡ scene) × m.ready o l.machine × (m.lent l.machine ≡ m.lent l.initial.machine)

abbrev pub decreases-loop-range : goal.decreases-loop-range
decreases-loop-range g l = 2 * (left l.waiting.items + (l.range.end - l.range.at)) + length l.waiting.items
