use Rattle.std.proofs.Common.{◌≡◌}
use Rattle.rules.specs.Tables.{State}
use Rattle.rules.specs.Statements.{raise}
use Rattle.statements.specs.Turning.{running_of, program_of, scene_of_frame}
use Rattle.statements.proofs.frame.Step.raise.Given as goal

-- the variables are what the rules' `raise` makes of the statements looked at so far
abbrev pub invariant-loop-statement : goal.invariant-loop-statement
invariant-loop-statement g l =
    (σ : State) → running_of l.variables σ
    ≡ raise (g.O.Order.levels l.order) (program_of l.self.frame) (scene_of_frame l.self.frame) l.guard l.self.context l.start l.statement-index (running_of l.before σ)
