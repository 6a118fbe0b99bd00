use Rattle.store.specs.States.{state_of}
use Rattle.statements.proofs.frame.Frame.carry_out.Goals as goal

pub returns-in-Branch-clause-does : goal.returns-in-Branch-clause-does
returns-in-Branch-clause-does g c =
    let s = c.step-step.ensures in
    rw (c.in-Branch.is, ← s.frame, ← s.at, ← s.context) (c.branch-step.ensures.does (state_of c.args.tables.now))
