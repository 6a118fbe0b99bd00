use Rattle.statements.proofs.frame.Step.branch.Goals as goal

pub returns-clause-does : goal.returns-clause-does
returns-clause-does g c = λ σ. rw (← c.read-guard.ensures σ, ← c.from-first.ensures, ← c.from-second.ensures) (c.raise.ensures σ)
