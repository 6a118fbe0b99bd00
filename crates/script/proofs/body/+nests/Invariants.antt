use Rattle.std.proofs.Common.{◌≡◌, length}
use Rattle.script.proofs.Nesting.{fits}
use Rattle.script.proofs.body.+nests.Given as goal

abbrev pub decreases-nests : goal.decreases-nests
decreases-nests l = l.depth

-- what is left tells of the whole
abbrev pub invariant-loop-statement : goal.invariant-loop-statement
invariant-loop-statement l = fits l.depth l.statements ≡ fits l.depth l.left

abbrev pub decreases-loop-statement : goal.decreases-loop-statement
decreases-loop-statement l = length l.left
