use Rattle.std.proofs.Common.{length}
use Rattle.script_cases.proofs.Endings.{Passed}
use Rattle.script_cases.proofs.table.cut_text.Given as goal

-- what was passed are lines that say no ending
abbrev pub invariant-loop-rest : goal.invariant-loop-rest
invariant-loop-rest l = Passed l.lines l.rest

-- the bytes that were not looked at yet
abbrev pub decreases-loop-rest : goal.decreases-loop-rest
decreases-loop-rest l = length l.rest
