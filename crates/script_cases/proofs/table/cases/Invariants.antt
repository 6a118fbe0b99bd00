use Rattle.std.proofs.Common.{length}
use Rattle.script_cases.proofs.table.cases.Given as goal

-- the bytes that no case took
abbrev pub decreases-loop-rest : goal.decreases-loop-rest
decreases-loop-rest l = length l.rest
