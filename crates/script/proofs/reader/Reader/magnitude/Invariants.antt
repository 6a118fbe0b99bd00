use Rattle.std.proofs.Common.{◌≡◌, ◌<◌, length}
use Rattle.script.specs.Bytes.{digits_on}
use Rattle.script.specs.Readers.{left, Kept}
use Rattle.script.proofs.reader.Reader.magnitude.Given as goal

-- what is left gives the number
abbrev pub invariant-loop-d : goal.invariant-loop-d
invariant-loop-d l = (digits_on l.most l.n (left l.self) ≡ digits_on l.most l.initial.n (left l.initial.self)) × Kept l.initial.self l.self × (l.n < 2147483658)

abbrev pub decreases-loop-d : goal.decreases-loop-d
decreases-loop-d l = length (left l.self)
