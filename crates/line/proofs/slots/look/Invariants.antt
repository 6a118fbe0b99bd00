use Rattle.std.proofs.Common.{◌≡◌, drop}
use Rattle.line.specs.Slots.{elements, oldest_from}
use Rattle.line.proofs.slots.look.Given as goal

abbrev pub invariant-loop-i : goal.invariant-loop-i
invariant-loop-i g l = let e = g.E.Element in oldest_from 0 (λ x. e.same (e.key_of x) l.key) (elements l.slots) ≡ oldest_from l.i (λ x. e.same (e.key_of x) l.key) (elements (drop l.i l.slots))
