use Rattle.std.specs.Slice.Iter.{split_inclusive_rest}
use Rattle.console.specs.Requests.{rows}
use Rattle.console.proofs.Sorting.{Taken}
use Rattle.console.proofs.calls.Calls.read.Given as goal

-- what was taken in and what is left is the whole
abbrev pub invariant-loop-line : goal.invariant-loop-line
invariant-loop-line l =
    goal.iterator-loop-line.can_next l.line-iterator
    × goal.iterator-loop-line.is_finite l.line-iterator
    × Taken l.calls (rows (split_inclusive_rest l.line-iterator)) (rows l.bytes)
