use Rattle.std.proofs.Common.{◌≡◌, ◌-◌, [], vec_items}
use Rattle.script.specs.Readers.{left}
use Rattle.console.specs.Requests.{arguments_on}
use Rattle.console.proofs.reader.arguments.Given as goal

-- what is left gives the arguments
abbrev pub invariant-loop : goal.invariant-loop
invariant-loop l = arguments_on (vec_items l.arguments) (l.count - l.counter) (left l.reader) ≡ arguments_on [] l.count (left l.initial.reader)
