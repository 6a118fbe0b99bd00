use Rattle.std.proofs.Common.{◌≡◌, [], vec_items, sym, ◌∙◌, rules}
use Rattle.script.specs.Bytes.{bad}
use Rattle.script.specs.Readers.{left}
use Rattle.console.specs.Requests.{arguments_on}
use Rattle.console.proofs.Counting.{none_more}
use Rattle.console.proofs.reader.arguments.Goals as goal

pub returns-in_err-argument : goal.returns-in_err-argument
returns-in_err-argument c =
    let none : arguments_on [] c.args.count (left c.args.reader.now) ≡ bad =
    sym c.loop.invariant ∙ none_more (vec_items c.loop.arguments) c.args.count c.loop.counter (left c.loop.reader) c.loop-test.true c.in_err-argument.ensures.0 in
    search rules
