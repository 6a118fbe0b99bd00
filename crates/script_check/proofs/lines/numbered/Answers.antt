use Rattle.std.proofs.Common.{◌-◌, eqb, rules}
use Rattle.std.proofs.lemmas.Iterator.Consumers.{nth_from_yields_List}
use Rattle.std.proofs.lemmas.Iterator.Splits.{YieldsList-from_slice_split}
use borrow.Author.Tests.{tests}
use Rattle.script_check.proofs.Cutting.{line_part}
use Rattle.script_check.proofs.lines.numbered.Goals as goal

pub returns : goal.returns
returns c =
    let given = nth_from_yields_List _ _ _ c.nth.ensures.ran
    (YieldsList-from_slice_split _ (λ b. eqb b 10) c.args.text.now c.split.ensures.rest c.split.ensures.done c.split.ensures.closure (λ x r q k. search (rules, tests))) in
    let line = line_part c.args.text.now (c.args.number - 1) in
    search rules
