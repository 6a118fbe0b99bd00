use Rattle.std.proofs.Common.{◌+◌, rules, ◌∙◌}
use Rattle.std.proofs.lemmas.Iterator.Search.{position_from_yields_List}
use Rattle.std.proofs.lemmas.List.{take_rest}
use borrow.Author.Tests.{tests}
use Rattle.console.proofs.Parting.{feeds, windowed, here, nowhere}
use Rattle.console.proofs.parts.split_later.Goals as goal

pub returns-in-Some : goal.returns-in-Some
returns-in-Some c =
    let xs = c.args.input.now in
    let i = c.in-Some.i in
    let first = position_from_yields_List feeds _ _ c.position-ends.result c.position-ends.ensures.ran (windowed _ xs c.windows.ensures.rest c.windows.ensures.size) (λ x b q k. search (rules, tests)) in
    let cut = here xs i _ first c.in-Some.is in
    record { text = cut.text; rows = take_rest xs (i + 2) ∙ cut.rows }

pub returns-in-None : goal.returns-in-None
returns-in-None c =
    let xs = c.args.input.now in
    let first = position_from_yields_List feeds _ _ c.position-ends.result c.position-ends.ensures.ran (windowed _ xs c.windows.ensures.rest c.windows.ensures.size) (λ x b q k. search (rules, tests)) in
    let cut = nowhere xs _ first c.in-None.is in
    record { text = cut.0; rows = cut.1 }
