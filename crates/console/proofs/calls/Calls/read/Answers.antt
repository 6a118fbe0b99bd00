use Rattle.std.proofs.Common.{◌≡◌, eqb, ◌∷◌, sym, ap, ◌∙◌, rules}
use Rattle.std.proofs.lemmas.Fn.{always_returns_same}
use Rattle.std.proofs.lemmas.List.{nil_from_length}
use Rattle.std.specs.Slice.Iter.{split_inclusive_rest}
use Rattle.console.specs.Requests.{rows}
use Rattle.console.specs.Rows.{called}
use Rattle.console.proofs.Exactly.{rows_exactly}
use Rattle.console.proofs.Lining.{next_line}
use Rattle.console.proofs.Sorting.{taken_more, taken_all}
use Rattle.console.proofs.calls.Calls.read.Goals as goal

pub returns-in_err-read_row-clause-exactly : goal.returns-in_err-read_row-clause-exactly
returns-in_err-read_row-clause-exactly c = rows_exactly

pub returns-in_err-add-clause-exactly : goal.returns-in_err-add-clause-exactly
returns-in_err-add-clause-exactly c = rows_exactly

pub loop-line-preserved : goal.loop-line-preserved
loop-line-preserved c =
    let cut = c.in-Some.ensures.steps in
    let first = (cut.1.2 (λ b. eqb b 10) (always_returns_same _ _ _ (λ a r f k. search rules))).1 in
    let next = next_line _ c.in-Some.line.now _ cut.1.0 cut.0 cut.1.1 first cut.2 in
    let left : rows (split_inclusive_rest c.loop-line.line-iterator) ≡ called c.in_ok-read_row.field-0 ∷ rows (split_inclusive_rest c.next.new.self) =
    next ∙ ap (λ x. x ∷ rows (split_inclusive_rest c.next.new.self)) (sym c.in_ok-read_row.ensures) in
    (search rules, search rules, taken_more _ c.loop-line.calls c.add.new.self _ _ (rows c.args.bytes.now) c.loop-line.invariant.2 left c.in_ok-add.ensures)

pub returns-clause-reads : goal.returns-clause-reads
returns-clause-reads c =
    taken_all c.loop-line.calls _ (rows c.args.bytes.now) c.loop-line.invariant.2 (ap rows (nil_from_length (split_inclusive_rest c.loop-line.line-iterator) c.in-None.ensures.steps.0))

pub returns-clause-exactly : goal.returns-clause-exactly
returns-clause-exactly c = rows_exactly
