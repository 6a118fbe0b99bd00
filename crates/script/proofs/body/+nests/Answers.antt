use Rattle.std.proofs.Common.{sym, ap, ◌∙◌, ◌∷◌, arith}
use Rattle.script.proofs.Nesting.{fits_plain, fits_cut}
use Rattle.script.proofs.body.+nests.Goals.{then-not-nests-via-then-not-nests, then-not-nests-via-else-not-nests+then-not-nests-2}
use Rattle.script.proofs.body.+nests.Goals as goal

pub loop-statement-preserved : goal.loop-statement-preserved
loop-statement-preserved t c = c.loop-statement.invariant ∙ fits_plain c.args.depth _ _ _ c.in-Some.ensures.cases.0 c.in_default-statement.not-Branch

pub loop-statement-preserved-in-Branch : goal.loop-statement-preserved-in-Branch
loop-statement-preserved-in-Branch t c =
    let e = fits_cut c.args.depth c.loop-statement.left.now c.in-Some.rest.now c.in-Branch.guard _ _ (c.in-Some.ensures.cases.0 ∙ ap (λ s. s ∷ c.in-Some.rest.now) c.in-Branch.is)
    _ _ _ _ _ _ (omega arith) c.from.ensures c.from-in-Branch.ensures c.in-Some-split_at_checked.ensures.cases c.in-Some-split_at_checked-2.ensures.cases in
    c.loop-statement.invariant ∙ e ∙ rw (sym c.if-not-nests.ensures, sym c.if-not-nests-2.ensures)

pub returns-then-not-nests : goal.returns-then-not-nests
returns-then-not-nests t c =
    let e = fits_cut c.args.depth c.loop-statement.left.now c.in-Some.rest.now c.in-Branch.guard _ _ (c.in-Some.ensures.cases.0 ∙ ap (λ s. s ∷ c.in-Some.rest.now) c.in-Branch.is)
    _ _ _ _ _ _ (omega arith) c.from.ensures c.from-in-Branch.ensures c.in-Some-split_at_checked.ensures.cases c.in-Some-split_at_checked-2.ensures.cases in
    sym (c.loop-statement.invariant ∙ e ∙ elim c.then-not-nests.branch [
      | then-not-nests-via-then-not-nests w ↦ rw (sym w.if-not-nests.ensures)
      | then-not-nests-via-else-not-nests+then-not-nests-2 w ↦ rw (sym w.if-not-nests.ensures, sym w.if-not-nests-2.ensures)
    ])
