use Rattle.std.proofs.Common.{sym, ap, ◌∙◌}
use Rattle.script_cases.specs.Lines.{ending_of}
use Rattle.script_cases.proofs.Endings.{passed_more}
use Rattle.script_cases.proofs.table.cut_text.Goals as goal

pub loop-rest-preserved : goal.loop-rest-preserved
loop-rest-preserved c =
    let cut = c.cut_line-line.ensures in passed_more _ _ _ c.loop-rest.invariant cut.rest (ap ending_of (sym cut.front) ∙ sym c.in_default.ensures)
