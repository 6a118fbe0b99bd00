use Rattle.std.proofs.Common.{length}
use Rattle.statements.proofs.Ranges.{assigned_fits}
use Rattle.statements.proofs.frame.Frame.step.Goals as goal

pub invariant_of-result-clause-fits : goal.invariant_of-result-clause-fits
invariant_of-result-clause-fits c =
    let f = c.args.self.now in
    assigned_fits (length f.fields.now) f.body.now c.args.at _ c.assigned_by.ensures f.ranges
