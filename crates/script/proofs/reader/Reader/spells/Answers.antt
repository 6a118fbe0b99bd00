use Rattle.std.proofs.Common.{sym, refl, ap, ◌∙◌}
use Rattle.script.specs.Bytes.{got}
use Rattle.script.specs.Readers.{left}
use Rattle.script.proofs.Fronts.{stripped, not_stripped}
use Rattle.script.proofs.reader.Reader.spells.Goals as goal

pub returns-in_default-clause-reads : goal.returns-in_default-clause-reads
returns-in_default-clause-reads c = (not_stripped c.args.letters.now _ c.in_default.ensures.cases, refl)

pub returns-clause-reads : goal.returns-clause-reads
returns-clause-reads c = let p = c.in-Some.ensures.cases in stripped c.args.letters.now (left c.args.self.now) p.0 ∙ ap (got tt) (sym p.1)
