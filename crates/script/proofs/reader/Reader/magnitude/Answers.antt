use Rattle.std.proofs.Common.{rules}
use Rattle.script.proofs.Fronts.{too_large}
use Rattle.script.proofs.reader.Reader.magnitude.Goals as goal

pub returns-then-n-eq0-clause-reads : goal.returns-then-n-eq0-clause-reads
returns-then-n-eq0-clause-reads c = search (rules, too_large)
