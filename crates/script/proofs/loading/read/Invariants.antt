use Rattle.std.proofs.Common.{◌≡◌, length}
use Rattle.script.specs.Readers.{left}
use Rattle.script.specs.Reading.{reading}
use Rattle.script.specs.Drafts.{draft_of}
use Rattle.script.proofs.Rowing.{rows_in}
use Rattle.script.proofs.loading.read.Given as goal

-- what is left tells what the text is read as
abbrev pub invariant-loop-reader : goal.invariant-loop-reader
invariant-loop-reader l = reading l.levels l.text ≡ rows_in l.levels l.reader.line (draft_of l.draft) (left l.reader)

abbrev pub decreases-loop-reader : goal.decreases-loop-reader
decreases-loop-reader l = length (left l.reader)
