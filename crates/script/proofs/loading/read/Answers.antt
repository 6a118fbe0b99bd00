use Rattle.script.specs.Readers.{left}
use Rattle.script.specs.Drafts.{draft_of}
use Rattle.script.proofs.Rowing.{rows_step, rest_shorter}
use Rattle.script.proofs.loading.read.Goals as goal

pub loop-reader-smaller : goal.loop-reader-smaller
loop-reader-smaller c =
    rest_shorter c.args.levels c.loop-reader.reader.line (draft_of c.loop-reader.draft) (left c.loop-reader.reader) (draft_of c.read_row.new.draft)
    (left c.read_row.new.reader) c.in_ok-read_row.ensures.reads

pub loop-reader-preserved : goal.loop-reader-preserved
loop-reader-preserved c =
    let r = c.in_ok-read_row.ensures in
    rows_step c.args.levels c.loop-reader.reader.line _ (draft_of c.loop-reader.draft) (left c.loop-reader.reader) (draft_of c.read_row.new.draft)
    (left c.read_row.new.reader) _ c.loop-reader.invariant r.reads r.ended.line
