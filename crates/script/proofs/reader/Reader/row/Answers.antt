use Rattle.std.proofs.Common.{◌∙◌, rules}
use Rattle.script.specs.declared.reader.Reader.{Reader}
use Rattle.script.specs.Readers.{Kept}
use Rattle.script.proofs.Fronts.{tail_more}
use Rattle.script.proofs.reader.Reader.row.Goals as goal

-- one call after another
infixl 10 ◌⨾◌
◌⨾◌ : {r s t : Reader} → Kept r s → Kept s t → Kept r t
k ⨾ l = record { line = l.line ∙ k.line; tail = tail_more k.tail l.tail }

pub returns-in_err-kind-clause-ended : goal.returns-in_err-kind-clause-ended
returns-in_err-kind-clause-ended c =
    let k = c.number.ensures.kept ⨾ c.column.ensures.kept ⨾ c.space.ensures.kept ⨾ c.kind.ensures.kept in
    record { line = search rules; tail = k.tail }

pub returns-in_err-to-clause-ended : goal.returns-in_err-to-clause-ended
returns-in_err-to-clause-ended c =
    let k = c.number.ensures.kept ⨾ c.column.ensures.kept ⨾ c.space.ensures.kept ⨾ c.kind.ensures.kept ⨾ c.column-2.ensures.kept in
    record { line = search rules; tail = k.tail }

pub returns-in_err-a-clause-ended : goal.returns-in_err-a-clause-ended
returns-in_err-a-clause-ended c =
    let k = c.number.ensures.kept ⨾ c.column.ensures.kept ⨾ c.space.ensures.kept ⨾ c.kind.ensures.kept ⨾ c.column-2.ensures.kept ⨾ c.column-3.ensures.kept in
    record { line = search rules; tail = k.tail }

pub returns-in_err-b-clause-ended : goal.returns-in_err-b-clause-ended
returns-in_err-b-clause-ended c =
    let k = c.number.ensures.kept ⨾ c.column.ensures.kept ⨾ c.space.ensures.kept ⨾ c.kind.ensures.kept ⨾ c.column-2.ensures.kept ⨾ c.column-3.ensures.kept ⨾ c.column-4.ensures.kept in
    record { line = search rules; tail = k.tail }

pub returns-in_err-c-clause-ended : goal.returns-in_err-c-clause-ended
returns-in_err-c-clause-ended c =
    let k = c.number.ensures.kept ⨾ c.column.ensures.kept ⨾ c.space.ensures.kept ⨾ c.kind.ensures.kept ⨾ c.column-2.ensures.kept ⨾ c.column-3.ensures.kept ⨾ c.column-4.ensures.kept ⨾ c.column-5.ensures.kept in
    record { line = search rules; tail = k.tail }

pub returns-in_err-d-clause-ended : goal.returns-in_err-d-clause-ended
returns-in_err-d-clause-ended c =
    let k = c.number.ensures.kept ⨾ c.column.ensures.kept ⨾ c.space.ensures.kept ⨾ c.kind.ensures.kept ⨾ c.column-2.ensures.kept ⨾ c.column-3.ensures.kept ⨾ c.column-4.ensures.kept ⨾ c.column-5.ensures.kept ⨾ c.column-6.ensures.kept in
    record { line = search rules; tail = k.tail }

pub returns-in_err-e-clause-ended : goal.returns-in_err-e-clause-ended
returns-in_err-e-clause-ended c =
    let k = c.number.ensures.kept ⨾ c.column.ensures.kept ⨾ c.space.ensures.kept ⨾ c.kind.ensures.kept ⨾ c.column-2.ensures.kept ⨾ c.column-3.ensures.kept ⨾ c.column-4.ensures.kept ⨾ c.column-5.ensures.kept ⨾ c.column-6.ensures.kept ⨾ c.column-7.ensures.kept in
    record { line = search rules; tail = k.tail }

pub returns-in_err-f-clause-ended : goal.returns-in_err-f-clause-ended
returns-in_err-f-clause-ended c =
    let k = c.number.ensures.kept ⨾ c.column.ensures.kept ⨾ c.space.ensures.kept ⨾ c.kind.ensures.kept ⨾ c.column-2.ensures.kept ⨾ c.column-3.ensures.kept ⨾ c.column-4.ensures.kept ⨾ c.column-5.ensures.kept ⨾ c.column-6.ensures.kept ⨾ c.column-7.ensures.kept ⨾ c.column-8.ensures.kept in
    record { line = search rules; tail = k.tail }

pub returns-in_err-line_feed-clause-ended : goal.returns-in_err-line_feed-clause-ended
returns-in_err-line_feed-clause-ended c =
    let k = c.number.ensures.kept ⨾ c.column.ensures.kept ⨾ c.space.ensures.kept ⨾ c.kind.ensures.kept ⨾ c.column-2.ensures.kept ⨾ c.column-3.ensures.kept ⨾ c.column-4.ensures.kept ⨾ c.column-5.ensures.kept ⨾ c.column-6.ensures.kept ⨾ c.column-7.ensures.kept ⨾ c.column-8.ensures.kept in
    record { line = search rules; tail = tail_more k.tail c.line_feed.ensures.ended.tail }

pub returns-clause-ended : goal.returns-clause-ended
returns-clause-ended c =
    let k = c.number.ensures.kept ⨾ c.column.ensures.kept ⨾ c.space.ensures.kept ⨾ c.kind.ensures.kept ⨾ c.column-2.ensures.kept ⨾ c.column-3.ensures.kept ⨾ c.column-4.ensures.kept ⨾ c.column-5.ensures.kept ⨾ c.column-6.ensures.kept ⨾ c.column-7.ensures.kept ⨾ c.column-8.ensures.kept in
    record { line = search rules; tail = tail_more k.tail c.line_feed.ensures.ended.tail }
