use Rattle.std.proofs.Common.{◌≡◌, ◌+◌, ◌++◌, drop, string_bytes}
use Rattle.console.specs.Tables.{merged, lines_from, answers_text}
use Rattle.console.proofs.table.answers_table.Given as goal

-- what is put out and what is left give the table
abbrev pub invariant-loop-i : goal.invariant-loop-i
invariant-loop-i l = string_bytes l.table ++ lines_from (l.i + 1) (merged (drop l.i l.readable) l.rest) ≡ answers_text l.readable l.answers
