-- The whole table that is put out.
use Rattle.std.specs.Prelude.{ℕ, ◌+◌, Bool, true, false, List, [], ◌∷◌, ◌++◌}
use Rattle.script.specs.declared.fault.BodyFault.{BodyFault}
use Rattle.rules.specs.declared.calls.Answer.{Answer}
use Rattle.console.specs.declared.output.OutputRow.{OutputRow}
use Rattle.console.specs.Outputs.{plain, row_of, row_text, fault_text, names}

-- the row of a call row: the first answer if it could be read, else 9
abbrev pub row_for : Bool → List Answer → OutputRow
row_for false answers = plain 9
row_for true [] = plain 9
row_for true (a ∷ answers) = row_of a

-- the answers that are left after it
abbrev pub left_by : Bool → List Answer → List Answer
left_by false answers = answers
left_by true [] = []
left_by true (a ∷ answers) = answers

-- a row for each call row, by whether it could be read, and the answers of those that could
abbrev pub merged : List Bool → List Answer → List OutputRow
merged [] answers = []
merged (k ∷ ks) answers = row_for k answers ∷ merged ks (left_by k answers)

-- the lines of some rows, numbered from n
abbrev pub lines_from : ℕ → List OutputRow → List ℕ
lines_from n [] = []
lines_from n (x ∷ xs) = row_text n x ++ lines_from (n + 1) xs

-- the names, and a line for each call row, numbered from 1
abbrev pub answers_text : List Bool → List Answer → List ℕ
answers_text readable answers = names ++ lines_from 1 (merged readable answers)

-- the table of an input that is too long
abbrev pub too_long_text : List ℕ
too_long_text = names ++ row_text 0 (plain 9)

-- the table of a text that does not load
abbrev pub fault_table_text : BodyFault → List ℕ
fault_table_text f = names ++ fault_text f
