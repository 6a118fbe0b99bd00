-- What the bench prints for an input.
use Rattle.std.specs.Prelude.{ℕ, cond, List, length, Ok, Err, Option, Result, nat_lt}
use Rattle.order.specs.Supplied.{ladder}
use Rattle.script.specs.declared.fault.BodyFault.{BodyFault}
use Rattle.script.specs.Classes.{Program}
use Rattle.script.specs.Reading.{reading}
use Rattle.rules.specs.Calling.{Request, run}
use Rattle.console.specs.Parts.{most_bytes, text_part, rows_part}
use Rattle.console.specs.Requests.{rows}
use Rattle.console.specs.Rows.{requested, readable}
use Rattle.console.specs.Tables.{answers_text, too_long_text, fault_table_text}

-- the table of what a text is read as and some rows: the answers that the rules give on the ladder, or the text's first fault
abbrev pub table_of : Result Program BodyFault → List (Option Request) → List ℕ
table_of (Ok program) xs = answers_text (readable xs) (run ladder program (requested xs)).answers
table_of (Err fault) xs = fault_table_text fault

-- an input that is too long is not looked at; any other one is a text and call rows
abbrev pub printed : List ℕ → List ℕ
printed input =
    cond (nat_lt most_bytes (length input)) too_long_text (table_of (reading ladder.count (text_part input)) (rows (rows_part input)))
