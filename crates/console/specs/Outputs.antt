-- The rows that are put out, as data and as text.
use Rattle.std.specs.Prelude.{ℕ, List, [], ◌∷◌, ◌++◌, ℤ, pos, codes, decimal}
use Rattle.std.specs.Fmt.{signed_decimal}
use Rattle.script.specs.declared.fault.BodyFault.{BodyFault}
use Rattle.script.specs.Faults.{line_of, cause_of, layer_of}
use Rattle.rules.specs.declared.values.Name.{Name}
use Rattle.rules.specs.declared.values.Value.{Value}
use Rattle.rules.specs.declared.values.Value.TheVariants.{Number as NumberValue, ObjectName, FutureName, Marked}
use Rattle.rules.specs.declared.tables.Note.{Note as StoredNote}
use Rattle.rules.specs.declared.calls.Answer.{Answer}
use Rattle.rules.specs.Values.{mark_number, layer_number}
use Rattle.rules.specs.Answers.{number_of, Carried, nothing, object, future, value, noted, carried_by}
use Rattle.console.specs.declared.output.Kind.{Kind}
use Rattle.console.specs.declared.output.Kind.TheVariants.{Nothing, Number, Object, Future, Mark, Note}
use Rattle.console.specs.declared.output.Columns.{Columns}
use Rattle.console.specs.declared.output.OutputRow.{OutputRow}

abbrev pub kind_number : Kind → ℕ
kind_number Nothing = 0
kind_number Number = 1
kind_number Object = 2
kind_number Future = 3
kind_number Mark = 4
kind_number Note = 5

-- two data, and zeros after them
abbrev pub pair : ℤ → ℤ → Columns
pair p q = record { p = p; q = q; s = pos 0; t = pos 0; u = pos 0 }

-- a returned number, and nothing with it
abbrev pub plain : ℕ → OutputRow
plain returned = record { returned = returned; kind = Nothing; columns = pair (pos 0) (pos 0) }

-- with one number
abbrev pub single : ℕ → Kind → ℤ → OutputRow
single returned kind n = record { returned = returned; kind = kind; columns = pair n (pos 0) }

-- with a name's home and number
abbrev pub named : ℕ → Kind → Name → OutputRow
named returned kind n = record { returned = returned; kind = kind; columns = pair (pos n.home) (pos n.number) }

-- with a value, whose label is not told
abbrev pub value_row : ℕ → Value → OutputRow
value_row returned (NumberValue n) = single returned Number n
value_row returned (ObjectName n) = named returned Object n
value_row returned (FutureName n) = named returned Future n
value_row returned (Marked mark) = single returned Mark (pos (mark_number mark))

-- a note's cause, layer, class, method and statement
abbrev pub note_columns : StoredNote → Columns
note_columns x =
    record { p = pos (mark_number x.cause); q = pos (layer_number x.layer); s = pos x.class; t = pos x.method; u = pos x.statement }

-- with a note
abbrev pub note_row : ℕ → StoredNote → OutputRow
note_row returned x = record { returned = returned; kind = Note; columns = note_columns x }

-- with what comes with the number
abbrev pub carrying : ℕ → Carried → OutputRow
carrying returned nothing = plain returned
carrying returned (object n) = named returned Object n
carrying returned (future n) = named returned Future n
carrying returned (value x) = value_row returned x.value
carrying returned (noted x) = note_row returned x

-- the row of an answer
abbrev pub row_of : Answer → OutputRow
row_of a = carrying (number_of a) (carried_by a)

-- a space (32) before what follows
abbrev pub spaced : List ℕ → List ℕ → List ℕ
spaced cs rest = 32 ∷ cs ++ rest

-- the data, with single spaces between
abbrev pub columns_text : Columns → List ℕ
columns_text x = signed_decimal x.p ++ spaced (signed_decimal x.q) (spaced (signed_decimal x.s) (spaced (signed_decimal x.t) (32 ∷ signed_decimal x.u)))

-- what a row tells after its call, with single spaces between
abbrev pub told : OutputRow → List ℕ
told x = decimal x.returned ++ spaced (decimal (kind_number x.kind)) (32 ∷ columns_text x.columns)

-- the line of a row, with the call's number in front and a line feed (10) after it
abbrev pub row_text : ℕ → OutputRow → List ℕ
row_text call x = decimal call ++ spaced (told x) (10 ∷ [])

-- row 0 of a text that does not load
abbrev pub fault_text : BodyFault → List ℕ
fault_text f = codes "0 7 0 " ++ (decimal (line_of f) ++ spaced (decimal (cause_of f)) (spaced (decimal (layer_of f)) (codes " 0 0\n")))

-- the line of the columns' names
abbrev pub names : List ℕ
names = codes "call r k p q s t u\n"
