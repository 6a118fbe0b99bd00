-- What a text is read as: a program, or its first fault.
use Rattle.std.specs.Prelude.{ℕ, zero, suc, ◌+◌, Bool, cond, List, [], ◌∷◌, ◌++◌, length, Some, None, Ok, Err, Option, Result}
use Rattle.script.specs.declared.class.Statement.{Statement}
use Rattle.script.specs.declared.fault.ByteFault.TheVariants.{Names, Form}
use Rattle.script.specs.declared.fault.RowFault.{RowFault}
use Rattle.script.specs.declared.fault.RowFault.TheVariants.{Bytes}
use Rattle.script.specs.declared.fault.BodyFault.{BodyFault}
use Rattle.script.specs.declared.fault.BodyFault.TheVariants.{Rows, Body}
use Rattle.script.specs.declared.reader.Row.{Row}
use Rattle.script.specs.declared.row.Place.{Place}
use Rattle.script.specs.declared.row.Item.{Item}
use Rattle.script.specs.declared.row.Item.TheVariants.{Label, Head, Action}
use Rattle.script.specs.declared.row.Entry.{Entry}
use Rattle.script.specs.declared.heading.Heading.{Heading}
use Rattle.script.specs.Bytes.{Got, got, bad, names, bytes_at, row_at}
use Rattle.script.specs.Rows.{begun, entry}
use Rattle.script.specs.Classes.{Method, Class, Program}
use Rattle.script.specs.Bodies.{stands}

-- a value, and then what follows from it; or the fault
abbrev pub bind : {X Y : Type 0} → Result X BodyFault → (X → Result Y BodyFault) → Result Y BodyFault
bind (Ok x) k = k x
bind (Err f) k = Err f

-- What was read so far: the classes that are complete; of the class at hand its fields, the methods that are complete, and, where a method is
-- open, its heading (the line and the parameters of its P row) and its statements.
pub record Draft : Type 0 where
  pub classes : List Class
  pub fields : List ℕ
  pub methods : List Method
  pub heading : Option Heading
  pub statements : List Statement

abbrev pub nothing : Draft
nothing = record { classes = []; fields = []; methods = []; heading = None; statements = [] }

-- how many methods are open: one or none
abbrev pub open_methods : Option Heading → ℕ
open_methods None = 0
open_methods (Some h) = 1

-- where the next row stands
abbrev pub place : Draft → Place
place d =
    record { class = length d.classes; fields = length d.fields; methods = length d.methods + open_methods d.heading; statements = length d.statements }

-- the open method is complete
abbrev pub with_method : Draft → ℕ → Draft
with_method d parameters =
    record {
      classes = d.classes;
      fields = d.fields;
      methods = d.methods ++ record { parameters = parameters; statements = d.statements } ∷ [];
      heading = None;
      statements = [];
    }

abbrev pub close_method : Option Heading → Draft → Result Draft BodyFault
close_method None d = Ok d
close_method (Some h) d = cond (stands d.statements) (Ok (with_method d h.parameters)) (Err (Body h.line))

-- where a method is open, its statements are to be a body; if they are not, the line of its heading is blamed
abbrev pub close_body : Draft → Result Draft BodyFault
close_body d = close_method d.heading d

-- the class at hand is complete
abbrev pub close_class : Draft → Draft
close_class d =
    record {
      classes = d.classes ++ record { fields = d.fields; methods = d.methods } ∷ [];
      fields = [];
      methods = [];
      heading = d.heading;
      statements = d.statements;
    }

abbrev pub turn_class : Bool → Draft → Draft
turn_class begins d = cond begins (close_class d) d

abbrev pub with_field : Draft → ℕ → Draft
with_field d label = record { classes = d.classes; fields = d.fields ++ label ∷ []; methods = d.methods; heading = d.heading; statements = d.statements }

abbrev pub with_heading : Draft → ℕ → ℕ → Draft
with_heading d line parameters =
    record { classes = d.classes; fields = d.fields; methods = d.methods; heading = Some (record { line = line; parameters = parameters }); statements = d.statements }

abbrev pub with_statement : Draft → Statement → Draft
with_statement d s = record { classes = d.classes; fields = d.fields; methods = d.methods; heading = d.heading; statements = d.statements ++ s ∷ [] }

-- a row is taken in: a field or a heading closes the method before it, and the class before it where another begins
abbrev pub take_in : ℕ → Bool → Item → Draft → Result Draft BodyFault
take_in line begins (Label label) d = bind (close_body d) (λ e. Ok (with_field (turn_class begins e) label))
take_in line begins (Head parameters) d = bind (close_body d) (λ e. Ok (with_heading (turn_class begins e) line parameters))
take_in line begins (Action s) d = Ok (with_statement d s)

-- the end of the text closes what is open
abbrev pub all_classes : Draft → Program
all_classes d = cond (begun (place d)) (close_class d).classes d.classes

abbrev pub finish : Draft → Result Program BodyFault
finish d = bind (close_body d) (λ e. Ok (all_classes e))

-- what the next line says at its place, and the bytes after it
abbrev pub with_rest : {X : Type 0} → Result X RowFault → List ℕ → Result (X × List ℕ) RowFault
with_rest (Ok x) rest = Ok (x, rest)
with_rest (Err f) rest = Err f

abbrev pub entry_got : ℕ → ℕ → Place → Got Row → Result (Entry × List ℕ) RowFault
entry_got levels line p (got r rest) = with_rest (entry levels line p r) rest
entry_got levels line p bad = Err (Bytes (Form line))

abbrev pub entry_from : ℕ → ℕ → Place → List ℕ → Result (Entry × List ℕ) RowFault
entry_from levels line p bs = entry_got levels line p (row_at bs)

-- the next line, taken in, and the bytes after it
abbrev pub taken : ℕ → Draft → Result (Entry × List ℕ) RowFault → Result (Draft × List ℕ) BodyFault
taken line d (Ok p) = bind (take_in line p.0.begins_class p.0.item d) (λ e. Ok (e, p.1))
taken line d (Err f) = Err (Rows f)

abbrev pub row_from : ℕ → ℕ → Draft → List ℕ → Result (Draft × List ℕ) BodyFault
row_from levels line d bs = taken line d (entry_from levels line (place d) bs)

-- the rows in some bytes, from a line on, after what was read so far; `fuel` is at least the number of bytes, and each row takes some
abbrev pub rows_from : ℕ → ℕ → ℕ → Draft → List ℕ → Result Program BodyFault
rows_from fuel levels line d [] = finish d
rows_from zero levels line d (b ∷ bs) = finish d
rows_from (suc fuel) levels line d (b ∷ bs) = bind (row_from levels line d (b ∷ bs)) (λ p. rows_from fuel levels (line + 1) p.0 p.1)

abbrev pub after_names : ℕ → Got (Unit {0}) → Result Program BodyFault
after_names levels (got _ bs) = rows_from (length bs) levels 2 nothing bs
after_names levels bad = Err (Rows (Bytes (Names 1)))

-- the program that a text is read as under a count of levels, or its first fault
abbrev pub reading : ℕ → List ℕ → Result Program BodyFault
reading levels text = after_names levels (bytes_at names text)
