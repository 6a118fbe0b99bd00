-- Some rows, inputs and answers, and what the definitions say of them.
use Rattle.std.specs.Prelude.{◌≡◌, ℕ, true, false, List, [], ◌∷◌, ℤ, pos, negsuc, Some, None, codes}
use Rattle.rules.specs.declared.calls.Argument.{Argument}
use Rattle.rules.specs.declared.calls.Refusal.TheVariants.{Full}
use Rattle.rules.specs.declared.calls.Answer.TheVariants.{Refused, Made, Held, Collected, Noted}
use Rattle.rules.specs.declared.tables.Layer.TheVariants.{AtStatement}
use Rattle.rules.specs.declared.values.Mark.TheVariants.{Withheld, WrongKind}
use Rattle.rules.specs.declared.values.Value.TheVariants.{Number as NumberValue, FutureName, Marked}
use Rattle.rules.specs.Values.{name, labelled}
use Rattle.rules.specs.Calling.{make, post, turn, collect, note}
use Rattle.console.specs.declared.output.Kind.TheVariants.{Number, Object, Future, Mark, Note}
use Rattle.console.specs.Requests.{row_request, rows}
use Rattle.console.specs.Parts.{text_part, rows_part}
use Rattle.console.specs.Outputs.{plain, pair, row_of}
use Rattle.console.specs.Tables.{answers_text, too_long_text}

abbrev argument : ℤ → ℤ → Argument
argument number label = record { number = number; label = label }

-- one row for each word, with numbers of both signs and of full length, and with none to five arguments
abbrev pub Readable : Type 0
Readable =
    (row_request (codes "0 make 0 3") ≡ Some (make (pos 0) (pos 0) (pos 3)))
    × (row_request (codes "-1 make 2147483647 -2147483648") ≡ Some (make (negsuc 0) (pos 2147483647) (negsuc 2147483647)))
    × (row_request (codes "0 post 0 12 3 0") ≡ Some (post (pos 0) (pos 0) (pos 12) (pos 3) []))
    × (row_request (codes "1 post 0 0 0 2 5 3 -7 0") ≡ Some (post (pos 1) (pos 0) (pos 0) (pos 0) (argument (pos 5) (pos 3) ∷ argument (negsuc 6) (pos 0) ∷ [])))
    × (row_request (codes "0 post 0 0 0 5 1 0 1 0 1 0 1 0 1 0")
    ≡ Some (post (pos 0) (pos 0) (pos 0) (pos 0) (argument (pos 1) (pos 0) ∷ argument (pos 1) (pos 0) ∷ argument (pos 1) (pos 0) ∷ argument (pos 1) (pos 0) ∷ argument (pos 1) (pos 0) ∷ [])))
    × (row_request (codes "2 turn 0 7") ≡ Some (turn (pos 2) (pos 0) (pos 7)))
    × (row_request (codes "3 collect 0 0") ≡ Some (collect (pos 3) (pos 0) (pos 0)))
    × (row_request (codes "0 note 10") ≡ Some (note (pos 0) (pos 10)))

-- it says nothing
abbrev SaysNothing : List ℕ → Type 0
SaysNothing row = row_request row ≡ None

-- no row; another word; numbers misspelt or too large; spaces; values too few or too many; counts
abbrev pub Unreadable : Type 0
Unreadable =
    SaysNothing []
    × SaysNothing (codes "0 Make 0 3") × SaysNothing (codes "0 makes 0 3") × SaysNothing (codes "0 mak 0 3") × SaysNothing (codes "make 0 3")
    × SaysNothing (codes "00 make 0 3") × SaysNothing (codes "+0 make 0 3") × SaysNothing (codes "0 make -0 3") × SaysNothing (codes "0 note 2147483648")
    × SaysNothing (codes "0 note -2147483649") × SaysNothing (codes "0  note 0") × SaysNothing (codes " 0 note 0") × SaysNothing (codes "0 note 0 ")
    × SaysNothing (codes "0 note") × SaysNothing (codes "0 turn 0") × SaysNothing (codes "0 turn 0 0 0")
    × SaysNothing (codes "0 post 0 0 0") × SaysNothing (codes "0 post 0 0 0 -1") × SaysNothing (codes "0 post 0 0 0 2 5 3") × SaysNothing (codes "0 post 0 0 0 1 5 3 5 3")

-- an unreadable row does not touch the next one; empty rows count; the last one needs its line feed
abbrev pub ListsOfRows : Type 0
ListsOfRows =
    (rows [] ≡ [])
    × (rows (codes "0 note 1\n") ≡ Some (note (pos 0) (pos 1)) ∷ [])
    × (rows (codes "x\n\n0 note 1\n") ≡ None ∷ None ∷ Some (note (pos 0) (pos 1)) ∷ [])
    × (rows (codes "0 note 1\n0 note 1") ≡ Some (note (pos 0) (pos 1)) ∷ None ∷ [])

-- the first empty line parts text and rows
abbrev pub Parted : Type 0
Parted =
    (text_part (codes "a\nb\n\nc\n\nd\n") ≡ codes "a\nb\n") × (rows_part (codes "a\nb\n\nc\n\nd\n") ≡ codes "c\n\nd\n")
    × (text_part (codes "\nc\n") ≡ []) × (rows_part (codes "\nc\n") ≡ codes "c\n")
    × (text_part (codes "a\nb") ≡ codes "a\nb") × (rows_part (codes "a\nb") ≡ [])

-- an answer of each kind
abbrev pub PutOut : Type 0
PutOut =
    (row_of (Refused Full) ≡ plain 5)
    × (row_of Held ≡ plain 10)
    × (row_of (Made (name 2 7)) ≡ record { returned = 0; kind = Object; columns = pair (pos 2) (pos 7) })
    × (row_of (Collected (labelled (NumberValue (negsuc 6)) 3)) ≡ record { returned = 0; kind = Number; columns = pair (negsuc 6) (pos 0) })
    × (row_of (Collected (labelled (FutureName (name 1 4)) 1)) ≡ record { returned = 0; kind = Future; columns = pair (pos 1) (pos 4) })
    × (row_of (Collected (labelled (Marked Withheld) 0)) ≡ record { returned = 0; kind = Mark; columns = pair (pos 1) (pos 0) })
    × (row_of (Noted (record { cause = WrongKind; layer = AtStatement; class = 1; method = 2; statement = 3 }))
    ≡ record { returned = 0; kind = Note; columns = record { p = pos 5; q = pos 5; s = pos 1; t = pos 2; u = pos 3 } })

-- answers go to the readable rows only, and rows are numbered from 1
abbrev pub WholeTables : Type 0
WholeTables =
    (answers_text [] [] ≡ codes "call r k p q s t u\n")
    × (answers_text (true ∷ false ∷ true ∷ []) (Made (name 2 7) ∷ Held ∷ []) ≡ codes "call r k p q s t u\n1 0 2 2 7 0 0 0\n2 9 0 0 0 0 0 0\n3 10 0 0 0 0 0 0\n")
    × (too_long_text ≡ codes "call r k p q s t u\n0 9 0 0 0 0 0 0\n")
