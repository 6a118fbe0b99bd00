-- The four tables, a part for each level: objects, futures, calls in line, notes.
use Rattle.std.specs.Prelude.{ℕ, Bool, ◌&&◌, List, [], ◌∷◌, Option, ◌==◌, slice_index_or}
use Rattle.rules.specs.declared.values.Mark.{Mark}
use Rattle.rules.specs.declared.values.Name.{Name}
use Rattle.rules.specs.declared.values.Labelled.{Labelled}
use Rattle.rules.specs.declared.tables.Layer.{Layer}
use Rattle.rules.specs.declared.tables.Note.{Note}
use Rattle.rules.specs.declared.tables.Future.{Future}
use Rattle.rules.specs.declared.tables.Object.{Object as StoredObject}
use Rattle.rules.specs.declared.tables.Call.{Call as StoredCall}
use Rattle.rules.specs.Lists.{update, added}
use Rattle.rules.specs.Values.{blank, Made, plain, fresh}

-- An object: its class, its level, and what its fields hold, by number.
pub record Object : Type 0 where
  pub class : ℕ
  pub level : ℕ
  pub fields : ℕ → Labelled

-- A call in line: whom it is for, which method, what its locals hold, by number, the place of its next statement, and the future that it
-- owes at its own level, if any.
pub record Call : Type 0 where
  pub receiver : Name
  pub method : ℕ
  pub locals : ℕ → Labelled
  pub next : ℕ
  pub owed : Option ℕ

-- what memory holds: eight fields, eight locals
abbrev pub object_of : StoredObject → Object
object_of b = record { class = b.class; level = b.level; fields = λ i. slice_index_or b.fields i blank }

abbrev pub call_of : StoredCall → Call
call_of c = record { receiver = c.receiver; method = c.method; locals = λ i. slice_index_or c.locals i blank; next = c.next; owed = c.owed }

-- The state of the host: what stands at each level.
pub record State : Type 0 where
  pub objects : ℕ → List Object
  pub futures : ℕ → List Future
  pub calls : ℕ → List Call
  pub notes : ℕ → List Note

-- all tables empty
abbrev pub new : State
new = record { objects = λ k. []; futures = λ k. []; calls = λ k. []; notes = λ k. [] }

-- how much a level's part of each table holds
abbrev pub most_objects : ℕ
most_objects = 8

abbrev pub most_futures : ℕ
most_futures = 32

abbrev pub most_calls : ℕ
most_calls = 16

abbrev pub most_notes : ℕ
most_notes = 16

-- two names are one
abbrev pub same_name : Name → Name → Bool
same_name a b = a.home == b.home && a.number == b.number

-- Who is at work when a mark is made: a class, a method, and a statement from 1, or 0 by post.
pub record Place : Type 0 where
  pub class : ℕ
  pub method : ℕ
  pub statement : ℕ

-- the note of a mark
abbrev pub note_of : Mark → Layer → Place → Note
note_of mark layer w = record { cause = mark; layer = layer; class = w.class; method = w.method; statement = w.statement }

-- The note of a new mark goes into the line of the mark's own label joined with the context; a value leaves none. `join` is the order's.
abbrev pub filed : (join : ℕ → ℕ → ℕ) (context : ℕ) (w : Place) (m : Made) (notes : ℕ → List Note) → ℕ → List Note
filed join context w (plain x) notes = notes
filed join context w (fresh mark layer l) notes =
    update notes (join l context) (added most_notes (notes (join l context)) (note_of mark layer w))

-- the notes of several, in their order
abbrev pub all_filed : (join : ℕ → ℕ → ℕ) (context : ℕ) (w : Place) (ms : List Made) (notes : ℕ → List Note) → ℕ → List Note
all_filed join context w [] notes = notes
all_filed join context w (m ∷ ms) notes = all_filed join context w ms (filed join context w m notes)
