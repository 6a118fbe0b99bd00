-- Values with labels, the numbers of marks, and what A, D and L work out.
use Rattle.std.specs.Prelude.{ℕ, zero, suc, Bool, true, false, cond, ℤ, pos, negsuc, ◌+ℤ◌, ◌-ℤ◌, int_lt}
use Rattle.std.specs.Int.{saturate_to_bits}
use Rattle.rules.specs.declared.values.Mark.{Mark}
use Rattle.rules.specs.declared.values.Mark.TheVariants.{Withheld, Refused, NoSpace, NotYet, WrongKind}
use Rattle.rules.specs.declared.values.Name.{Name}
use Rattle.rules.specs.declared.values.Value.{Value}
use Rattle.rules.specs.declared.values.Value.TheVariants.{Number, ObjectName, FutureName, Marked}
use Rattle.rules.specs.declared.values.Labelled.{Labelled}
use Rattle.rules.specs.declared.tables.Layer.{Layer}
use Rattle.rules.specs.declared.tables.Layer.TheVariants.{AtPost, AtObject, AtFuture, AtTable, AtStatement}

-- the number of a mark
abbrev pub mark_number : Mark → ℕ
mark_number Withheld = 1
mark_number Refused = 2
mark_number NoSpace = 3
mark_number NotYet = 4
mark_number WrongKind = 5

-- the number of a layer
abbrev pub layer_number : Layer → ℕ
layer_number AtPost = 1
layer_number AtObject = 2
layer_number AtFuture = 3
layer_number AtTable = 4
layer_number AtStatement = 5

-- the name with that home and that number
abbrev pub name : (home number : ℕ) → Name
name home number = record { home = home; number = number }

-- the value with that label
abbrev pub labelled : Value → ℕ → Labelled
labelled v l = record { value = v; label = l }

-- the number 0 with a label
abbrev pub nought : ℕ → Labelled
nought l = labelled (Number (pos 0)) l

-- what is read past the last place of a table
abbrev pub blank : Labelled
blank = nought 0

-- What a statement or a wrapper gives: a value as it is, or a new mark. The new mark's layer goes into its note.
pub data Made : Type 0 where
  plain : Labelled → Made
  fresh : Mark → Layer → ℕ → Made

-- the value, with its own label
abbrev pub given : Made → Labelled
given (plain x) = x
given (fresh mark layer l) = labelled (Marked mark) l

-- sums and differences clamp to the ends of 32 bits, signed
abbrev pub plus : ℤ → ℤ → ℤ
plus x y = saturate_to_bits 31 (x +ℤ y)

abbrev pub minus : ℤ → ℤ → ℤ
minus x y = saturate_to_bits 31 (x -ℤ y)

-- 1 if x < y, else 0
abbrev pub less : ℤ → ℤ → ℤ
less x y = cond (int_lt x y) (pos 1) (pos 0)

-- an operation on two values, of which both must be numbers; l is both labels joined
abbrev pub worked : (f : ℤ → ℤ → ℤ) (one other : Value) (l : ℕ) → Made
worked f (Number x) (Number y) l = plain (labelled (Number (f x y)) l)
worked f (Number x) (ObjectName n) l = fresh WrongKind AtStatement l
worked f (Number x) (FutureName n) l = fresh WrongKind AtStatement l
worked f (Number x) (Marked k) l = fresh WrongKind AtStatement l
worked f (ObjectName n) w l = fresh WrongKind AtStatement l
worked f (FutureName n) w l = fresh WrongKind AtStatement l
worked f (Marked k) w l = fresh WrongKind AtStatement l

-- whether a guard's number picks the first branch
abbrev pub nonzero : ℤ → Bool
nonzero (pos zero) = false
nonzero (pos (suc n)) = true
nonzero (negsuc n) = true
