-- The layout of script texts: the text that rows have, the rows that a program has, and when a program is well-formed.
use Rattle.std.specs.Prelude.{ℕ, suc, ◌+◌, ◌^◌, Bool, true, ◌&&◌, List, [], ◌∷◌, ◌++◌, map, length, ℤ, pos, negsuc, Some, None, Option, nat_le, nat_lt}
use Rattle.std.specs.Fmt.{signed_decimal}
use Rattle.script.specs.declared.class.Variable.{Variable}
use Rattle.script.specs.declared.class.Variable.TheVariants.{Local, Field as OfObject}
use Rattle.script.specs.declared.class.Arguments.{Arguments}
use Rattle.script.specs.declared.class.Arguments.TheVariants.{Empty, One, Two, Three, Four}
use Rattle.script.specs.declared.class.Statement.{Statement as Operation}
use Rattle.script.specs.declared.class.Statement.TheVariants.{Constant, Itself, Copy, Add, Subtract, Less, Branch, Invoke, Get, Create, Return}
use Rattle.script.specs.declared.reader.Letter.{Letter}
use Rattle.script.specs.declared.reader.Letter.TheVariants.{N, T, C, A, D, L, I, M, G, O, R}
use Rattle.script.specs.declared.reader.Kind.{Kind}
use Rattle.script.specs.declared.reader.Kind.TheVariants.{Field, Parameters, Statement}
use Rattle.script.specs.declared.reader.Row.{Row}
use Rattle.script.specs.Bytes.{names}
use Rattle.script.specs.Classes.{Method, Class, Program}
use Rattle.script.specs.Bodies.{stands}

-- TEXT

-- the character of a letter
abbrev pub letter_code : Letter → ℕ
letter_code N = 78
letter_code T = 84
letter_code C = 67
letter_code A = 65
letter_code D = 68
letter_code L = 76
letter_code I = 73
letter_code M = 77
letter_code G = 71
letter_code O = 79
letter_code R = 82

abbrev pub kind_code : Kind → ℕ
kind_code Field = 70
kind_code Parameters = 80
kind_code (Statement letter) = letter_code letter

-- a space, and a number in decimal
abbrev pub column_text : ℤ → List ℕ
column_text z = 32 ∷ signed_decimal z

-- ten columns with single spaces between them, and a line feed
abbrev pub row_text : Row → List ℕ
row_text r =
    signed_decimal r.class ++ (column_text r.method ++ (32 ∷ kind_code r.kind ∷ (column_text r.to ++ (column_text r.a ++ (column_text r.b
    ++ (column_text r.c ++ (column_text r.d ++ (column_text r.e ++ (column_text r.f ++ (10 ∷ []))))))))))

abbrev pub rows_text : List Row → List ℕ
rows_text [] = []
rows_text (r ∷ rs) = row_text r ++ rows_text rs

-- the names line, and then the rows
abbrev pub text_of : List Row → List ℕ
text_of rows = names ++ rows_text rows

-- ROWS

-- locals are 0 to 7, fields 8 to 15
abbrev pub variable_column : Variable → ℤ
variable_column (Local k) = pos k
variable_column (OfObject k) = pos (8 + k)

-- where there is none, −1
abbrev pub optional_column : Option Variable → ℤ
optional_column (Some v) = variable_column v
optional_column None = negsuc 0

-- the columns `to` and `a` to `f`
pub record Columns : Type 0 where
  pub to : ℤ
  pub a : ℤ
  pub b : ℤ
  pub c : ℤ
  pub d : ℤ
  pub e : ℤ
  pub f : ℤ

-- the first three are given, and the others are not used
abbrev pub three : ℤ → ℤ → ℤ → Columns
three to a b = record { to = to; a = a; b = b; c = pos 0; d = pos 0; e = pos 0; f = pos 0 }

abbrev pub invocation : ℤ → ℤ → ℤ → Arguments → Columns
invocation to a b Empty = record { to = to; a = a; b = b; c = negsuc 0; d = negsuc 0; e = negsuc 0; f = negsuc 0 }
invocation to a b (One v) = record { to = to; a = a; b = b; c = variable_column v; d = negsuc 0; e = negsuc 0; f = negsuc 0 }
invocation to a b (Two v w) = record { to = to; a = a; b = b; c = variable_column v; d = variable_column w; e = negsuc 0; f = negsuc 0 }
invocation to a b (Three v w x) = record { to = to; a = a; b = b; c = variable_column v; d = variable_column w; e = variable_column x; f = negsuc 0 }
invocation to a b (Four v w x y) =
    record { to = to; a = a; b = b; c = variable_column v; d = variable_column w; e = variable_column x; f = variable_column y }

abbrev pub columns_of : Operation → Columns
columns_of (Constant to number) = three (variable_column to) number (pos 0)
columns_of (Itself to) = three (variable_column to) (pos 0) (pos 0)
columns_of (Copy to from) = three (variable_column to) (variable_column from) (pos 0)
columns_of (Add to left right) = three (variable_column to) (variable_column left) (variable_column right)
columns_of (Subtract to left right) = three (variable_column to) (variable_column left) (variable_column right)
columns_of (Less to left right) = three (variable_column to) (variable_column left) (variable_column right)
columns_of (Branch guard first second) =
    record { to = pos 0; a = variable_column guard; b = pos first; c = pos second; d = pos 0; e = pos 0; f = pos 0 }
columns_of (Invoke to receiver method arguments) = invocation (optional_column to) (variable_column receiver) (pos method) arguments
columns_of (Get to future) = three (variable_column to) (variable_column future) (pos 0)
columns_of (Create to class level) = three (variable_column to) (pos class) (pos level)
columns_of (Return value) = three (pos 0) (variable_column value) (pos 0)

abbrev pub letter_of : Operation → Letter
letter_of (Constant to number) = N
letter_of (Itself to) = T
letter_of (Copy to from) = C
letter_of (Add to left right) = A
letter_of (Subtract to left right) = D
letter_of (Less to left right) = L
letter_of (Branch guard first second) = I
letter_of (Invoke to receiver method arguments) = M
letter_of (Get to future) = G
letter_of (Create to class level) = O
letter_of (Return value) = R

abbrev pub row : ℕ → ℕ → Kind → Columns → Row
row class method kind x =
    record { class = pos class; method = pos method; kind = kind; to = x.to; a = x.a; b = x.b; c = x.c; d = x.d; e = x.e; f = x.f }

-- field number k of a class
abbrev pub field_row : ℕ → ℕ → ℕ → Row
field_row class k label = row class 0 Field (three (pos k) (pos label) (pos 0))

abbrev pub field_rows : ℕ → ℕ → List ℕ → List Row
field_rows class k [] = []
field_rows class k (label ∷ labels) = field_row class k label ∷ field_rows class (suc k) labels

abbrev pub statement_row : ℕ → ℕ → Operation → Row
statement_row class method s = row class method (Statement (letter_of s)) (columns_of s)

-- the head of method number k, and its statements
abbrev pub head_row : ℕ → ℕ → ℕ → Row
head_row class k parameters = row class k Parameters (three (pos 0) (pos parameters) (pos 0))

abbrev pub method_rows : ℕ → ℕ → Method → List Row
method_rows class k m = head_row class k m.parameters ∷ map (statement_row class k) m.statements

abbrev pub methods_rows : ℕ → ℕ → List Method → List Row
methods_rows class k [] = []
methods_rows class k (m ∷ ms) = method_rows class k m ++ methods_rows class (suc k) ms

-- class number k: its fields, and then its methods
abbrev pub class_rows : ℕ → Class → List Row
class_rows k c = field_rows k 0 c.fields ++ methods_rows k 0 c.methods

abbrev pub classes_rows : ℕ → List Class → List Row
classes_rows k [] = []
classes_rows k (c ∷ cs) = class_rows k c ++ classes_rows (suc k) cs

-- the rows of a program: class by class, each with its fields and then its methods, all in the order of their numbers
abbrev pub rows_of : Program → List Row
rows_of program = classes_rows 0 program

-- WELL-FORMED PROGRAMS, with labels below a count of levels

-- every element passes a test
abbrev pub every : {X : Type 0} → (X → Bool) → List X → Bool
every test [] = true
every test (x ∷ xs) = test x && every test xs

-- the variable exists in a class of so many fields
abbrev pub exists : ℕ → Variable → Bool
exists fields (Local k) = nat_lt k 8
exists fields (OfObject k) = nat_lt k 8 && nat_lt k fields

abbrev pub exists_if_any : ℕ → Option Variable → Bool
exists_if_any fields (Some v) = exists fields v
exists_if_any fields None = true

abbrev pub arguments_exist : ℕ → Arguments → Bool
arguments_exist fields Empty = true
arguments_exist fields (One v) = exists fields v
arguments_exist fields (Two v w) = exists fields v && exists fields w
arguments_exist fields (Three v w x) = exists fields v && (exists fields w && exists fields x)
arguments_exist fields (Four v w x y) = exists fields v && (exists fields w && (exists fields x && exists fields y))

-- a number of 32 bits, signed
abbrev pub fits_32 : ℤ → Bool
fits_32 (pos n) = nat_lt n (2 ^ 31)
fits_32 (negsuc n) = nat_lt n (2 ^ 31)

-- each part of a statement is in its range
abbrev pub in_range : ℕ → ℕ → Operation → Bool
in_range levels fields (Constant to number) = exists fields to && fits_32 number
in_range levels fields (Itself to) = exists fields to
in_range levels fields (Copy to from) = exists fields to && exists fields from
in_range levels fields (Add to left right) = exists fields to && (exists fields left && exists fields right)
in_range levels fields (Subtract to left right) = exists fields to && (exists fields left && exists fields right)
in_range levels fields (Less to left right) = exists fields to && (exists fields left && exists fields right)
in_range levels fields (Branch guard first second) = exists fields guard && (nat_lt first 33 && nat_lt second 33)
in_range levels fields (Invoke to receiver method arguments) =
    exists_if_any fields to && (exists fields receiver && (nat_lt method 4 && arguments_exist fields arguments))
in_range levels fields (Get to future) = exists fields to && exists fields future
in_range levels fields (Create to class level) = exists fields to && (nat_lt class 8 && nat_lt level levels)
in_range levels fields (Return value) = exists fields value

-- at most four parameters and 32 statements, each in its range, that are a body
abbrev pub method_formed : ℕ → ℕ → Method → Bool
method_formed levels fields m =
    nat_lt m.parameters 5 && (nat_le (length m.statements) 32 && (every (in_range levels fields) m.statements && stands m.statements))

-- at most eight fields and four methods, and one of them at least
abbrev pub class_formed : ℕ → Class → Bool
class_formed levels c =
    nat_le (length c.fields) 8 && (nat_le (length c.methods) 4 && (nat_lt 0 (length c.fields + length c.methods)
    && (every (λ label. nat_lt label levels) c.fields && every (method_formed levels (length c.fields)) c.methods)))

-- at most eight classes
abbrev pub well_formed : ℕ → Program → Bool
well_formed levels program = nat_le (length program) 8 && every (class_formed levels) program
