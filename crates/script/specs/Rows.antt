-- The second layer: whether a row may stand where it stands, and what its columns mean.
use Rattle.std.specs.Prelude.{ℕ, ◌+◌, ◌-◌, Bool, false, cond, ◌&&◌, ℤ, pos, negsuc, Some, None, Ok, Err, Option, Result, ◌==◌, nat_le, nat_lt}
use Rattle.script.specs.declared.class.Variable.{Variable}
use Rattle.script.specs.declared.class.Variable.TheVariants.{Local, Field as OfObject}
use Rattle.script.specs.declared.class.Arguments.{Arguments}
use Rattle.script.specs.declared.class.Arguments.TheVariants.{Empty, One, Two, Three, Four}
use Rattle.script.specs.declared.class.Statement.{Statement as Operation}
use Rattle.script.specs.declared.class.Statement.TheVariants.{Constant, Itself, Copy, Add, Subtract, Less, Branch, Invoke, Get, Create, Return}
use Rattle.script.specs.declared.fault.RowFault.{RowFault}
use Rattle.script.specs.declared.fault.RowFault.TheVariants.{Sequence, Range}
use Rattle.script.specs.declared.reader.Letter.{Letter}
use Rattle.script.specs.declared.reader.Letter.TheVariants.{N, T, C, A, D, L, I, M, G, O, R}
use Rattle.script.specs.declared.reader.Kind.{Kind}
use Rattle.script.specs.declared.reader.Kind.TheVariants.{Field, Parameters, Statement}
use Rattle.script.specs.declared.reader.Row.{Row}
use Rattle.script.specs.declared.row.Place.{Place}
use Rattle.script.specs.declared.row.Item.{Item}
use Rattle.script.specs.declared.row.Item.TheVariants.{Label, Head, Action}
use Rattle.script.specs.declared.row.Entry.{Entry}

-- a column holds the number k
abbrev pub is : ℤ → ℕ → Bool
is (pos n) k = n == k
is (negsuc n) k = false

-- SEQUENCE

-- the class at hand has a row
abbrev pub begun : Place → Bool
begun p = nat_lt 0 (p.fields + p.methods)

-- the row begins the class after the one at hand, of which there are at most eight
abbrev pub begins_class : Place → Row → Bool
begins_class p r = begun p && (nat_le p.class 6 && is r.class (p.class + 1))

-- a field follows the fields before it, and no method; a new class begins at field 0
abbrev pub field_follows : Place → Row → Bool
field_follows p r =
    is r.method 0 && cond (begins_class p r) (is r.to 0) (is r.class p.class && (p.methods == 0 && (nat_le p.fields 7 && is r.to p.fields)))

-- a method follows the methods before it; a new class begins at method 0
abbrev pub method_follows : Place → Row → Bool
method_follows p r = cond (begins_class p r) (is r.method 0) (is r.class p.class && (nat_le p.methods 3 && is r.method p.methods))

-- a statement belongs to the last method, which has at most 32
abbrev pub statement_follows : Place → Row → Bool
statement_follows p r = is r.class p.class && (nat_lt 0 p.methods && (is r.method (p.methods - 1) && nat_le p.statements 31))

abbrev pub follows : Kind → Place → Row → Bool
follows Field p r = field_follows p r
follows Parameters p r = method_follows p r
follows (Statement letter) p r = statement_follows p r

-- RANGES

-- a value, and then what follows from it
abbrev pub and : {X Y : Type 0} → Option X → (X → Option Y) → Option Y
and (Some x) k = k x
and None k = None

-- nothing unless a test passes
abbrev pub when : {X : Type 0} → Bool → Option X → Option X
when test x = cond test x None

-- a number from 0 on, below a limit
abbrev pub below : ℤ → ℕ → Option ℕ
below (pos n) limit = cond (nat_lt n limit) (Some n) None
below (negsuc n) limit = None

-- a variable of a class of so many fields
abbrev pub variable : ℕ → ℤ → Option Variable
variable fields (pos n) = cond (nat_lt n 8) (Some (Local n)) (when (nat_lt (n - 8) 8 && nat_lt (n - 8) fields) (Some (OfObject (n - 8))))
variable fields (negsuc n) = None

-- a variable, or −1 for none
abbrev pub optional : ℕ → ℤ → Option (Option Variable)
optional fields (pos n) = and (variable fields (pos n)) (λ v. Some (Some v))
optional fields (negsuc n) = cond (n == 0) (Some None) None

-- four columns of arguments, with no gap
abbrev pub arguments : Option Variable → Option Variable → Option Variable → Option Variable → Option Arguments
arguments None None None None = Some Empty
arguments None None None (Some y) = None
arguments None None (Some x) y = None
arguments None (Some w) x y = None
arguments (Some v) None None None = Some (One v)
arguments (Some v) None None (Some y) = None
arguments (Some v) None (Some x) y = None
arguments (Some v) (Some w) None None = Some (Two v w)
arguments (Some v) (Some w) None (Some y) = None
arguments (Some v) (Some w) (Some x) None = Some (Three v w x)
arguments (Some v) (Some w) (Some x) (Some y) = Some (Four v w x y)

-- the columns from one on are not used
abbrev pub unused_d : Row → Bool
unused_d r = is r.d 0 && (is r.e 0 && is r.f 0)

abbrev pub unused_c : Row → Bool
unused_c r = is r.c 0 && unused_d r

abbrev pub unused_b : Row → Bool
unused_b r = is r.b 0 && unused_c r

-- `to` and `a` are variables, and the rest is not used
abbrev pub two_variables : ℕ → Row → Option (Variable × Variable)
two_variables fields r = when (unused_b r) (and (variable fields r.to) (λ to. and (variable fields r.a) (λ a. Some (to, a))))

-- `to`, `a` and `b` are variables, and the rest is not used
abbrev pub three_variables : ℕ → Row → Option (Variable × Variable × Variable)
three_variables fields r =
    when (unused_c r) (and (variable fields r.to) (λ to. and (variable fields r.a) (λ a. and (variable fields r.b) (λ b. Some (to, a, b)))))

-- N: any number in `a`
abbrev pub constant : ℕ → Row → Option Operation
constant fields r = when (unused_b r) (and (variable fields r.to) (λ to. Some (Constant to r.a)))

-- T: only `to` is used
abbrev pub itself : ℕ → Row → Option Operation
itself fields r = when (is r.a 0 && unused_b r) (and (variable fields r.to) (λ to. Some (Itself to)))

-- I: a guard, and two branches of 0 to 32 rows; `to` is not used
abbrev pub branch : ℕ → Row → Option Operation
branch fields r =
    when (is r.to 0 && unused_d r) (and (variable fields r.a) (λ guard. and (below r.b 33) (λ first. and (below r.c 33) (λ second.
    Some (Branch guard first second)))))

-- M: the variable for the reply or −1, the receiver, a method 0 to 3, and up to four arguments
abbrev pub passed : ℕ → Row → Option Arguments
passed fields r =
    and (optional fields r.c) (λ v. and (optional fields r.d) (λ w. and (optional fields r.e) (λ x. and (optional fields r.f) (λ y.
    arguments v w x y))))

abbrev pub invocation : ℕ → Row → Option Operation
invocation fields r =
    and (optional fields r.to) (λ to. and (variable fields r.a) (λ receiver. and (below r.b 4) (λ method. and (passed fields r) (λ args.
    Some (Invoke to receiver method args)))))

-- O: a class 0 to 7 and a level
abbrev pub creation : ℕ → ℕ → Row → Option Operation
creation levels fields r =
    when (unused_c r) (and (variable fields r.to) (λ to. and (below r.a 8) (λ class. and (below r.b levels) (λ level.
    Some (Create to class level)))))

-- R: a variable in `a`; `to` is not used
abbrev pub reply : ℕ → Row → Option Operation
reply fields r = when (is r.to 0 && unused_b r) (and (variable fields r.a) (λ value. Some (Return value)))

-- the statement that the columns of a row tell, in a class of so many fields, under a count of levels
abbrev pub statement : ℕ → ℕ → Letter → Row → Option Operation
statement levels fields N r = constant fields r
statement levels fields T r = itself fields r
statement levels fields C r = and (two_variables fields r) (λ p. Some (Copy p.0 p.1))
statement levels fields A r = and (three_variables fields r) (λ p. Some (Add p.0 p.1 p.2))
statement levels fields D r = and (three_variables fields r) (λ p. Some (Subtract p.0 p.1 p.2))
statement levels fields L r = and (three_variables fields r) (λ p. Some (Less p.0 p.1 p.2))
statement levels fields I r = branch fields r
statement levels fields M r = invocation fields r
statement levels fields G r = and (two_variables fields r) (λ p. Some (Get p.0 p.1))
statement levels fields O r = creation levels fields r
statement levels fields R r = reply fields r

-- F: the declared label, which is a level; P: 0 to 4 parameters
abbrev pub label : ℕ → Row → Option Item
label levels r = when (unused_b r) (and (below r.a levels) (λ l. Some (Label l)))

abbrev pub head : Row → Option Item
head r = when (is r.to 0 && unused_b r) (and (below r.a 5) (λ parameters. Some (Head parameters)))

-- what a row says, where its columns are in their ranges
abbrev pub item : ℕ → ℕ → Kind → Row → Option Item
item levels fields Field r = label levels r
item levels fields Parameters r = head r
item levels fields (Statement letter) r = and (statement levels fields letter r) (λ s. Some (Action s))

-- BOTH

abbrev pub ranged : ℕ → Bool → Option Item → Result Entry RowFault
ranged line begins (Some i) = Ok (record { begins_class = begins; item = i })
ranged line begins None = Err (Range line)

-- what a row says at its place: out of sequence counts before out of range
abbrev pub entry : ℕ → ℕ → Place → Row → Result Entry RowFault
entry levels line p r = cond (follows r.kind p r) (ranged line (begins_class p r) (item levels p.fields r.kind r)) (Err (Sequence line))
