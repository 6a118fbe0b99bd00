-- Numbers as they were sent.
use Rattle.std.specs.Prelude.{ℕ, cond, ℤ, pos, negsuc, Some, None, Option, Ok, Err, Result, nat_lt}
use Rattle.rules.specs.declared.calls.Refusal.{Refusal}
use Rattle.rules.specs.declared.calls.Refusal.TheVariants.{NotALevel, NotMade}
use Rattle.rules.specs.declared.values.Name.{Name}
use Rattle.rules.specs.Values.{name}

-- a number that fits a byte
abbrev pub byte_of : ℤ → Option ℕ
byte_of (pos n) = cond (nat_lt n 256) (Some n) None
byte_of (negsuc n) = None

-- the name of a home and a number, each if it was found; refused where the home is no level, and then where the number is no byte
abbrev pub named : Option ℕ → Option ℕ → Result Name Refusal
named None number = Err NotALevel
named (Some home) None = Err NotMade
named (Some home) (Some number) = Ok (name home number)
