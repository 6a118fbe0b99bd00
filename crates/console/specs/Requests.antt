-- The call rows in some bytes, and the request that each says.
use Rattle.std.specs.Prelude.{ℕ, zero, suc, ◌-◌, cond, List, [], ◌∷◌, ◌++◌, length, take, drop, ℤ, Some, None, codes, Option, ◌==◌}
use Rattle.std.specs.Str.{bytes_eq}
use Rattle.script.specs.Bytes.{Got, got, bad, then, number_at, byte_at, bytes_at, column_at}
use Rattle.rules.specs.declared.calls.Argument.{Argument}
use Rattle.rules.specs.Calling.{Request, make, post, turn, collect, note, natural}
use Rattle.console.specs.declared.reader.Word.{Word}
use Rattle.console.specs.declared.reader.Word.TheVariants.{Make, Post, Turn, Collect, Note}

-- the word w where its letters stand, or else another
abbrev pub or_else : Got (Unit {0}) → Word → Got Word → Got Word
or_else (got _ rest) w other = got w rest
or_else bad w other = other

-- the word of a call
abbrev pub word_at : List ℕ → Got Word
word_at bs =
    or_else (bytes_at (codes "make") bs) Make (
    or_else (bytes_at (codes "post") bs) Post (
    or_else (bytes_at (codes "turn") bs) Turn (
    or_else (bytes_at (codes "collect") bs) Collect (
    or_else (bytes_at (codes "note") bs) Note bad))))

-- a number and its label
abbrev pub argument_at : List ℕ → Got Argument
argument_at bs = then (column_at bs) λ number bs₁. then (column_at bs₁) λ label rest. got (record { number = number; label = label }) rest

-- so many arguments, after those read before them
abbrev pub arguments_on : List Argument → ℕ → List ℕ → Got (List Argument)
arguments_on before zero bs = got before bs
arguments_on before (suc n) bs = then (argument_at bs) λ x rest. arguments_on (before ++ x ∷ []) n rest

-- as many arguments as a count says, if it is one
abbrev pub arguments_for : Option ℕ → List ℕ → Got (List Argument)
arguments_for (Some n) bs = arguments_on [] n bs
arguments_for None bs = bad

-- the values of a call in their order, after the level that the party bears and the word
abbrev pub values_at : Word → ℤ → List ℕ → Got Request
values_at Make a bs = then (column_at bs) λ class bs₁. then (column_at bs₁) λ level rest. got (make a class level) rest
values_at Post a bs =
    then (column_at bs) λ home bs₁. then (column_at bs₁) λ number bs₂. then (column_at bs₂) λ method bs₃. then (column_at bs₃) λ count bs₄.
    then (arguments_for (natural count) bs₄) λ arguments rest. got (post a home number method arguments) rest
values_at Turn a bs = then (column_at bs) λ home bs₁. then (column_at bs₁) λ number rest. got (turn a home number) rest
values_at Collect a bs = then (column_at bs) λ home bs₁. then (column_at bs₁) λ number rest. got (collect a home number) rest
values_at Note a bs = then (column_at bs) λ class rest. got (note a class) rest

-- the party's level, a space (32), the word and the values
abbrev pub request_at : List ℕ → Got Request
request_at bs = then (number_at bs) λ a bs₁. then (byte_at 32 bs₁) λ _ bs₂. then (word_at bs₂) λ word bs₃. values_at word a bs₃

-- a value after which nothing is left
abbrev pub whole : {X : Type 0} → Got X → Option X
whole (got x []) = Some x
whole (got x (b ∷ bs)) = None
whole bad = None

-- the request that a row says, its line feed left out; none where it is unreadable
abbrev pub row_request : List ℕ → Option Request
row_request bs = whole (request_at bs)

-- the request that a line says; none where it does not end with a line feed (10)
abbrev pub line_request : List ℕ → Option Request
line_request bs = cond (bytes_eq (drop (length bs - 1) bs) (10 ∷ [])) (row_request (take (length bs - 1) bs)) None

-- what is left at the end without a line feed is one unreadable row, if it is anything
abbrev pub unended : List ℕ → List (Option Request)
unended [] = []
unended (b ∷ bs) = None ∷ []

-- the rows in some bytes, of which the first goes on after `front`; a line feed (10) ends each
abbrev pub rows_after : List ℕ → List ℕ → List (Option Request)
rows_after front [] = unended front
rows_after front (b ∷ bs) = cond (b == 10) (row_request front ∷ rows_after [] bs) (rows_after (front ++ b ∷ []) bs)

-- the call rows in some bytes, one after the other
abbrev pub rows : List ℕ → List (Option Request)
rows bs = rows_after [] bs
