-- What stands at the front of some bytes: a number, a letter, a row.
use Rattle.std.specs.Prelude.{◌≡◌, ℕ, ◌+◌, ◌-◌, ◌*◌, ◌^◌, false, cond, List, [], ◌∷◌, ℤ, pos, neg_ℤ, codes, Ok, Err, Result, ◌==◌, nat_le}
use Rattle.std.specs.Char.{is_ascii_digit}
use Rattle.script.specs.declared.reader.Letter.TheVariants.{N, T, C, A, D, L, I, M, G, O, R}
use Rattle.script.specs.declared.reader.Kind.{Kind}
use Rattle.script.specs.declared.reader.Kind.TheVariants.{Field, Parameters, Statement}
use Rattle.script.specs.declared.reader.Row.{Row}

-- a value, and the bytes that are left after it; or no such value stands there
pub data Got (X : Type 0) : Type 0 where
  got : X → List ℕ → Got X
  bad : Got X

-- one piece, and then what follows it
abbrev pub then : {X Y : Type 0} → Got X → (X → List ℕ → Got Y) → Got Y
then (got x bs) k = k x bs
then bad k = bad

-- bs does not begin with a digit
abbrev pub NoDigit : List ℕ → Type 0
NoDigit [] = Unit {0}
NoDigit (b ∷ bs) = is_ascii_digit b ≡ false

-- the digits that bs begins with, after those of n: a zero has none after it, and the whole is at most `most`
abbrev pub digits_on : ℕ → ℕ → List ℕ → Got ℕ
digits_on most n [] = cond (nat_le n most) (got n []) bad
digits_on most n (b ∷ bs) = cond (is_ascii_digit b) (cond (n == 0) bad (digits_on most (n * 10 + (b - 48)) bs)) (cond (nat_le n most) (got n (b ∷ bs)) bad)

-- a number of at most `most` without a sign
abbrev pub magnitude_at : ℕ → List ℕ → Got ℕ
magnitude_at most [] = bad
magnitude_at most (b ∷ bs) = cond (is_ascii_digit b) (digits_on most (b - 48) bs) bad

abbrev pub positive : Got ℕ → Got ℤ
positive (got n bs) = got (pos n) bs
positive bad = bad

-- there is no -0
abbrev pub negative : Got ℕ → Got ℤ
negative (got n bs) = cond (n == 0) bad (got (neg_ℤ (pos n)) bs)
negative bad = bad

-- a number: after a minus (45) at most 2147483648, else at most 2147483647
abbrev pub number_at : List ℕ → Got ℤ
number_at [] = bad
number_at (b ∷ bs) = cond (b == 45) (negative (magnitude_at (2 ^ 31) bs)) (positive (magnitude_at (2 ^ 31 - 1) (b ∷ bs)))

-- the byte c
abbrev pub byte_at : ℕ → List ℕ → Got (Unit {0})
byte_at c [] = bad
byte_at c (b ∷ bs) = cond (b == c) (got tt bs) bad

-- the bytes cs, one after the other
abbrev pub bytes_at : List ℕ → List ℕ → Got (Unit {0})
bytes_at [] bs = got tt bs
bytes_at (c ∷ cs) [] = bad
bytes_at (c ∷ cs) (b ∷ bs) = cond (b == c) (bytes_at cs bs) bad

-- the kind that a letter tells
abbrev pub kind_at : List ℕ → Got Kind
kind_at [] = bad
kind_at (b ∷ bs) =
    cond (b == 70) (got Field bs) (cond (b == 80) (got Parameters bs)
    (cond (b == 78) (got (Statement N) bs) (cond (b == 84) (got (Statement T) bs)
    (cond (b == 67) (got (Statement C) bs) (cond (b == 65) (got (Statement A) bs)
    (cond (b == 68) (got (Statement D) bs) (cond (b == 76) (got (Statement L) bs)
    (cond (b == 73) (got (Statement I) bs) (cond (b == 77) (got (Statement M) bs)
    (cond (b == 71) (got (Statement G) bs) (cond (b == 79) (got (Statement O) bs)
    (cond (b == 82) (got (Statement R) bs) bad))))))))))))

-- r is the kind that the letter b tells, whatever follows it
abbrev pub Tells : {E : Type 0} → ℕ → Result Kind E → Type 0
Tells b (Ok k) = (bs : List ℕ) → kind_at (b ∷ bs) ≡ got k bs
Tells b (Err e) = (bs : List ℕ) → kind_at (b ∷ bs) ≡ bad

-- a space (32) and a number
abbrev pub column_at : List ℕ → Got ℤ
column_at bs = then (byte_at 32 bs) (λ _ rest. number_at rest)

-- the ten columns of a row and the line feed (10) after them
abbrev pub row_at : List ℕ → Got Row
row_at bs =
    then (number_at bs) (λ class bs₁. then (column_at bs₁) (λ method bs₂.
    then (byte_at 32 bs₂) (λ _ bs₃. then (kind_at bs₃) (λ kind bs₄.
    then (column_at bs₄) (λ to bs₅. then (column_at bs₅) (λ a bs₆. then (column_at bs₆) (λ b bs₇. then (column_at bs₇) (λ c bs₈.
    then (column_at bs₈) (λ d bs₉. then (column_at bs₉) (λ e bs₁₀. then (column_at bs₁₀) (λ f bs₁₁. then (byte_at 10 bs₁₁) (λ _ rest.
    got (record { class = class; method = method; kind = kind; to = to; a = a; b = b; c = c; d = d; e = e; f = f }) rest))))))))))))

-- the line that names the columns
abbrev pub names : List ℕ
names = codes "class method op to a b c d e f\n"
