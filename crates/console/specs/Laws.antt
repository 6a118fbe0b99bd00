-- What reading promises of call rows, in words that do not mention its steps.
use Rattle.std.specs.Prelude.{◌≡◌, ℕ, Bool, true, ◌↔◌, List, [], ◌∷◌, ◌++◌, length, ℤ, pos, Some, codes}
use Rattle.std.specs.Fmt.{signed_decimal}
use Rattle.script.specs.Layout.{every, fits_32}
use Rattle.rules.specs.declared.calls.Argument.{Argument}
use Rattle.rules.specs.Calling.{Request, make, post, turn, collect, note, bearer}
use Rattle.console.specs.Requests.{row_request}

-- numbers in decimal, each after a space (32)
abbrev pub columns : List ℤ → List ℕ
columns [] = []
columns (z ∷ zs) = 32 ∷ (signed_decimal z ++ columns zs)

-- each argument's number and label, in order
abbrev pub pairs : List Argument → List ℤ
pairs [] = []
pairs (x ∷ xs) = x.number ∷ x.label ∷ pairs xs

-- the letters of a call's word
abbrev pub letters_of : Request → List ℕ
letters_of (make a class level) = codes "make"
letters_of (post a home number method arguments) = codes "post"
letters_of (turn a home number) = codes "turn"
letters_of (collect a home number) = codes "collect"
letters_of (note a class) = codes "note"

-- the values of a call in their order, a post's count before its arguments
abbrev pub values_of : Request → List ℤ
values_of (make a class level) = class ∷ level ∷ []
values_of (post a home number method arguments) = home ∷ number ∷ method ∷ pos (length arguments) ∷ pairs arguments
values_of (turn a home number) = home ∷ number ∷ []
values_of (collect a home number) = home ∷ number ∷ []
values_of (note a class) = class ∷ []

-- the row of a request, without its line feed
abbrev pub request_text : Request → List ℕ
request_text q = signed_decimal (bearer q) ++ (32 ∷ (letters_of q ++ columns (values_of q)))

-- all its numbers are of 32 bits, signed
abbrev pub formed : Request → Bool
formed q = every fits_32 (bearer q ∷ values_of q)

-- a row says a request exactly when it is that request's row, and the request's numbers are of 32 bits
abbrev pub RowsExactly : Type 0
RowsExactly = (row : List ℕ) (q : Request) → (row_request row ≡ Some q) ↔ ((row ≡ request_text q) × (formed q ≡ true))
