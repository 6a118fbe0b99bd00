-- The parts of an input: a text up to the first line of no bytes, and the call rows after that line.
use Rattle.std.specs.Prelude.{ℕ, Bool, true, cond, ◌&&◌, List, [], ◌∷◌, ◌==◌}

-- how many bytes an input may have
abbrev pub most_bytes : ℕ
most_bytes = 60000

-- the text in some bytes; `fresh` says that they begin a line, and a line feed is 10
abbrev pub text_on : Bool → List ℕ → List ℕ
text_on fresh [] = []
text_on fresh (b ∷ bs) = cond (fresh && b == 10) [] (b ∷ text_on (b == 10) bs)

-- what follows it and the empty line
abbrev pub rows_on : Bool → List ℕ → List ℕ
rows_on fresh [] = []
rows_on fresh (b ∷ bs) = cond (fresh && b == 10) bs (rows_on (b == 10) bs)

abbrev pub text_part : List ℕ → List ℕ
text_part input = text_on true input

abbrev pub rows_part : List ℕ → List ℕ
rows_part input = rows_on true input
