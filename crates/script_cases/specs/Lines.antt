-- Where a line ends, and where a case's text ends.
use Rattle.std.specs.Prelude.{ℕ, ◌+◌, ◌-◌, Bool, true, cond, ◌&&◌, List, [], ◌∷◌, take, drop, is_some, Some, None, codes, Option, ◌==◌}
use Rattle.std.specs.List.{position_or_len}
use Rattle.std.specs.Str.{bytes_eq}
use Rattle.script_cases.specs.declared.table.Ending.{Ending}
use Rattle.script_cases.specs.declared.table.Ending.TheVariants.{Whole, Short}

-- how many bytes stand before the first line feed; all of them where there is none
abbrev pub to_feed : List ℕ → ℕ
to_feed bs = position_or_len (λ b. b == 10) bs

-- the first line, without its line feed
abbrev pub line_of : List ℕ → List ℕ
line_of bs = take (to_feed bs) bs

-- what stands after the first line and its line feed
abbrev pub after_line : List ℕ → List ℕ
after_line bs = drop (to_feed bs + 1) bs

-- the ending that a line says, if it says one
abbrev pub ending_of : List ℕ → Option Ending
ending_of line = cond (bytes_eq line (codes "end")) (Some Whole) (cond (bytes_eq line (codes "cut")) (Some Short) None)

-- how many bytes stand before the first line that says an ending, where a line starts at the first byte, or where none does
abbrev pub to_ending : Bool → List ℕ → ℕ
to_ending starts [] = 0
to_ending starts (b ∷ bs) = cond (starts && is_some (ending_of (line_of (b ∷ bs)))) 0 (1 + to_ending (b == 10) bs)

-- how many bytes a text has, of the n before its ending
abbrev pub text_length : Ending → ℕ → ℕ
text_length Whole n = n
text_length Short n = n - 1

-- the text before an ending that stands after n bytes, and what stands after that ending
abbrev pub parted : ℕ → List ℕ → Option Ending → Option (List ℕ × List ℕ)
parted n lines None = None
parted n lines (Some e) = Some (take (text_length e n) lines, after_line (drop n lines))

-- the same at the ending that the line after n bytes says
abbrev pub parted_at : ℕ → List ℕ → Option (List ℕ × List ℕ)
parted_at n lines = parted n lines (ending_of (line_of (drop n lines)))

-- the text that lines begin with, and what stands after its ending, if there is one
abbrev pub text_parted : List ℕ → Option (List ℕ × List ℕ)
text_parted lines = parted_at (to_ending true lines) lines
