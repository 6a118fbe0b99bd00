-- The lines of some bytes.
use Rattle.std.specs.Prelude.{ℕ, zero, suc, ◌+◌, List, take, drop, ◌==◌}
use Rattle.std.specs.List.{position_or_len}

-- how many bytes stand before the first line feed (10); all of them where there is none
abbrev pub to_feed : List ℕ → ℕ
to_feed bs = position_or_len (λ b. b == 10) bs

-- the bytes before the first line feed
abbrev pub first_line : List ℕ → List ℕ
first_line bs = take (to_feed bs) bs

-- the bytes after it
abbrev pub after_line : List ℕ → List ℕ
after_line bs = drop (to_feed bs + 1) bs

-- the line with a number, from 0
abbrev pub line_at : ℕ → List ℕ → List ℕ
line_at zero bs = first_line bs
line_at (suc n) bs = line_at n (after_line bs)
