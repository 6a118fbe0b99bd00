-- The orders that the crate supplies.
use Rattle.std.specs.Prelude.{max, bit_and, bit_or, nat_eq, nat_le}
use Rattle.order.specs.Levels.{Levels, levels_of}

-- Four levels, one above the other: a flows to b where a ≤ b, and the join is the larger.
abbrev pub ladder : Levels
ladder = levels_of 4 nat_le max

-- The sets of three makers, A, B and C, as bits 0, 1 and 2: a flows to b where b has every bit of a, and the join has the bits of both.
abbrev pub makers : Levels
makers = levels_of 8 (λ a b. nat_eq (bit_and a b) a) bit_or
