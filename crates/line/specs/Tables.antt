-- A flat table: the slots of level 0, then those of level 1, and so on, `room` for each level. Assumes nothing.
use Rattle.std.specs.Prelude.{◌≡◌, ℕ, zero, suc, ◌+◌, ◌*◌, ◌/◌, ◌≤◌, Bool, true, ◌&&◌, List, length, Option, ◌≢◌}
use Rattle.std.specs.List.{between}
use Rattle.line.specs.Slots.{compact}

-- the table has all the slots of the level
abbrev pub HasLevel : {X : Type 0} → ℕ → ℕ → List X → Type 0
HasLevel room level table = level * room + room ≤ length table

-- the slots of the level
abbrev pub part : {X : Type 0} → ℕ → ℕ → List X → List X
part room level table = between (level * room) (level * room + room) table

-- the part of every level but the one is as it was
abbrev pub OthersStay : {X : Type 0} → ℕ → ℕ → List X → List X → Type 0
OthersStay room level before after = (other : ℕ) → (other ≢ level) → part room other after ≡ part room other before

-- whether the part of each level below n is compact
abbrev pub packed_below : {X : Type 0} → ℕ → ℕ → List (Option X) → Bool
packed_below room zero table = true
packed_below room (suc n) table = compact (part room n table) && packed_below room n table

-- whether the part of each level of the table is compact
unfoldable pub packed : {X : Type 0} → ℕ → List (Option X) → Bool
packed room table = packed_below room (length table / room) table
