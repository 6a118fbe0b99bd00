-- The lines of a table, as the rules see them.
use Rattle.std.specs.Prelude.{ℕ, List, map}
use Rattle.rules.specs.Lists.{Placed}
use Rattle.line.specs.Slots.{elements}
use Rattle.line.specs.Tables.{part}
use Rattle.store.specs.declared.table.Table.{Table}

-- what stands at a level of a table, where `told` is what the rules have for an element
unfoldable pub lines_of : {X Y : Type 0} {room slots : ℕ} → (X → Y) → Table X room slots → ℕ → List Y
lines_of {room = room} told table level = map told (elements (part room level table.slots))

-- what a look finds
abbrev pub found_of : {X Y : Type 0} → (X → Y) → ℕ × X → Placed Y
found_of told found = record { place = found.0; element = told found.1 }
