-- What was read of a call row.
use Rattle.std.specs.Prelude.{◌≡◌, Ok, Err, Result}
use Rattle.script.specs.declared.reader.Reader.{Reader}
use Rattle.script.specs.Bytes.{Got, got, bad}
use Rattle.script.specs.Readers.{left}
use Rattle.console.specs.declared.reader.RowError.{RowError}
use Rattle.console.specs.declared.reader.RowError.TheVariants.{Unreadable, Memory}

-- a value that is what it holds
abbrev pub itself : {X : Type 0} → X → X
itself x = x

-- what g says of the bytes that were left is what was read, as f tells what memory holds of it; want of memory says nothing
abbrev pub Gives : {X Y : Type 0} → (X → Y) → Result X RowError → Got Y → Reader → Type 0
Gives f (Ok x) g new = g ≡ got (f x) (left new)
Gives f (Err Unreadable) g new = g ≡ bad
Gives f (Err Memory) g new = Unit {0}
