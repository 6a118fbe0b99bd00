-- What G finds, as the rules tell it, and what it leaves.
use Rattle.std.specs.Prelude.{Some, None, Option}
use Rattle.order.specs.Levels.{Levels}
use Rattle.rules.specs.Statements.{Running, Fetched, gives, waits}
use Rattle.wrapper.specs.declared.noting.Made.{Made as StoredMade}
use Rattle.wrapper.specs.Marks.{made_of}
use Rattle.statements.specs.declared.frame.Step.{Step}
use Rattle.statements.specs.Turning.{with_result_of}

-- a value or a mark; or nothing, so that the turn is held
abbrev pub fetched_of : Option StoredMade → Fetched
fetched_of (Some m) = gives (made_of m)
fetched_of None = waits

-- a G's variable, if it has one, becomes what was found; where it waits, nothing changes
abbrev pub taken_by : Levels → Step → Fetched → Running → Running
taken_by o step (gives m) r = with_result_of o step m r
taken_by o step waits r = r
