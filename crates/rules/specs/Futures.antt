-- A future and what happens to it: a value comes, a party collects, or a script gets.
use Rattle.std.specs.Prelude.{Some, None, Option}
use Rattle.rules.specs.declared.values.Labelled.{Labelled}
use Rattle.rules.specs.declared.tables.Future.{Future}
use Rattle.rules.specs.declared.tables.Future.TheVariants.{Open, Holding}
use Rattle.rules.specs.declared.tables.Event.{Event}
use Rattle.rules.specs.declared.tables.Event.TheVariants.{Resolve, Collect, Get}

-- only an open future accepts a value; reading changes nothing
abbrev pub after_event : Future → Event → Future
after_event Open (Resolve x) = Holding x
after_event Open Collect = Open
after_event Open Get = Open
after_event (Holding y) event = Holding y

-- the value that it holds, if it is not open
abbrev pub held_value : Future → Option Labelled
held_value Open = None
held_value (Holding y) = Some y
