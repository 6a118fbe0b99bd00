-- What M leaves of what its call came to.
use Rattle.std.specs.Prelude.{ℕ, Ok, Err, Result, Some, None, Option}
use Rattle.order.specs.Levels.{Levels}
use Rattle.rules.specs.declared.values.Name.{Name}
use Rattle.rules.specs.declared.values.Value.TheVariants.{FutureName}
use Rattle.rules.specs.declared.calls.Refusal.{Refusal}
use Rattle.rules.specs.Values.{labelled, plain}
use Rattle.rules.specs.Statements.{Running, call_mark}
use Rattle.statements.specs.declared.frame.Step.{Step}
use Rattle.statements.specs.Turning.{with_result_of}

-- the name of the future of a call at level s, nothing where it has none, or the mark of a refusal
abbrev pub left_by : Levels → Step → (s : ℕ) → Result (Option Name) Refusal → Running → Running
left_by o step s (Ok (Some n)) r = with_result_of o step (plain (labelled (FutureName n) s)) r
left_by o step s (Ok None) r = r
left_by o step s (Err why) r = with_result_of o step (call_mark why s) r
