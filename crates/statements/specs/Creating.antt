-- What O leaves.
use Rattle.std.specs.Prelude.{ℕ, Some, None, Option}
use Rattle.order.specs.Levels.{Levels}
use Rattle.rules.specs.declared.values.Value.TheVariants.{ObjectName}
use Rattle.rules.specs.declared.calls.Refusal.{Refusal}
use Rattle.rules.specs.Values.{name, labelled, plain}
use Rattle.rules.specs.Wrapper.{next_object, with_object}
use Rattle.rules.specs.Statements.{Running, with_tables, object_mark}
use Rattle.statements.specs.declared.frame.Step.{Step}
use Rattle.statements.specs.Turning.{program_of, with_result_of}

-- as the rules' `created`, whether or not there is a variable: the object, and its name in the variable; or the mark of a refusal
abbrev pub created_by : Levels → Step → (class level : ℕ) → Option Refusal → Running → Running
created_by o step class level (Some why) r = with_result_of o step (object_mark why step.context) r
created_by o step class level None r =
    with_result_of o step (plain (labelled (ObjectName (name step.context (next_object r.tables step.context))) step.context))
    (with_tables r (with_object o (program_of step.frame) r.tables step.context class level))
