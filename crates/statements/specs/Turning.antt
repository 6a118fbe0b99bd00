-- What a turn holds in memory, as the rules see it.
use Rattle.std.specs.Prelude.{slice_index_or}
use Rattle.order.specs.Levels.{Levels}
use Rattle.script.specs.Classes.{Program, classes_of}
use Rattle.rules.specs.Values.{blank, Made}
use Rattle.rules.specs.Tables.{State}
use Rattle.rules.specs.Statements.{Scene, Running, with_result}
use Rattle.store.specs.declared.tables.Tables.{Tables}
use Rattle.store.specs.States.{state_of}
use Rattle.statements.specs.declared.frame.Frame.{Frame}
use Rattle.statements.specs.declared.frame.Step.{Step}
use Rattle.statements.specs.declared.variables.Variables.{Variables}

-- the variables by number, over tables; past the eighth stands 0 labelled 0
abbrev pub running_of : Variables → State → Running
running_of v σ = record { locals = λ i. slice_index_or v.locals i blank; fields = λ i. slice_index_or v.fields i blank; tables = σ }

-- the same, over what tables in memory hold
abbrev pub working : Variables → Tables → Running
working v t = running_of v (state_of t)

-- the program that a turn is of
abbrev pub program_of : Frame → Program
program_of f = classes_of f.classes.now

-- what stays the same through a turn
abbrev pub scene_of_frame : Frame → Scene
scene_of_frame f =
    record {
      self = f.this;
      class = f.class;
      level = f.level;
      method = f.method;
      body = f.body.now;
      called_at = f.called_at;
      from = f.from;
    }

-- a statement's result in its variable, if it has one, and the note of a new mark in its line
abbrev pub with_result_of : Levels → Step → Made → Running → Running
with_result_of o s m r = with_result o (program_of s.frame) (scene_of_frame s.frame) s.context s.at s.to m r
