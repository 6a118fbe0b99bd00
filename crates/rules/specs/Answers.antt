-- The number that each answer returns, and what comes with it.
use Rattle.std.specs.Prelude.{ℕ}
use Rattle.rules.specs.declared.values.Name.{Name}
use Rattle.rules.specs.declared.values.Labelled.{Labelled}
use Rattle.rules.specs.declared.tables.Note.{Note}
use Rattle.rules.specs.declared.calls.Refusal.{Refusal}
use Rattle.rules.specs.declared.calls.Refusal.TheVariants.{NotALevel, Unknown, NotMade, NoFlow, Full, Nothing}
use Rattle.rules.specs.declared.calls.Answer.{Answer}
use Rattle.rules.specs.declared.calls.Answer.TheVariants.{Refused, Made, Posted, Ended, Held, Collected, Noted}

abbrev pub refusal_number : Refusal → ℕ
refusal_number NotALevel = 1
refusal_number Unknown = 2
refusal_number NotMade = 3
refusal_number NoFlow = 4
refusal_number Full = 5
refusal_number Nothing = 6

-- 0 is granted, and 10 a turn that is held
abbrev pub number_of : Answer → ℕ
number_of (Refused why) = refusal_number why
number_of (Made n) = 0
number_of (Posted n) = 0
number_of Ended = 0
number_of Held = 10
number_of (Collected x) = 0
number_of (Noted x) = 0

-- what comes with the number: nothing, an object's or a future's name, a value with its label, or a note
pub data Carried : Type 0 where
  nothing : Carried
  object : Name → Carried
  future : Name → Carried
  value : Labelled → Carried
  noted : Note → Carried

abbrev pub carried_by : Answer → Carried
carried_by (Refused why) = nothing
carried_by (Made n) = object n
carried_by (Posted n) = future n
carried_by Ended = nothing
carried_by Held = nothing
carried_by (Collected x) = value x
carried_by (Noted x) = noted x
