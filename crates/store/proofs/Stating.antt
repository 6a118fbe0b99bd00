-- The state that tables hold, put together from the four tables.
use Rattle.std.proofs.Common.{◌≡◌, ℕ, List, ap}
use Rattle.rules.specs.declared.tables.Note.{Note}
use Rattle.rules.specs.declared.tables.Future.{Future}
use Rattle.rules.specs.Tables.{Object, object_of, Call, call_of}
use Rattle.store.specs.declared.tables.Tables.{Tables}
use Rattle.store.specs.Lines.{lines_of}
use Rattle.store.specs.States.{objects_of, futures_of, calls_of, notes_of, state_of, SameButObjects, SameButFutures, SameButCalls, SameButNotes}

module _ (t u : Tables) where
  pub state_is : (os : ℕ → List Object) (fs : ℕ → List Future) (cs : ℕ → List Call) (ns : ℕ → List Note)
      → objects_of u ≡ os → futures_of u ≡ fs → calls_of u ≡ cs → notes_of u ≡ ns → state_of u ≡ record { objects = os; futures = fs; calls = cs; notes = ns }
  state_is os fs cs ns a b c d = λ i. record { objects = a i; futures = b i; calls = c i; notes = d i }

  -- a table that stays holds what it held
  pub objects_stay : u.objects ≡ t.objects → objects_of u ≡ objects_of t
  objects_stay e = ap (lines_of object_of) e

  pub futures_stay : u.futures ≡ t.futures → futures_of u ≡ futures_of t
  futures_stay e = ap (lines_of (λ f. f)) e

  pub calls_stay : u.calls ≡ t.calls → calls_of u ≡ calls_of t
  calls_stay e = ap (lines_of call_of) e

  pub notes_stay : u.notes ≡ t.notes → notes_of u ≡ notes_of t
  notes_stay e = ap (lines_of (λ n. n)) e

  -- one table changed, and the others stay
  pub by_objects : (os : ℕ → List Object) → objects_of u ≡ os → SameButObjects t u
      → state_of u ≡ record { objects = os; futures = futures_of t; calls = calls_of t; notes = notes_of t }
  by_objects os e s = state_is os _ _ _ e (futures_stay s.futures) (calls_stay s.calls) (notes_stay s.notes)

  pub by_futures : (fs : ℕ → List Future) → futures_of u ≡ fs → SameButFutures t u
      → state_of u ≡ record { objects = objects_of t; futures = fs; calls = calls_of t; notes = notes_of t }
  by_futures fs e s = state_is _ fs _ _ (objects_stay s.objects) e (calls_stay s.calls) (notes_stay s.notes)

  pub by_calls : (cs : ℕ → List Call) → calls_of u ≡ cs → SameButCalls t u
      → state_of u ≡ record { objects = objects_of t; futures = futures_of t; calls = cs; notes = notes_of t }
  by_calls cs e s = state_is _ _ cs _ (objects_stay s.objects) (futures_stay s.futures) e (notes_stay s.notes)

  pub by_notes : (ns : ℕ → List Note) → notes_of u ≡ ns → SameButNotes t u
      → state_of u ≡ record { objects = objects_of t; futures = futures_of t; calls = calls_of t; notes = ns }
  by_notes ns e s = state_is _ _ _ ns (objects_stay s.objects) (futures_stay s.futures) (calls_stay s.calls) e
