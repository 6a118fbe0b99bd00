-- What the tables in memory hold, as the rules see it.
use Rattle.std.specs.Prelude.{◌≡◌, ℕ, List}
use Rattle.rules.specs.declared.tables.Note.{Note}
use Rattle.rules.specs.declared.tables.Future.{Future}
use Rattle.rules.specs.declared.tables.Call.{Call as StoredCall}
use Rattle.rules.specs.Lists.{Placed}
use Rattle.rules.specs.Tables.{Object, object_of, Call, call_of, State}
use Rattle.store.specs.declared.tables.Tables.{Tables}
use Rattle.store.specs.Lines.{lines_of, found_of}

abbrev pub objects_of : Tables → ℕ → List Object
objects_of t = lines_of object_of t.objects

abbrev pub futures_of : Tables → ℕ → List Future
futures_of t = lines_of (λ f. f) t.futures

abbrev pub calls_of : Tables → ℕ → List Call
calls_of t = lines_of call_of t.calls

abbrev pub notes_of : Tables → ℕ → List Note
notes_of t = lines_of (λ n. n) t.notes

abbrev pub state_of : Tables → State
state_of t = record { objects = objects_of t; futures = futures_of t; calls = calls_of t; notes = notes_of t }

-- all tables but one are as they were
pub record SameButObjects (t u : Tables) : Type 0 where
  pub futures : u.futures ≡ t.futures
  pub calls : u.calls ≡ t.calls
  pub notes : u.notes ≡ t.notes

pub record SameButFutures (t u : Tables) : Type 0 where
  pub objects : u.objects ≡ t.objects
  pub calls : u.calls ≡ t.calls
  pub notes : u.notes ≡ t.notes

pub record SameButCalls (t u : Tables) : Type 0 where
  pub objects : u.objects ≡ t.objects
  pub futures : u.futures ≡ t.futures
  pub notes : u.notes ≡ t.notes

pub record SameButNotes (t u : Tables) : Type 0 where
  pub objects : u.objects ≡ t.objects
  pub futures : u.futures ≡ t.futures
  pub calls : u.calls ≡ t.calls

-- the call that a look finds
abbrev pub found_call : ℕ × StoredCall → Placed Call
found_call = found_of call_of
