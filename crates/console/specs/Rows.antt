-- What was read of the call rows.
use Rattle.std.specs.Prelude.{◌≡◌, Bool, true, false, List, [], ◌∷◌, ◌++◌, map, Some, None, Ok, Err, vec_items, Option, Result}
use Rattle.rules.specs.declared.calls.Request.{Request as StoredRequest}
use Rattle.rules.specs.Calling.{Request, request_of}
use Rattle.console.specs.declared.reader.RowError.{RowError}
use Rattle.console.specs.declared.reader.RowError.TheVariants.{Unreadable, Memory}
use Rattle.console.specs.declared.calls.Calls.{Calls}

-- what memory holds of a row
abbrev pub called : Option StoredRequest → Option Request
called (Some q) = Some (request_of q)
called None = None

-- r is what a row says
abbrev pub GivesWhole : Result StoredRequest RowError → Option Request → Type 0
GivesWhole (Ok q) o = o ≡ Some (request_of q)
GivesWhole (Err Unreadable) o = o ≡ None
GivesWhole (Err Memory) o = Unit {0}

-- the requests among what some rows say, in their order
abbrev pub requested : List (Option Request) → List Request
requested [] = []
requested (Some q ∷ xs) = q ∷ requested xs
requested (None ∷ xs) = requested xs

-- which of the rows say one
abbrev pub says_one : Option Request → Bool
says_one (Some q) = true
says_one None = false

abbrev pub readable : List (Option Request) → List Bool
readable xs = map says_one xs

-- the requests that memory holds
abbrev pub kept : Calls → List Request
kept c = map request_of (vec_items c.requests)

-- c holds some rows, with the requests apart
pub record Sorted (c : Calls) (xs : List (Option Request)) : Type 0 where
  pub asks : kept c ≡ requested xs
  pub tells : vec_items c.readable ≡ readable xs

-- one more row
pub record Grown (x : Option Request) (old new : Calls) : Type 0 where
  pub asks : kept new ≡ kept old ++ requested (x ∷ [])
  pub tells : vec_items new.readable ≡ vec_items old.readable ++ says_one x ∷ []
