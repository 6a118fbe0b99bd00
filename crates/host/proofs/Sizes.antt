-- How much stands at a level, at most.
use Rattle.std.proofs.Common.{ℕ, ◌≤◌, length}
use Rattle.rules.specs.Tables.{object_of}
use Rattle.store.specs.declared.tables.Tables.{Tables}
use Rattle.store.specs.States.{objects_of, futures_of}
use Rattle.store.proofs.Lining.{few}

pub objects_few : (t : Tables) (home : ℕ) → length (objects_of t home) ≤ 8
objects_few t home = few object_of t.objects home

pub futures_few : (t : Tables) (home : ℕ) → length (futures_of t home) ≤ 32
futures_few t home = few (λ f. f) t.futures home
