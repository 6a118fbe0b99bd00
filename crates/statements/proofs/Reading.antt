-- What is read at a place of a list.
use Rattle.std.proofs.Common.{◌≡◌, ℕ, zero, suc, List, [], ◌∷◌, get_or, refl}
use Rattle.std.specs.Option.{unwrap_or}
use Rattle.rules.specs.Lists.{nth}

-- an element that stands there is read, and another one where none does
pub nth_or : {X : Type 0} (xs : List X) (i : ℕ) (d : X) → unwrap_or (nth xs i) d ≡ get_or xs i d
nth_or [] i d = refl
nth_or (x ∷ xs) zero d = refl
nth_or (x ∷ xs) (suc i) d = nth_or xs i d
