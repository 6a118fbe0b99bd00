-- Whether every element of a list passes a test, in this repository's word and in the library's.
use Rattle.std.proofs.Common.{◌≡◌, Bool, ◌&&◌, List, [], ◌∷◌, refl, ap}
use Rattle.std.specs.List.{list_all}
use Rattle.script.specs.Layout.{every}

pub list_all-every : {X : Type 0} (test : X → Bool) (xs : List X) → list_all test xs ≡ every test xs
list_all-every test [] = refl
list_all-every test (x ∷ xs) = ap (λ b. test x && b) (list_all-every test xs)
