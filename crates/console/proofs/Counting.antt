-- One argument after the other, as a loop comes to them.
use Rattle.std.proofs.Common.{◌≡◌, ℕ, suc, ◌+◌, ◌-◌, ◌<◌, List, [], ◌∷◌, ◌++◌, ap, ◌∙◌, arith}
use Rattle.script.specs.Bytes.{bad, then}
use Rattle.rules.specs.declared.calls.Argument.{Argument}
use Rattle.console.specs.Requests.{argument_at, arguments_on}

-- at least one is still to come
pub one_more : (vs : List Argument) (n i : ℕ) (bs : List ℕ) → i < n → arguments_on vs (n - i) bs ≡ then (argument_at bs) (λ x rest. arguments_on (vs ++ x ∷ []) (n - (i + 1)) rest)
one_more vs n i bs h =
    let k : n - i ≡ suc (n - (i + 1)) = omega arith in
    ap (λ m. arguments_on vs m bs) k

-- it is not there
pub none_more : (vs : List Argument) (n i : ℕ) (bs : List ℕ) → i < n → argument_at bs ≡ bad → arguments_on vs (n - i) bs ≡ bad
none_more vs n i bs h e = one_more vs n i bs h ∙ ap (λ y. then y (λ x rest. arguments_on (vs ++ x ∷ []) (n - (i + 1)) rest)) e
