-- What is known of the oldest element that passes a test. Assumes nothing.
use Rattle.std.proofs.Common.{◌≡◌, ℕ, ◌+◌, ◌<◌, Bool, true, false, cond, List, [], ◌∷◌, ◌++◌, length, get_or, Some, None, filter, sym, refl, ap, ◌∙◌, arith}
use lib.Seq.{get_or_at}
use Rattle.std.proofs.lemmas.List.{length-append}
use Rattle.std.proofs.lemmas.Bool.{cond_both, cond-false}
use Rattle.line.specs.Slots.{oldest_from, oldest}

-- the element found passes the test, and none before it does
pub record Found {X : Type 0} (n : ℕ) (test : X → Bool) (xs : List X) (f : ℕ × X) : Type 0 where
  pub front : List X
  pub rest : List X
  pub is : xs ≡ front ++ f.1 ∷ rest
  pub place : f.0 ≡ n + length front
  pub passes : test f.1 ≡ true
  pub first : filter test front ≡ []

pub found_from : {X : Type 0} (n : ℕ) (test : X → Bool) (xs : List X) (f : ℕ × X) → oldest_from n test xs ≡ Some f → Found n test xs f
found_from n test [] f = λ e. let z : ◌≡◌ {A = ℕ} 0 1 = cc in absurd (omega arith)
found_from n test (x ∷ xs) f =
    cond_both (test x) (Some (n, x)) (oldest_from (n + 1) test xs) (λ o. o ≡ Some f → Found n test (x ∷ xs) f)
    (λ t e. let s : (n, x) ≡ f = cc in record { front = []; rest = xs; is = ap (λ g. g.1 ∷ xs) s; place = omega (arith, ap (λ g. g.0) s); passes = ap (λ g. test g.1) (sym s) ∙ t; first = refl })
    (λ t e.
    let r = found_from (n + 1) test xs f e in
    record { front = x ∷ r.front; rest = r.rest; is = ap (λ ys. x ∷ ys) r.is; place = omega (arith, r.place); passes = r.passes; first = cond-false (test x) (x ∷ filter test r.front) (filter test r.front) t ∙ r.first })

module _ {X : Type 0} (test : X → Bool) (xs : List X) (f : ℕ × X) (e : Some f ≡ oldest test xs) where
  pub found : Found 0 test xs f
  found = found_from 0 test xs f (sym e)

  pub found_within : f.0 < length xs
  found_within = rw found.is (simp length-append (omega (arith, found.place)))

  pub found_holds : (d : X) → get_or xs f.0 d ≡ f.1
  found_holds d = ap (λ ys. get_or ys f.0 d) found.is ∙ get_or_at found.front f.1 found.rest d f.0 (omega (arith, found.place))

-- one more behind, which does not pass, is not found
pub oldest_past : {X : Type 0} (n : ℕ) (test : X → Bool) (xs : List X) (e : X) → test e ≡ false → oldest_from n test (xs ++ e ∷ []) ≡ oldest_from n test xs
oldest_past n test [] e f = cond-false (test e) (Some (n, e)) None f
oldest_past n test (x ∷ xs) e f = ap (cond (test x) (Some (n, x))) (oldest_past (n + 1) test xs e f)
