-- A new call, last in line.
use Rattle.std.proofs.Common.{◌≡◌, ℕ, Bool, true, cond, ltb, List, length, get_or, Some, None, Option, ap, ◌∙◌}
use Rattle.std.proofs.lemmas.Bool.{cond-true}
use Rattle.rules.specs.declared.values.Labelled.{Labelled}
use Rattle.rules.specs.declared.values.Name.{Name}
use Rattle.rules.specs.declared.tables.Future.{Future}
use Rattle.rules.specs.Lists.{update, added, snoc}
use Rattle.rules.specs.Tables.{State, Call}
use Rattle.rules.specs.Values.{blank}
use Rattle.rules.specs.Wrapper.{room, ticket, first_locals, new_call}
use Rattle.rules.proofs.Listing.{both_right}

-- what is owed depends on the futures alone
abbrev pub ticket_in : (futures : ℕ → List Future) (s : ℕ) (answered : Bool) → Option ℕ
ticket_in futures s answered = cond answered (Some (length (futures s))) None

-- a level that has room has a place in line
pub place-free : (σ : State) (s : ℕ) (answered : Bool) → room σ s answered ≡ true → ltb (length (σ.calls s)) 16 ≡ true
place-free σ s answered h = both_right _ _ h

-- the line with the new call
pub line_more : (before now : ℕ → List Call) (s at : ℕ) (c d : Call) → at ≡ s → now ≡ before → ltb (length (before s)) 16 ≡ true → c ≡ d
    → update now at (added 16 (now at) c) ≡ update before s (snoc (before s) d)
line_more before now s at c d p e room q =
    (λ i. update (e i) (p i) (added 16 (e i (p i)) c)) ∙ ap (update before s) (cond-true (ltb (length (before s)) 16) _ _ room ∙ ap (snoc (before s)) q)

-- the new call is the one of the rules
pub call_new : (σ : State) (s : ℕ) (n : Name) (method : ℕ) (arguments locals : List Labelled) (answered : Bool) (owed : Option ℕ)
    → (λ (k : ℕ). get_or locals k blank) ≡ first_locals s arguments → owed ≡ ticket σ s answered
    → (record { receiver = n; method = method; locals = λ i. get_or locals i blank; next = 0; owed = owed }) ≡ new_call σ s n method arguments answered
call_new σ s n method arguments locals answered owed e q = λ i. record { receiver = n; method = method; locals = e i; next = 0; owed = q i }
