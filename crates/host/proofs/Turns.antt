-- A turn's frame in memory, and the turn of the rules.
use Rattle.std.proofs.Common.{◌≡◌, ℕ, ◌≤◌, List, length, Some, ap, ◌∙◌, arith}
use Rattle.order.specs.Levels.{Levels}
use Rattle.script.specs.declared.class.Class.{Class as StoredClass}
use Rattle.script.specs.declared.class.Statement.{Statement}
use Rattle.script.specs.Classes.{classes_of}
use Rattle.rules.specs.declared.values.Name.{Name}
use Rattle.rules.specs.Tables.{State, Object, Call}
use Rattle.rules.specs.Wrapper.{method_at}
use Rattle.rules.specs.Turns.{before_last, statements_of, exec, started, turned}
use Rattle.stepper.specs.declared.turn.Outcome.{Outcome}
use Rattle.stepper.specs.declared.turn.Outcome.TheVariants.{Ended, Held}
use Rattle.stepper.specs.Halves.{StopsWithin}

-- the body of a call, in two programs that have the same classes
abbrev pub body_in : List StoredClass → (class method : ℕ) → List Statement
body_in cs class method = before_last (statements_of (method_at (classes_of cs) class (Some method)))

pub turned-is : (o : Levels) (cs ds : List StoredClass) (σ : State) (m : ℕ) (n : Name) (b : Object) (c : Call) (body : List Statement) → cs ≡ ds
    → body ≡ body_in cs b.class c.method
    → exec o (classes_of cs)
    (record { self = n; class = b.class; level = b.level; method = c.method; body = body; called_at = m; from = c.next }) (length body) 0 (length body) m (started σ b c)
    ≡ turned o (classes_of ds) σ m n b c
turned-is o cs ds σ m n b c body e q =
    let same : body ≡ body_in ds b.class c.method = q ∙ ap (λ ks. body_in ks b.class c.method) e in
    λ i. exec o (classes_of (e i))
    (record { self = n; class = b.class; level = b.level; method = c.method; body = same i; called_at = m; from = c.next }) (length (same i)) 0 (length (same i)) m (started σ b c)

pub stops_short : (n : ℕ) (r : Outcome) → n ≤ 32 → StopsWithin n r → StopsWithin 32 r
stops_short n Ended h s = tt
stops_short n (Held at) h s = omega arith
