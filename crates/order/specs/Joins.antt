-- What holds of the joins of every order.
use Rattle.std.specs.Prelude.{◌≡◌, ℕ, ◌<◌, true, cond, ◌↔◌, Some, None, Option}
use Rattle.order.specs.Levels.{Levels}

-- the join of two numbers, where it may flow to a limit
abbrev pub within : Levels → ℕ → ℕ → ℕ → Option ℕ
within o one other limit = cond (o.flow (o.join one other) limit) (Some (o.join one other)) None

pub record Joins (o : Levels) : Type 0 where
  -- the join of two levels flows just to where both flow: it is their least bound
  pub least : (a b c : ℕ) → a < o.count → b < o.count → (o.flow (o.join a b) c ≡ true) ↔ ((o.flow a c ≡ true) × (o.flow b c ≡ true))
  -- the order of the two does not matter, nor does the grouping of three, nor a second time
  pub commutes : (a b : ℕ) → a < o.count → b < o.count → o.join a b ≡ o.join b a
  pub regroups : (a b c : ℕ) → a < o.count → b < o.count → c < o.count → o.join (o.join a b) c ≡ o.join a (o.join b c)
  pub repeats : (a : ℕ) → a < o.count → o.join a a ≡ a
  -- what flows further joins further
  pub grows : (a b c d : ℕ) → o.flow a c ≡ true → o.flow b d ≡ true → o.flow (o.join a b) (o.join c d) ≡ true
