-- What an order of levels is, and the laws that it keeps.
use Rattle.std.specs.Prelude.{◌≡◌, ℕ, ◌<◌, ◌≤◌, Bool, true, cond, ◌&&◌, nat_lt}

-- The levels are the numbers below `count`. What stands at a may go to b where `flow a b` is true, and `join a b` is the level of what was
-- made from both.
pub record Levels : Type 0 where
  pub count : ℕ
  pub flow : ℕ → ℕ → Bool
  pub join : ℕ → ℕ → ℕ

-- The laws. A number that is no level flows nowhere and nothing flows to it (`from`, `to`), and a join is always a level, whatever numbers
-- were joined (`level`).
pub record Laws (o : Levels) : Type 0 where
  -- there are 1 to 8 levels
  pub some : 1 ≤ o.count
  pub few : o.count ≤ 8
  -- only levels flow, and only to levels
  pub from : (a b : ℕ) → o.flow a b ≡ true → a < o.count
  pub to : (a b : ℕ) → o.flow a b ≡ true → b < o.count
  -- each level flows to itself
  pub itself : (a : ℕ) → a < o.count → o.flow a a ≡ true
  -- two that flow to each other are one
  pub same : (a b : ℕ) → o.flow a b ≡ true → o.flow b a ≡ true → a ≡ b
  -- flows compose
  pub through : (a b c : ℕ) → o.flow a b ≡ true → o.flow b c ≡ true → o.flow a c ≡ true
  -- level 0 flows to all
  pub bottom : (a : ℕ) → a < o.count → o.flow 0 a ≡ true
  -- a join is a level
  pub level : (a b : ℕ) → o.join a b < o.count
  -- two levels flow to their join
  pub left : (a b : ℕ) → a < o.count → b < o.count → o.flow a (o.join a b) ≡ true
  pub right : (a b : ℕ) → a < o.count → b < o.count → o.flow b (o.join a b) ≡ true
  -- and the join flows to every level that both flow to
  pub least : (a b c : ℕ) → o.flow a c ≡ true → o.flow b c ≡ true → o.flow (o.join a b) c ≡ true

-- The order of n levels with a relation and a join of their own: outside the levels nothing flows, and the join is 0.
abbrev pub levels_of : ℕ → (ℕ → ℕ → Bool) → (ℕ → ℕ → ℕ) → Levels
levels_of n rel join = record { count = n; flow = λ a b. (nat_lt a n && nat_lt b n) && rel a b; join = λ a b. cond (nat_lt a n && nat_lt b n) (join a b) 0 }
