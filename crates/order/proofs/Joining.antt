-- What follows from the laws of the joins of every order.
use Rattle.std.proofs.Common.{◌≡◌, ℕ, ◌<◌, true, ◌↔◌}
use Rattle.order.specs.Levels.{Levels, Laws}
use Rattle.order.specs.Joins.{Joins}

module _ (o : Levels) (l : Laws o) where
  open l use {from, to, itself, same, through, level, left, right, least}

  -- what flows to a level flows to its joins
  pub by_left : (a b c : ℕ) → o.flow a b ≡ true → c < o.count → o.flow a (o.join b c) ≡ true
  by_left a b c p q = through a b _ p (left b c (to a b p) q)

  pub by_right : (a b c : ℕ) → o.flow a c ≡ true → b < o.count → o.flow a (o.join b c) ≡ true
  by_right a b c p q = through a c _ p (right b c q (to a c p))

  least_bound : (a b c : ℕ) → a < o.count → b < o.count → (o.flow (o.join a b) c ≡ true) ↔ ((o.flow a c ≡ true) × (o.flow b c ≡ true))
  least_bound a b c p q = (λ e. (through a _ c (left a b p q) e, through b _ c (right a b p q) e), λ e. least a b c e.0 e.1)

  grows : (a b c d : ℕ) → o.flow a c ≡ true → o.flow b d ≡ true → o.flow (o.join a b) (o.join c d) ≡ true
  grows a b c d p q = search (from, to, through, left, right, least)

  commutes : (a b : ℕ) → a < o.count → b < o.count → o.join a b ≡ o.join b a
  commutes a b p q = search (same, left, right, least)

  regroups : (a b c : ℕ) → a < o.count → b < o.count → c < o.count → o.join (o.join a b) c ≡ o.join a (o.join b c)
  regroups a b c p q r = search (same, least, itself, level, by_left, by_right) depth 7

  repeats : (a : ℕ) → a < o.count → o.join a a ≡ a
  repeats a p = search (itself, same, left, least)

  pub joins : Joins o
  joins = record { least = least_bound; commutes = commutes; regroups = regroups; repeats = repeats; grows = grows }
