-- The laws of an order of few levels, by one test that is computed over all of them.
use Rattle.std.specs.Prelude.{◌≡◌, ℕ, zero, suc, ◌<◌, Bool, true, false, ◌&&◌, ◌==◌, nat_le, nat_lt, refl}
use Rattle.std.proofs.Common.{arith}
use Rattle.std.proofs.lemmas.Bool.Decides.{Decides-below_and, nat_tests}
use Rattle.std.proofs.lemmas.Bool.{cond_both}
use Rattle.order.specs.Levels.{Levels, Laws, levels_of}

abbrev implies : Bool → Bool → Bool
implies true b = b
implies false b = true

-- the test f passes at each number below n
abbrev every : ℕ → (ℕ → Bool) → Bool
every zero f = true
every (suc n) f = f n && every n f

module _ (n : ℕ) (rel : ℕ → ℕ → Bool) (join : ℕ → ℕ → ℕ) where
  abbrev of_three : ℕ → ℕ → ℕ → Bool
  of_three a b c = implies (rel a b && rel b c) (rel a c) && implies (rel a c && rel b c) (rel (join a b) c)

  abbrev of_two : ℕ → ℕ → Bool
  of_two a b = nat_lt (join a b) n && (rel a (join a b) && (rel b (join a b) && (implies (rel a b && rel b a) (a == b) && every n (of_three a b))))

  abbrev of_one : ℕ → Bool
  of_one a = rel a a && (rel 0 a && every n (of_two a))

  -- the laws hold of all levels
  abbrev pub lawful : Bool
  lawful = nat_le 1 n && (nat_le n 8 && every n of_one)

at : (n : ℕ) (f : ℕ → Bool) → every n f ≡ true → (k : ℕ) → k < n → f k ≡ true
at n f = (Decides-below_and f (λ k. f k ≡ true) (λ m. every m f) (λ k. (λ e. e, λ e. e)) refl (λ _. refl) n).0

module _ (n : ℕ) (rel : ℕ → ℕ → Bool) (join : ℕ → ℕ → ℕ) (ok : lawful n rel join ≡ true) where
  at_one : (a : ℕ) → a < n → of_one n rel join a ≡ true
  at_one = at n (of_one n rel join) (grind (arith, nat_tests))

  at_two : (a b : ℕ) → a < n → b < n → of_two n rel join a b ≡ true
  at_two a b p q = at n (of_two n rel join a) (let e = at_one a p in grind (arith, nat_tests)) b q

  at_three : (a b c : ℕ) → a < n → b < n → c < n → of_three n rel join a b c ≡ true
  at_three a b c p q r = at n (of_three n rel join a b) (let e = at_two a b p q in grind (arith, nat_tests)) c r

  abbrev o : Levels
  o = levels_of n rel join

  -- what flows is two levels, and the relation holds of them
  flows : (a b : ℕ) → o.flow a b ≡ true → (a < n) × (b < n) × (rel a b ≡ true)
  flows a b e = grind (arith, nat_tests)

  back : (a b : ℕ) → a < n → b < n → rel a b ≡ true → o.flow a b ≡ true
  back a b p q e = grind (arith, nat_tests)

  inside : (a b : ℕ) → a < n → b < n → o.join a b ≡ join a b
  inside a b p q = grind (arith, nat_tests)

  join_level : (a b : ℕ) → o.join a b < n
  join_level a b =
      cond_both (nat_lt a n && nat_lt b n) (join a b) 0 (λ k. k < n)
      (λ t. let e = at_two a b (grind (arith, nat_tests)) (grind (arith, nat_tests)) in grind (arith, nat_tests))
      (λ _. grind (arith, nat_tests))

  pub laws_of : Laws o
  laws_of = record {
    some = grind (arith, nat_tests);
    few = grind (arith, nat_tests);
    from = λ a b e. (flows a b e).0;
    to = λ a b e. (flows a b e).1;
    itself = λ a h. let e = at_one a h in grind (arith, nat_tests);
    same = λ a b p q. let h = flows a b p in let e = at_two a b h.0 h.1 in grind (arith, nat_tests);
    through = λ a b c p q. let h = flows a b p in let k = flows b c q in let e = at_three a b c h.0 h.1 k.1 in grind (arith, nat_tests);
    bottom = λ a h. let e = at_one a h in grind (arith, nat_tests);
    level = join_level;
    left = λ a b p q. let e = at_two a b p q in let i = inside a b p q in rw i (back a (join a b) p (grind (arith, nat_tests)) (grind (arith, nat_tests)));
    right = λ a b p q. let e = at_two a b p q in let i = inside a b p q in rw i (back b (join a b) q (grind (arith, nat_tests)) (grind (arith, nat_tests)));
    least = λ a b c p q. let h = flows a c p in let k = flows b c q in let d = at_two a b h.0 k.0 in let e = at_three a b c h.0 k.0 h.1 in let i = inside a b h.0 k.0 in rw i (back (join a b) c (grind (arith, nat_tests)) h.1 (grind (arith, nat_tests)));
  }
