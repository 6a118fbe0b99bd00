-- What stands at the front of some bytes, as the reader comes to it.
use Rattle.std.proofs.Common.{◌≡◌, ℕ, ◌+◌, ◌-◌, ◌*◌, ◌^◌, ◌<◌, true, false, ◌&&◌, eqb, nat_eq, List, [], ◌∷◌, ◌++◌, length, take, drop, refl, sym, ap, ◌∙◌, append_assoc, arith, take-append-drop}
use Rattle.std.specs.Char.{is_ascii_digit}
use lib.Pointwise.{pointwise}
use Rattle.std.proofs.lemmas.Bool.{cond_both, cond-true, cond-false, and_parts, lt-leb}
use Rattle.script.specs.Bytes.{got, bad, digits_on, magnitude_at, number_at, positive, bytes_at}
use Rattle.script.specs.Readers.{Tail}

-- more digits do not make it smaller
pub too_large : (most n : ℕ) (bs : List ℕ) → most < n → digits_on most n bs ≡ bad
too_large most n [] h = cond-false _ _ _ (lt-leb _ _ h)
too_large most n (b ∷ bs) h =
    cond_both (is_ascii_digit b) _ _ (λ g. g ≡ bad)
    (λ _. cond_both (eqb n 0) _ _ (λ g. g ≡ bad) (λ _. refl) (λ _. too_large most (n * 10 + (b - 48)) bs (omega arith)))
    (λ _. cond-false _ _ _ (lt-leb _ _ h))

-- with no minus in front, the digits are the number
pub unsigned : (bs : List ℕ) → bytes_at (45 ∷ []) bs ≡ bad → number_at bs ≡ positive (magnitude_at (2 ^ 31 - 1) bs)
unsigned [] h = refl
unsigned (b ∷ bs) h =
    cond_both (eqb b 45) _ _ (λ g. g ≡ bad → number_at (b ∷ bs) ≡ positive (magnitude_at (2 ^ 31 - 1) (b ∷ bs)))
    (λ _ e. let z : ◌≡◌ {A = ℕ} 0 1 = cc in absurd (omega arith))
    (λ n _. cond-false _ _ _ n) h

-- the bytes cs stand in front exactly where the first so many bytes are equal to them
pub stripped : (cs bs : List ℕ) → pointwise nat_eq (take (length cs) bs) cs ≡ true → bytes_at cs bs ≡ got tt (drop (length cs) bs)
stripped [] bs h = refl
stripped (c ∷ cs) [] h = let z : ◌≡◌ {A = ℕ} 0 1 = cc in absurd (omega arith)
stripped (c ∷ cs) (b ∷ bs) h = let p = and_parts (eqb b c) _ h in cond-true _ _ _ p.0 ∙ stripped cs bs p.1

pub not_stripped : (cs bs : List ℕ) → pointwise nat_eq (take (length cs) bs) cs ≡ false → bytes_at cs bs ≡ bad
not_stripped [] bs h = let z : ◌≡◌ {A = ℕ} 0 1 = cc in absurd (omega arith)
not_stripped (c ∷ cs) [] h = refl
not_stripped (c ∷ cs) (b ∷ bs) h =
    cond_both (eqb b c) (bytes_at cs bs) bad (λ g. (eqb b c && pointwise nat_eq (take (length cs) bs) cs) ≡ false → g ≡ bad)
    (λ t e. not_stripped cs bs (rw t at e))
    (λ _ _. refl) h

-- where nothing is passed
pub tail_same : (bs : List ℕ) → Tail bs bs
tail_same bs = record { passed = []; split = refl }

-- where one byte is passed
pub tail_next : (b : ℕ) (old new : List ℕ) → old ≡ b ∷ new → Tail old new
tail_next b old new e = record { passed = b ∷ []; split = e }

-- where the first so many bytes are passed
pub tail_drop : (n : ℕ) (old new : List ℕ) → new ≡ drop n old → Tail old new
tail_drop n old new e = record { passed = take n old; split = sym (take-append-drop n old) ∙ ap (λ bs. take n old ++ bs) (sym e) }

-- where one piece is passed after another
pub tail_more : {a b c : List ℕ} → Tail a b → Tail b c → Tail a c
tail_more {c = c} p q = record { passed = p.passed ++ q.passed; split = p.split ∙ ap (λ bs. p.passed ++ bs) q.split ∙ sym (append_assoc p.passed q.passed c) }
