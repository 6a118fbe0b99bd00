-- A number is read from its spelling, and from nothing else.
use Rattle.std.proofs.Common.{◌≡◌, ℕ, zero, suc, ◌+◌, ◌-◌, ◌*◌, ◌^◌, ◌<◌, ◌≤◌, true, cond, eqb, leb, List, [], ◌∷◌, ◌++◌, length, get_or, ℤ, pos, negsuc, neg_ℤ, decimal, sym, refl, ap, ◌∙◌, subst, ⊎_elim, zero-add, arith, w32, SFits}
use Rattle.std.specs.Char.{is_ascii_digit}
use Rattle.std.specs.Fmt.{signed_decimal}
use Rattle.std.specs.Str.{all_ascii_digits}
use Rattle.std.proofs.lemmas.List.{nil_from_length}
use Rattle.std.proofs.lemmas.Bool.{cases_eq, cond_both, cond-true, cond-false, and_parts, and_from, ne_eqb, eqb-true, eqb-false, le-leb, leb-true}
use Rattle.std.proofs.lemmas.Bool.Decides.{nat_tests}
use Rattle.std.proofs.lemmas.Str.Parse.{IsNumeralModel, numerals_by_fold, tells_all_ascii_digits}
use Rattle.std.proofs.lemmas.Fmt.{decimal-digits_value, digits_decimal, digits_value-decimal, decimal_nonempty, first_decimal, decimal_digit}
use Rattle.script.specs.Bytes.{Got, got, bad, NoDigit, bytes_at, digits_on, magnitude_at, positive, negative, number_at}
use Rattle.script.proofs.Fronts.{unsigned}

-- the number that digits write, after those of n
abbrev read_on : ℕ → List ℕ → ℕ
read_on n [] = n
read_on n (c ∷ cs) = read_on (n * 10 + (c - 48)) cs

own : IsNumeralModel (λ ds. all_ascii_digits ds ≡ true) (read_on 0)
own = numerals_by_fold _ tells_all_ascii_digits read_on (record { empty = λ _. refl; more = λ _ _ _ _. refl })

digit_low : (c : ℕ) → is_ascii_digit c ≡ true → 48 ≤ c
digit_low c e = grind (arith, nat_tests)

-- the digits ds, after those of n, and what is left
record Spelt (most n : ℕ) (bs : List ℕ) (m : ℕ) (rest : List ℕ) : Type 0 where
  ds : List ℕ
  split : bs ≡ ds ++ rest
  digits : all_ascii_digits ds ≡ true
  ends : NoDigit rest
  value : m ≡ read_on n ds
  fits : m ≤ most
  lone : n ≡ 0 → ds ≡ []

digits_back : (most n : ℕ) (ds rest : List ℕ) → all_ascii_digits ds ≡ true → NoDigit rest → (n ≡ 0 → ds ≡ []) → read_on n ds ≤ most → digits_on most n (ds ++ rest) ≡ got (read_on n ds) rest
digits_back most n [] [] a e lone h = cond-true _ _ _ (le-leb _ _ h)
digits_back most n [] (b ∷ bs) a e lone h = cond-false _ _ _ e ∙ cond-true _ _ _ (le-leb _ _ h)
digits_back most n (c ∷ cs) rest a e lone h =
    let p = and_parts (is_ascii_digit c) (all_ascii_digits cs) a in
    let some : n ≡ 0 → ⊥ = λ z. let f : ◌≡◌ {A = ℕ} (suc (length cs)) 0 = ap length (lone z) in omega arith in
    cond-true _ _ _ p.0 ∙ cond-false _ _ _ (ne_eqb n 0 some) ∙ digits_back most (n * 10 + (c - 48)) cs rest p.1 e (λ z. absurd (some (omega arith))) h

stop : (most n : ℕ) (bs : List ℕ) (m : ℕ) (rest : List ℕ) → NoDigit bs → cond (leb n most) (got n bs) bad ≡ got m rest → Spelt most n bs m rest
stop most n bs m rest nd =
    cond_both (leb n most) (got n bs) bad (λ g. g ≡ got m rest → Spelt most n bs m rest)
    (λ le e.
    let same : n ≡ m = cc in
    let left : bs ≡ rest = cc in
    record { ds = []; split = left; digits = refl; ends = subst NoDigit left nd; value = sym same; fits = omega (arith, leb-true n most le); lone = λ _. refl })
    (λ _ e. let z : ◌≡◌ {A = ℕ} 0 1 = cc in absurd (omega arith))

digits_only : (most n : ℕ) (bs : List ℕ) (m : ℕ) (rest : List ℕ) → digits_on most n bs ≡ got m rest → Spelt most n bs m rest
digits_only most n [] m rest = stop most n [] m rest tt
digits_only most n (b ∷ bs) m rest =
    cond_both (is_ascii_digit b) _ _ (λ g. g ≡ got m rest → Spelt most n (b ∷ bs) m rest)
    (λ d. cond_both (eqb n 0) _ _ (λ g. g ≡ got m rest → Spelt most n (b ∷ bs) m rest)
    (λ _ e. let z : ◌≡◌ {A = ℕ} 0 1 = cc in absurd (omega arith))
    (λ nz e.
    let s = digits_only most (n * 10 + (b - 48)) bs m rest e in
    record { ds = b ∷ s.ds; split = ap (λ l. b ∷ l) s.split; digits = and_from _ _ d s.digits; ends = s.ends; value = s.value; fits = s.fits; lone = λ z. absurd (eqb-false n 0 nz z) }))
    (λ nd. stop most n (b ∷ bs) m rest nd)

-- magnitudes
lead : (most : ℕ) (ds rest : List ℕ) → all_ascii_digits ds ≡ true → 0 < length ds → (get_or ds 0 0 ≡ 48 → length ds ≡ 1) → read_on 0 ds ≤ most → NoDigit rest → magnitude_at most (ds ++ rest) ≡ got (read_on 0 ds) rest
lead most [] rest a h l f e = absurd (omega arith)
lead most (c ∷ cs) rest a h l f e =
    let p = and_parts (is_ascii_digit c) (all_ascii_digits cs) a in
    let low = digit_low c p.0 in
    let z : read_on 0 (c ∷ cs) ≡ read_on (c - 48) cs = ap (λ k. read_on k cs) (zero-add (c - 48)) in
    cond-true _ _ _ p.0 ∙ digits_back most (c - 48) cs rest p.1 e (λ k. nil_from_length cs (omega (arith, l (omega arith)))) (rw z at f) ∙ ap (λ k. got k rest) (sym z)

lone_zero : (n : ℕ) → n < 2 ^ 64 → get_or (decimal n) 0 0 ≡ 48 → length (decimal n) ≡ 1
lone_zero n big e =
    ⊎_elim
    (λ z. ap (λ k. length (decimal k)) z ∙ ap length (decimal_digit 0 (omega arith)))
    (λ nz. absurd (omega (arith, first_decimal n (omega arith) big)))
    (cases_eq n 0)

magnitude_back : (most n : ℕ) (rest : List ℕ) → n ≤ most → n < 2 ^ 64 → NoDigit rest → magnitude_at most (decimal n ++ rest) ≡ got n rest
magnitude_back most n rest h big e =
    let v = digits_value-decimal own n big in
    lead most (decimal n) rest (digits_decimal own n big) (decimal_nonempty n big) (lone_zero n big) (omega (arith, v)) e ∙ ap (λ k. got k rest) v

magnitude_only : (most : ℕ) (bs : List ℕ) (n : ℕ) (rest : List ℕ) → most < 2 ^ 64 → magnitude_at most bs ≡ got n rest → (bs ≡ decimal n ++ rest) × NoDigit rest × (n ≤ most)
magnitude_only most [] n rest big = λ e. let z : ◌≡◌ {A = ℕ} 0 1 = cc in absurd (omega arith)
magnitude_only most (b ∷ bs) n rest big =
    cond_both (is_ascii_digit b) _ _ (λ g. g ≡ got n rest → ((b ∷ bs) ≡ decimal n ++ rest) × NoDigit rest × (n ≤ most))
    (λ d e.
    let s = digits_only most (b - 48) bs n rest e in
    let low = digit_low b d in
    let v : read_on 0 (b ∷ s.ds) ≡ n = ap (λ k. read_on k s.ds) (zero-add (b - 48)) ∙ sym s.value in
    let spell = decimal-digits_value own (b ∷ s.ds) (and_from _ _ d s.digits) (omega arith) (λ z. ap (λ l. suc (length l)) (s.lone (omega arith))) (omega (arith, v, s.fits)) in
    (ap (λ l. b ∷ l) s.split ∙ ap (λ l. l ++ rest) (sym spell ∙ ap decimal v), s.ends, s.fits))
    (λ _ e. let z : ◌≡◌ {A = ℕ} 0 1 = cc in absurd (omega arith))

-- signed numbers
no_minus : (ds rest : List ℕ) → all_ascii_digits ds ≡ true → 0 < length ds → bytes_at (45 ∷ []) (ds ++ rest) ≡ bad
no_minus [] rest a h = absurd (omega arith)
no_minus (c ∷ cs) rest a h = cond-false _ _ _ (ne_eqb c 45 (λ e. omega (arith, digit_low c (and_parts (is_ascii_digit c) (all_ascii_digits cs) a).0)))

pub number_back : (z : ℤ) (rest : List ℕ) → SFits w32 z → NoDigit rest → number_at (signed_decimal z ++ rest) ≡ got z rest
number_back (pos n) rest f e =
    let big : n < 2 ^ 64 = omega (arith, f.sfits) in
    unsigned (decimal n ++ rest) (no_minus (decimal n) rest (digits_decimal own n big) (decimal_nonempty n big)) ∙ ap positive (magnitude_back (2 ^ 31 - 1) n rest (omega (arith, f.sfits)) big e)
number_back (negsuc n) rest f e = ap negative (magnitude_back (2 ^ 31) (suc n) rest (omega (arith, f.sfits)) (omega (arith, f.sfits)) e) ∙ cond-false _ _ _ (ne_eqb (suc n) 0 (λ z. omega arith))

positive_only : (g : Got ℕ) (z : ℤ) (rest : List ℕ) → positive g ≡ got z rest → (n : ℕ) × (g ≡ got n rest) × (z ≡ pos n)
positive_only (got n bs) z rest e = (n, cc, cc)
positive_only bad z rest e = let k : ◌≡◌ {A = ℕ} 0 1 = cc in absurd (omega arith)

negative_only : (g : Got ℕ) (z : ℤ) (rest : List ℕ) → negative g ≡ got z rest → (n : ℕ) × (g ≡ got n rest) × (n ≡ 0 → ⊥) × (z ≡ neg_ℤ (pos n))
negative_only (got n bs) z rest =
    cond_both (eqb n 0) _ _ (λ g. g ≡ got z rest → (m : ℕ) × (got n bs ≡ got m rest) × (m ≡ 0 → ⊥) × (z ≡ neg_ℤ (pos m)))
    (λ _ e. let k : ◌≡◌ {A = ℕ} 0 1 = cc in absurd (omega arith))
    (λ nz e. (n, cc, eqb-false n 0 nz, cc))
negative_only bad z rest = λ e. let k : ◌≡◌ {A = ℕ} 0 1 = cc in absurd (omega arith)

negated : (n : ℕ) (z : ℤ) → (n ≡ 0 → ⊥) → z ≡ neg_ℤ (pos n) → n ≤ 2 ^ 31 → (signed_decimal z ≡ 45 ∷ decimal n) × SFits w32 z
negated zero z nz e h = absurd (nz refl)
negated (suc n) z nz e h = (ap signed_decimal e, subst (SFits w32) (sym e) (record { sfits = omega arith }))

pub number_only : (bs : List ℕ) (z : ℤ) (rest : List ℕ) → number_at bs ≡ got z rest → (bs ≡ signed_decimal z ++ rest) × NoDigit rest × SFits w32 z
number_only [] z rest = λ e. let k : ◌≡◌ {A = ℕ} 0 1 = cc in absurd (omega arith)
number_only (b ∷ bs) z rest =
    cond_both (eqb b 45) _ _ (λ g. g ≡ got z rest → ((b ∷ bs) ≡ signed_decimal z ++ rest) × NoDigit rest × SFits w32 z)
    (λ m e.
    let p = negative_only (magnitude_at (2 ^ 31) bs) z rest e in
    let q = magnitude_only (2 ^ 31) bs p.0 rest (omega arith) p.1 in
    let s = negated p.0 z p.2 p.3 q.2 in
    (ap (λ c. c ∷ bs) (eqb-true b 45 m) ∙ ap (λ l. 45 ∷ l) q.0 ∙ ap (λ l. l ++ rest) (sym s.0), q.1, s.1))
    (λ _ e.
    let p = positive_only (magnitude_at (2 ^ 31 - 1) (b ∷ bs)) z rest e in
    let q = magnitude_only (2 ^ 31 - 1) (b ∷ bs) p.0 rest (omega arith) p.1 in
    (q.0 ∙ ap (λ y. signed_decimal y ++ rest) (sym p.2), q.1, subst (SFits w32) (sym p.2) (record { sfits = omega (arith, q.2) })))
