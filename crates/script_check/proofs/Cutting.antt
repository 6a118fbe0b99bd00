-- The lines of a text, and the parts that `split` gives.
use Rattle.std.proofs.Common.{◌≡◌, ℕ, zero, suc, ◌+◌, Bool, true, false, cond, not, eqb, List, [], ◌∷◌, take, drop, Some, None, Option, slice_get, refl, arith}
use Rattle.std.specs.List.{slice_split, onto_first}
use Rattle.script_check.specs.Lines.{to_feed, first_line, after_line, line_at}

-- a part, or no bytes
abbrev pub part : Option (List ℕ) → List ℕ
part None = []
part (Some x) = x

-- no bytes have no lines
no_lines : (n : ℕ) → line_at n [] ≡ []
no_lines zero = refl
no_lines (suc n) = no_lines n

onto_front : (b : ℕ) (parts : List (List ℕ)) → part (slice_get (onto_first b parts) 0) ≡ b ∷ part (slice_get parts 0)
onto_front b [] = refl
onto_front b (x ∷ xs) = refl

onto_later : (b n : ℕ) (parts : List (List ℕ)) → slice_get (onto_first b parts) (suc n) ≡ slice_get parts (suc n)
onto_later b n [] = refl
onto_later b n (x ∷ xs) = refl

-- one byte more, which is a line feed or not
front : (t : Bool) (b : ℕ) (bs : List ℕ) (parts : List (List ℕ)) → first_line bs ≡ part (slice_get parts 0)
    → take (cond (not t) (1 + to_feed bs) 0) (b ∷ bs) ≡ part (slice_get (cond t ([] ∷ parts) (onto_first b parts)) 0)
front true b bs parts e = refl
front false b bs parts e = let s : 1 + to_feed bs ≡ suc (to_feed bs) = omega arith in let f = onto_front b parts in rw (s, f, e)

later : (t : Bool) (b n : ℕ) (bs : List ℕ) (parts : List (List ℕ)) → line_at n bs ≡ part (slice_get parts n)
    → line_at n (after_line bs) ≡ part (slice_get parts (suc n))
    → line_at n (drop (cond (not t) (1 + to_feed bs) 0 + 1) (b ∷ bs)) ≡ part (slice_get (cond t ([] ∷ parts) (onto_first b parts)) (suc n))
later true b n bs parts here after = here
later false b n bs parts here after = let s : 1 + to_feed bs + 1 ≡ suc (to_feed bs + 1) = omega arith in let f = onto_later b n parts in rw (s, f, after)

-- the line with a number is the part with that number
pub line_part : (bs : List ℕ) (n : ℕ) → line_at n bs ≡ part (slice_get (slice_split (λ b. eqb b 10) bs) n)
line_part [] zero = refl
line_part [] (suc n) = no_lines n
line_part (b ∷ bs) zero = front (eqb b 10) b bs _ (line_part bs zero)
line_part (b ∷ bs) (suc n) = later (eqb b 10) b n bs _ (line_part bs n) (line_part bs (suc n))
