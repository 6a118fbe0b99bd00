-- What a write to one level's part of a table leaves of every part. Assumes nothing.
use Rattle.std.proofs.Common.{◌≡◌, ℕ, zero, suc, ◌+◌, ◌-◌, ◌*◌, ◌/◌, ◌<◌, ◌≤◌, true, List, [], ◌∷◌, ◌++◌, length, take, drop, Some, None, Ok, Err, Option, Result, sym, refl, ap, ◌∙◌, subst, ⊎_elim, mul-le-mul_right, suc-mul, le-div_iff_mul-le, arith, MatchResult}
use native.Mathlib.Nat.{div-zero}
use borrow.Rule.Slice.PartMut.{put_mid}
use Rattle.std.proofs.lemmas.Slice.{between_is, take-put_mid_below, drop-put_mid, between-put_mid}
use Rattle.std.proofs.lemmas.List.Edits.{length-between}
use Rattle.std.proofs.lemmas.List.{take-append-drop, length-append, length-take, length-drop}
use Rattle.std.proofs.lemmas.Bool.{cases_lt, cases_eq, and_parts, and_from}
use Rattle.line.specs.Slots.{elements, free, compact}
use Rattle.line.specs.Tables.{HasLevel, OthersStay, part, packed_below, packed}
use Rattle.line.proofs.Lines.{free-compact}

-- the part of a lower level ends before that of a higher one starts. What is said of two levels rests on this alone, and
-- is else linear in where their parts start
pub ends_before : (room m n : ℕ) → m < n → m * room + room ≤ n * room
ends_before room m n h = let above : suc m ≤ n = omega arith in omega (arith, suc-mul m room, mul-le-mul_right room above)

pub length_part : {X : Type 0} (room level : ℕ) (table : List X) → HasLevel room level table → length (part room level table) ≡ room
length_part room level table h = length-between table (level * room) (level * room + room) h ∙ omega arith

-- a packed table is compact at each level below n, and the other way round
below_at : {X : Type 0} (room n : ℕ) (table : List (Option X)) → packed_below room n table ≡ true → (level : ℕ) → level < n → compact (part room level table) ≡ true
below_at room zero table p level h = absurd (omega arith)
below_at room (suc n) table p level h =
    let b = and_parts (compact (part room n table)) (packed_below room n table) p in
    ⊎_elim (λ e. subst (λ m. compact (part room m table) ≡ true) (sym e) b.0) (λ ne. below_at room n table b.1 level (omega (arith, ne))) (cases_eq level n)

below_from : {X : Type 0} (room n : ℕ) (table : List (Option X)) → ((level : ℕ) → level < n → compact (part room level table) ≡ true) → packed_below room n table ≡ true
below_from room zero table k = refl
below_from room (suc n) table k = and_from (compact (part room n table)) (packed_below room n table) (k n (omega arith)) (below_from room n table (λ level h. k level (omega arith)))

-- a level is one of those that the table has room for exactly if the table has all its slots
level_counts : (room level long : ℕ) → 0 < room → level * room + room ≤ long → level < long / room
level_counts room level long pos h = let fits : suc level * room ≤ long = omega (arith, suc-mul level room) in omega (arith, (le-div_iff_mul-le pos).1 fits)

level_fits : (room level long : ℕ) → 0 < room → level < long / room → level * room + room ≤ long
level_fits room level long pos h = let counts : suc level ≤ long / room = omega arith in omega (arith, suc-mul level room, (le-div_iff_mul-le pos).0 counts)

pub packed_at : {X : Type 0} (room level : ℕ) (table : List (Option X)) → packed room table ≡ true → HasLevel room level table → compact (part room level table) ≡ true
unfolding packed
packed_at room level table p h =
    ⊎_elim
    (λ pos. below_at room (length table / room) table p level (level_counts room level (length table) pos h))
    (λ none. let e : level * room + room - level * room ≡ 0 = omega arith in ap (λ n. compact (take n (drop (level * room) table))) e)
    (cases_lt 0 room)

pub packed_from : {X : Type 0} (room : ℕ) (table : List (Option X)) → ((level : ℕ) → HasLevel room level table → compact (part room level table) ≡ true) → packed room table ≡ true
unfolding packed
packed_from room table k =
    ⊎_elim
    (λ pos. below_from room (length table / room) table (λ level h. k level (level_fits room level (length table) pos h)))
    (λ none. let e : room ≡ 0 = omega arith in ap (λ n. packed_below room n table) (ap (λ r. length table / r) e ∙ div-zero (length table)))
    (cases_lt 0 room)

-- a table whose slots are all free is packed
module _ {X : Type 0} where
  pub free-take : (n : ℕ) (slots : List (Option X)) → free slots ≡ true → free (take n slots) ≡ true
  free-take zero slots f = refl
  free-take (suc n) [] f = f
  free-take (suc n) (Some x ∷ slots) f = f
  free-take (suc n) (None ∷ slots) f = free-take n slots f

  pub free-drop : (n : ℕ) (slots : List (Option X)) → free slots ≡ true → free (drop n slots) ≡ true
  free-drop zero slots f = f
  free-drop (suc n) [] f = f
  free-drop (suc n) (Some x ∷ slots) f = let z : ◌≡◌ {A = ℕ} 0 1 = cc in absurd (omega arith)
  free-drop (suc n) (None ∷ slots) f = free-drop n slots f

  pub packed-free : (room : ℕ) (table : List (Option X)) → free table ≡ true → packed room table ≡ true
  packed-free room table f = packed_from room table (λ level h. free-compact (part room level table) (free-take (level * room + room - level * room) (drop (level * room) table) (free-drop (level * room) table f)))

-- ys is written over the part of a level
module _ {X : Type 0} (room level : ℕ) (xs ys : List X) (within : HasLevel room level xs) (full : length ys ≡ level * room + room - level * room) where
  abbrev written : List X
  written = put_mid (level * room) (level * room + room - level * room) xs ys

  written-length : length written ≡ length xs
  written-length = simp (length-append, length-take, length-drop) (omega arith)

  written-part : part room level written ≡ ys
  written-part = between-put_mid (level * room) _ xs ys (level * room + room) (omega arith) full

  written_others : OthersStay room level xs written
  written_others m apart =
      ⊎_elim
      (λ below. between_is written (m * room) (m * room + room) ∙ ap (drop (m * room)) (take-put_mid_below (level * room) _ xs ys (m * room + room) (ends_before room m level below) (omega arith)) ∙ sym (between_is xs (m * room) (m * room + room)))
      (λ above. let h = ends_before room level m (omega (arith, apart)) in ap (take (m * room + room - m * room)) (drop-put_mid (level * room) _ xs ys (m * room) (omega (arith, h)) (omega arith) full))
      (cases_lt m level)

  written_back : ys ≡ part room level xs → written ≡ xs
  written_back e =
      ap (λ zs. take (level * room) xs ++ (zs ++ drop (level * room + room - level * room) (drop (level * room) xs))) e ∙ ap (λ zs. take (level * room) xs ++ zs) (take-append-drop (level * room + room - level * room) (drop (level * room) xs)) ∙ take-append-drop (level * room) xs

-- a table before and after the part of a level was lent for writing, where `slots` is that part as it came back
pub record Lent {X : Type 0} (room level : ℕ) (before after : List (Option X)) (slots : List (Option X)) : Type 0 where
  pub same : part room level after ≡ slots
  pub others : OthersStay room level before after
  pub back : slots ≡ part room level before → after ≡ before
  pub stays : packed room before ≡ true → compact slots ≡ true → packed room after ≡ true

-- `kept` is the `.kept .slots` of the call that the part was lent to
pub lent : {X : Type 0} (room level : ℕ) (xs ys : List (Option X)) → HasLevel room level xs → length ys ≡ length (part room level xs) → Lent room level xs (put_mid (level * room) (level * room + room - level * room) xs ys) ys
lent room level xs ys within kept =
    let full : length ys ≡ level * room + room - level * room = kept ∙ length-between xs (level * room) (level * room + room) within in
    let after = put_mid (level * room) (level * room + room - level * room) xs ys in
    let same = written-part room level xs ys within full in
    let others = written_others room level xs ys within full in
    let long = written-length room level xs ys within full in
    record {
      same = same;
      others = others;
      back = written_back room level xs ys within full;
      stays =
          λ p k. packed_from room after (λ m h. ⊎_elim
          (λ e. subst (λ n. compact (part room n after) ≡ true) (sym e) (rw same k))
          (λ ne. rw (others m ne) (packed_at room m xs p (omega (arith, long))))
          (cases_eq m level));
    }

-- what `add` tells of a lent part, told of the table
pub lent_add : {X : Type 0} (room level : ℕ) (before after slots : List (Option X)) → Lent room level before after slots → (r : Result ℕ X) (e : X) → MatchResult r (λ place. (place ≡ length (elements (part room level before))) × (elements slots ≡ elements (part room level before) ++ e ∷ [])) (λ y. (y ≡ e) × (slots ≡ part room level before)) → MatchResult r (λ place. (place ≡ length (elements (part room level before))) × (elements (part room level after) ≡ elements (part room level before) ++ e ∷ [])) (λ y. (y ≡ e) × (after ≡ before))
lent_add room level before after slots l (Ok place) e told = (told.0, ap elements l.same ∙ told.1)
lent_add room level before after slots l (Err y) e told = (told.0, l.back told.1)
