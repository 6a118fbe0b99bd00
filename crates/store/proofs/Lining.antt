-- The lines of a table, as the rules see them: what is done to the elements of a level's part, said of the lines.
use Rattle.std.proofs.Common.{◌≡◌, ℕ, zero, suc, ◌+◌, ◌-◌, ◌*◌, ◌<◌, ◌≤◌, Bool, true, false, eqb, ltb, List, [], ◌∷◌, ◌++◌, map, length, get_or, replicate, take, drop, set, is_ok, is_some, MatchResult, Some, None, Ok, Err, Option, Result, sym, refl, ap, ◌∙◌, inl, inr, add-zero, zero-add, mul-le-mul_right, arith}
use mathlib.Core.Path.{fun_ext}
use Rattle.std.specs.Option.{option_map}
use Rattle.std.specs.List.{remove}
use Rattle.std.proofs.Math.Seq.{take-nil}
use Rattle.std.proofs.lemmas.List.{length-map, length-take, map_push, map-set, drop_all}
use Rattle.std.proofs.lemmas.Bool.{cases_eq, cases_Bool, cond-true, cond-false, eq-eqb, ne_eqb}
use Rattle.line.specs.Slots.{elements, free, nth as nth_slot, oldest_from, oldest as oldest_slot}
use Rattle.line.specs.Tables.{part, OthersStay}
use Rattle.line.proofs.Lines.{count_within, free-elements}
use Rattle.line.proofs.Parts.{free-take, free-drop}
use Rattle.rules.specs.Lists.{update, added, Placed, later, oldest, without, nth}
use Rattle.store.specs.declared.table.Table.{Table}
use Rattle.store.specs.Lines.{lines_of, found_of}

-- OF LISTS

pub nth-map : {X Y : Type 0} (f : X → Y) (xs : List X) (i : ℕ) → option_map f (nth xs i) ≡ nth (map f xs) i
nth-map f [] i = refl
nth-map f (x ∷ xs) zero = refl
nth-map f (x ∷ xs) (suc i) = nth-map f xs i

nth_slot-map : {X Y : Type 0} (f : X → Y) (xs : List X) (i : ℕ) → option_map f (nth_slot xs i) ≡ nth (map f xs) i
nth_slot-map f [] i = refl
nth_slot-map f (x ∷ xs) zero = refl
nth_slot-map f (x ∷ xs) (suc i) = nth_slot-map f xs i

nth-kept : {X Y : Type 0} (f : X → Y) (xs : List X) (i : ℕ) (x : X) → i < length xs → x ≡ get_or xs i x → Some (f x) ≡ nth (map f xs) i
nth-kept f [] i x h e = absurd (omega arith)
nth-kept f (y ∷ xs) zero x h e = ap (λ z. Some (f z)) e
nth-kept f (y ∷ xs) (suc i) x h e = nth-kept f xs i x (omega arith) e

nth-within : {X : Type 0} (xs : List X) (i : ℕ) (x : X) → Some x ≡ nth_slot xs i → i < length xs
nth-within [] i x h = let z : ◌≡◌ {A = ℕ} 0 1 = cc in absurd (omega arith)
nth-within (y ∷ xs) zero x h = omega arith
nth-within (y ∷ xs) (suc i) x h = let w = nth-within xs i x h in omega arith

-- one that is put or taken where none stands changes nothing
pub set-none : {X Y : Type 0} (f : X → Y) (xs : List X) (i : ℕ) (y : Y) → is_some (nth_slot xs i) ≡ false → set (map f xs) i y ≡ map f xs
set-none f [] i y h = refl
set-none f (x ∷ xs) zero y h = let z : ◌≡◌ {A = ℕ} 0 1 = cc in absurd (omega arith)
set-none f (x ∷ xs) (suc i) y h = ap (λ l. f x ∷ l) (set-none f xs i y h)

pub without-none : {X Y : Type 0} (f : X → Y) (xs : List X) (i : ℕ) → None ≡ nth_slot xs i → without i (map f xs) ≡ map f xs
without-none f [] zero h = refl
without-none f [] (suc i) h = refl
without-none f (x ∷ xs) zero h = let z : ◌≡◌ {A = ℕ} 0 1 = cc in absurd (omega arith)
without-none f (x ∷ xs) (suc i) h = ap (λ l. f x ∷ l) (without-none f xs i h)

pub map_removed : {X Y : Type 0} (f : X → Y) (xs : List X) (i : ℕ) → map f (remove xs i) ≡ without i (map f xs)
map_removed f [] zero = refl
map_removed f [] (suc i) = refl
map_removed f (y ∷ ys) zero = refl
map_removed f (y ∷ ys) (suc i) = ap (λ l. f y ∷ l) (map_removed f ys i)

pub map-without : {X Y : Type 0} (f : X → Y) (xs : List X) (i : ℕ) → map f (without i xs) ≡ without i (map f xs)
map-without f [] zero = refl
map-without f [] (suc i) = refl
map-without f (y ∷ ys) zero = refl
map-without f (y ∷ ys) (suc i) = ap (λ l. f y ∷ l) (map-without f ys i)

-- what is set past the end changes nothing
pub set_past : {X : Type 0} (xs : List X) (i : ℕ) (x : X) → length xs ≤ i → set xs i x ≡ xs
set_past [] i x h = refl
set_past (y ∷ ys) zero x h = absurd (omega arith)
set_past (y ∷ ys) (suc i) x h = ap (λ l. y ∷ l) (set_past ys i x (omega arith))

pub free-new : (X : Type 0) (n : ℕ) → free {X = X} (replicate n None) ≡ true
free-new X zero = refl
free-new X (suc n) = free-new X n

-- what is set to what it is changes nothing
pub updated_same : {X : Type 0} (f : ℕ → X) (level : ℕ) (x : X) → x ≡ f level → f ≡ update f level x
updated_same f level x e =
    fun_ext (λ k. elim (cases_eq level k) [
      | inl same ↦ ap f (sym same) ∙ sym e ∙ sym (cond-true (eqb level k) x (f k) (eq-eqb level k same))
      | inr apart ↦ sym (cond-false (eqb level k) x (f k) (ne_eqb level k apart))
    ])

-- what was found, counted from n
abbrev shifted : {X : Type 0} → ℕ → Option (Placed X) → Option (Placed X)
shifted n None = None
shifted n (Some p) = Some (record { place = n + p.place; element = p.element })

shifted-later : {X : Type 0} (n : ℕ) (o : Option (Placed X)) → shifted (n + 1) o ≡ shifted n (later o)
shifted-later n None = refl
shifted-later n (Some p) = let e : n + 1 + p.place ≡ n + suc p.place = omega arith in ap (λ k. Some (record { place = k; element = p.element })) e

shifted_none : {X : Type 0} (o : Option (Placed X)) → shifted 0 o ≡ o
shifted_none None = refl
shifted_none (Some p) = ap (λ k. Some (record { place = k; element = p.element })) (zero-add p.place)

module _ {X Y : Type 0} (f : X → Y) (of_key : X → Bool) (test : Y → Bool) (agrees : (x : X) → of_key x ≡ test (f x)) where
  looked_from : (n : ℕ) (xs : List X) → option_map (found_of f) (oldest_from n of_key xs) ≡ shifted n (oldest test (map f xs))
  looked_from n [] = refl
  looked_from n (x ∷ xs) =
      elim (cases_Bool (test (f x))) [
        | inl t ↦ rw (agrees x, t) (ap (λ k. Some (record { place = k; element = f x })) (sym (add-zero n)))
        | inr t ↦ rw (agrees x, t) (looked_from (n + 1) xs ∙ shifted-later n (oldest test (map f xs)))
      ]

  pub looked : (xs : List X) → option_map (found_of f) (oldest_slot of_key xs) ≡ oldest test (map f xs)
  looked xs = looked_from 0 xs ∙ shifted_none (oldest test (map f xs))

-- OF TABLES

module _ {X Y : Type 0} {room slots : ℕ} (f : X → Y) where
  -- the elements at a level
  abbrev at : Table X room slots → ℕ → List X
  at table level = elements (part room level table.slots)

  pub length_lines : (table : Table X room slots) (level : ℕ) → length (lines_of f table level) ≡ length (at table level)
  unfolding lines_of
  length_lines table level = length-map (at table level) f

  -- at most so many stand at a level
  pub few : (table : Table X room slots) (level : ℕ) → length (lines_of f table level) ≤ room
  few table level =
      let size = length_lines table level in
      let within = count_within (part room level table.slots) in
      let long = length-take (level * room + room - level * room) (drop (level * room) table.slots) in omega arith

  pub nth_lines : (table : Table X room slots) (level place : ℕ) → option_map f (nth_slot (at table level) place) ≡ nth (lines_of f table level) place
  unfolding lines_of
  nth_lines table level place = nth_slot-map f (at table level) place

  -- past the eighth level nothing stands
  pub nth_past : (table : Table X room slots) (level place : ℕ) → 8 ≤ level → nth (lines_of f table level) place ≡ None
  unfolding lines_of
  nth_past table level place h =
      let most = mul-le-mul_right room h in
      let long : length table.slots ≤ level * room = omega (arith, table.size) in
      ap (λ xs. nth (map f (elements (take (level * room + room - level * room) xs))) place) (drop_all (level * room) table.slots long)
      ∙ ap (λ xs. nth (map f (elements xs)) place) (take-nil (level * room + room - level * room))

  pub oldest_lines : (table : Table X room slots) (level : ℕ) (of_key : X → Bool) (test : Y → Bool) → ((x : X) → of_key x ≡ test (f x))
      → option_map (found_of f) (oldest_slot of_key (at table level)) ≡ oldest test (lines_of f table level)
  unfolding lines_of
  oldest_lines table level of_key test agrees = looked f of_key test agrees (at table level)

  pub no_lines : (table : Table X room slots) → free table.slots ≡ true → lines_of f table ≡ (λ level. [])
  unfolding lines_of
  no_lines table e = fun_ext (λ level. ap (map f) (free-elements (part room level table.slots) (free-take (level * room + room - level * room) (drop (level * room) table.slots) (free-drop (level * room) table.slots e))))

  -- a line is what it became, and the others are as they were
  pub lined : (before after : Table X room slots) (level : ℕ) (ys : List Y) → map f (at after level) ≡ ys → OthersStay room level before.slots after.slots → lines_of f after ≡ update (lines_of f before) level ys
  unfolding lines_of
  lined before after level ys e others =
      fun_ext (λ k. elim (cases_eq level k) [
        | inl same ↦ ap (lines_of f after) (sym same) ∙ e ∙ sym (cond-true (eqb level k) _ _ (eq-eqb level k same))
        | inr apart ↦ ap (λ slots. map f (elements slots)) (others k (λ q. apart (sym q))) ∙ sym (cond-false (eqb level k) _ _ (ne_eqb level k apart))
      ])

  pub lines_put : (before after : Table X room slots) (level place : ℕ) (e : X) → at after level ≡ set (at before level) place e → OthersStay room level before.slots after.slots
      → lines_of f after ≡ update (lines_of f before) level (set (lines_of f before level) place (f e))
  unfolding lines_of
  lines_put before after level place e is others = lined before after level _ (ap (map f) is ∙ map-set f (at before level) place e) others

  pub none_put : (table : Table X room slots) (level place : ℕ) (y : Y) → is_some (nth_slot (at table level) place) ≡ false
      → lines_of f table ≡ update (lines_of f table) level (set (lines_of f table level) place y)
  unfolding lines_of
  none_put table level place y none = updated_same (lines_of f table) level _ (set-none f (at table level) place y none)

  pub lines_taken : (before after : Table X room slots) (level place : ℕ) → at after level ≡ remove (at before level) place → OthersStay room level before.slots after.slots
      → lines_of f after ≡ update (lines_of f before) level (without place (lines_of f before level))
  unfolding lines_of
  lines_taken before after level place is others = lined before after level _ (ap (map f) is ∙ map_removed f (at before level) place) others

  pub none_taken : (table : Table X room slots) (level place : ℕ) → None ≡ nth_slot (at table level) place → lines_of f table ≡ update (lines_of f table) level (without place (lines_of f table level))
  unfolding lines_of
  none_taken table level place none = updated_same (lines_of f table) level _ (without-none f (at table level) place none)

  -- what is taken is what stood there
  pub taken_was : (table : Table X room slots) (level place : ℕ) (x : X) → place < length (at table level) → x ≡ get_or (at table level) place x → Some (f x) ≡ nth (lines_of f table level) place
  unfolding lines_of
  taken_was table level place x within is = nth-kept f (at table level) place x within is

  -- where something stands, the place is one of the line's
  pub within_lines : (table : Table X room slots) (level place : ℕ) (x : X) → Some x ≡ nth_slot (at table level) place → place < length (lines_of f table level)
  unfolding lines_of
  within_lines table level place x stands = rw (length-map (at table level) f) (nth-within (at table level) place x stands)

  -- one element more, or none where the line is full
  pub lines_added : (before after : Table X room slots) (level : ℕ) (e : X) (r : Result ℕ X)
      → is_ok r ≡ ltb (length (at before level)) room
      → MatchResult r (λ place. (place ≡ length (at before level)) × (at after level ≡ at before level ++ e ∷ [])) (λ y. (y ≡ e) × (after.slots ≡ before.slots))
      → OthersStay room level before.slots after.slots
      → lines_of f after ≡ update (lines_of f before) level (added room (lines_of f before level) (f e))
  unfolding lines_of
  lines_added before after level e (Ok place) accepts told others = lined before after level _ (rw (length-map (at before level) f, ← accepts) (ap (map f) told.1 ∙ map_push f (at before level) e)) others
  lines_added before after level e (Err y) accepts told others = lined before after level _ (rw (length-map (at before level) f, ← accepts) (ap (λ slots. map f (elements (part room level slots))) told.1)) others
