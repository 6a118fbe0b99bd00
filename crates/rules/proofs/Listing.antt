-- Reading a list after adding, replacing and taking.
use Rattle.std.proofs.Common.{◌≡◌, ℕ, zero, suc, Bool, true, false, cond, ◌&&◌, ◌||◌, eqb, ◌⊎◌, List, [], ◌∷◌, length, get_or, take, set, Some, None, Option, sym, refl, ap, ◌∙◌, inl, inr, arith}
use Rattle.std.proofs.lemmas.Bool.Decides.{nat_tests}
use Rattle.script.specs.Layout.{every}
use Rattle.rules.specs.Lists.{update, nth, snoc, Placed, later, oldest, without}

pub either : (b : Bool) → (b ≡ true) ⊎ (b ≡ false)
either true = inl refl
either false = inr refl

pub clash : {A : Type 0} {b : Bool} → b ≡ true → b ≡ false → A
clash p q = let z : ◌≡◌ {A = ℕ} 0 1 = cc in absurd (omega arith)

pub no_some : {A X : Type 0} {x : X} {y : Option X} → y ≡ None → y ≡ Some x → A
no_some {x = x} {y = y} p q = let z : ◌≡◌ {A = ℕ} 0 1 = cc in absurd (omega arith)

pub some_one : {X : Type 0} {x y : X} {z : Option X} → z ≡ Some x → z ≡ Some y → x ≡ y
some_one {x = x} {y = y} {z = z} p q = cc

pub eq_refl : (n : ℕ) → eqb n n ≡ true
eq_refl n = grind (arith, nat_tests)

pub eq_is : (a b : ℕ) → eqb a b ≡ true → a ≡ b
eq_is a b e = grind (arith, nat_tests)

pub not_eq : (a b : ℕ) → (a ≡ b → ⊥) → eqb a b ≡ false
not_eq a b h = elim (either (eqb a b)) [ inl e ↦ absurd (h (eq_is a b e)) | inr e ↦ e ]

pub both_left : (a b : Bool) → (a && b) ≡ true → a ≡ true
both_left true b h = refl
both_left false b h = h

pub both_right : (a b : Bool) → (a && b) ≡ true → b ≡ true
both_right true b h = h
both_right false b h = clash h refl

pub or_cases : (a b : Bool) → (a || b) ≡ true → (a ≡ true) ⊎ (b ≡ true)
or_cases true b h = inl refl
or_cases false b h = inr h

pub or_right : (a b : Bool) → b ≡ true → (a || b) ≡ true
or_right true b h = refl
or_right false b h = h

-- one case of a condition, and the same case of two
pub pick_one : {A : Type 0} (P : A → Type 0) (b : Bool) (x y : A) → (b ≡ true → P x) → (b ≡ false → P y) → P (cond b x y)
pick_one P true x y h k = h refl
pick_one P false x y h k = k refl

pub pick_two : {A B : Type 0} (R : A → B → Type 0) (b : Bool) (x y : A) (z w : B) → (b ≡ true → R x z) → (b ≡ false → R y w) → R (cond b x y) (cond b z w)
pick_two R true x y z w h k = h refl
pick_two R false x y z w h k = k refl

pub update_one : {A : Type 0} (P : A → Type 0) (f : ℕ → A) (i j : ℕ) (v : A) → (i ≡ j → P v) → P (f j) → P (update f i v j)
update_one P f i j v h k = elim (either (eqb i j)) [ inl e ↦ rw e (h (eq_is i j e)) | inr e ↦ rw e k ]

pub update_two : {A B : Type 0} (R : A → B → Type 0) (f : ℕ → A) (g : ℕ → B) (i j : ℕ) (v : A) (w : B) → (i ≡ j → R v w) → R (f j) (g j)
    → R (update f i v j) (update g i w j)
update_two R f g i j v w h k = elim (either (eqb i j)) [ inl e ↦ rw e (h (eq_is i j e)) | inr e ↦ rw e k ]

-- a test that all elements pass, and the default too, is passed by what is read
pub every_at : {X : Type 0} (test : X → Bool) (xs : List X) (d : X) (i : ℕ) → every test xs ≡ true → test d ≡ true → test (get_or xs i d) ≡ true
every_at test [] d i h k = k
every_at test (x ∷ xs) d zero h k = both_left _ _ h
every_at test (x ∷ xs) d (suc i) h k = every_at test xs d i (both_right _ _ h) k

pub every-nth : {X : Type 0} (test : X → Bool) (xs : List X) (i : ℕ) (x : X) → every test xs ≡ true → nth xs i ≡ Some x → test x ≡ true
every-nth test [] i x h e = no_some refl e
every-nth test (y ∷ xs) zero x h e = let q : y ≡ x = some_one refl e in rw q at (both_left (test y) (every test xs) h)
every-nth test (y ∷ xs) (suc i) x h e = every-nth test xs i x (both_right _ _ h) e

pub every_take : {X : Type 0} (test : X → Bool) (n : ℕ) (xs : List X) → every test xs ≡ true → every test (take n xs) ≡ true
every_take test zero xs h = refl
every_take test (suc n) [] h = refl
every_take test (suc n) (x ∷ xs) h = rw (both_left (test x) (every test xs) h) (every_take test n xs (both_right (test x) (every test xs) h))

-- NTH

pub nth_old : {X : Type 0} (xs : List X) (y : X) (i : ℕ) (x : X) → nth xs i ≡ Some x → nth (snoc xs y) i ≡ Some x
nth_old [] y i x e = no_some refl e
nth_old (z ∷ xs) y zero x e = e
nth_old (z ∷ xs) y (suc i) x e = nth_old xs y i x e

pub nth_last : {X : Type 0} (xs : List X) (y : X) → nth (snoc xs y) (length xs) ≡ Some y
nth_last [] y = refl
nth_last (z ∷ xs) y = nth_last xs y

pub nth_beyond : {X : Type 0} (xs : List X) → nth xs (length xs) ≡ None
nth_beyond [] = refl
nth_beyond (z ∷ xs) = nth_beyond xs

pub nth-snoc : {X : Type 0} (xs : List X) (y : X) (i : ℕ) (x : X) → nth (snoc xs y) i ≡ Some x → (nth xs i ≡ Some x) ⊎ ((i ≡ length xs) × (y ≡ x))
nth-snoc [] y zero x e = inr (refl, some_one refl e)
nth-snoc [] y (suc i) x e = no_some refl e
nth-snoc (z ∷ xs) y zero x e = inl e
nth-snoc (z ∷ xs) y (suc i) x e = elim (nth-snoc xs y i x e) [ inl h ↦ inl h | inr h ↦ inr (ap suc h.0, h.1) ]

pub nth-put : {X : Type 0} (xs : List X) (i : ℕ) (y z : X) → nth xs i ≡ Some z → nth (set xs i y) i ≡ Some y
nth-put [] i y z e = no_some refl e
nth-put (w ∷ xs) zero y z e = refl
nth-put (w ∷ xs) (suc i) y z e = nth-put xs i y z e

pub nth_other : {X : Type 0} (xs : List X) (i j : ℕ) (y : X) → (i ≡ j → ⊥) → nth (set xs i y) j ≡ nth xs j
nth_other [] i j y h = refl
nth_other (w ∷ xs) zero zero y h = absurd (h refl)
nth_other (w ∷ xs) zero (suc j) y h = refl
nth_other (w ∷ xs) (suc i) zero y h = refl
nth_other (w ∷ xs) (suc i) (suc j) y h = nth_other xs i j y (λ e. h (ap suc e))

pub nth-set : {X : Type 0} (xs : List X) (i : ℕ) (y : X) (j : ℕ) (x : X) → nth (set xs i y) j ≡ Some x → (nth xs j ≡ Some x) ⊎ (y ≡ x)
nth-set [] i y j x e = inl e
nth-set (w ∷ xs) zero y zero x e = inr (some_one refl e)
nth-set (w ∷ xs) zero y (suc j) x e = inl e
nth-set (w ∷ xs) (suc i) y zero x e = inl e
nth-set (w ∷ xs) (suc i) y (suc j) x e = nth-set xs i y j x e

-- where an element stood before another one was taken
abbrev pub skip : ℕ → ℕ → ℕ
skip zero i = suc i
skip (suc q) zero = zero
skip (suc q) (suc i) = suc (skip q i)

pub nth-without : {X : Type 0} (q : ℕ) (xs : List X) (i : ℕ) → nth (without q xs) i ≡ nth xs (skip q i)
nth-without zero [] i = refl
nth-without (suc q) [] i = refl
nth-without zero (x ∷ xs) i = refl
nth-without (suc q) (x ∷ xs) zero = refl
nth-without (suc q) (x ∷ xs) (suc i) = nth-without q xs i

suc_one : (a b : ℕ) → suc a ≡ suc b → a ≡ b
suc_one a b e = omega arith

pub skip_one : (q i j : ℕ) → skip q i ≡ skip q j → i ≡ j
skip_one zero i j e = suc_one i j e
skip_one (suc q) zero zero e = refl
skip_one (suc q) zero (suc j) e = absurd (omega arith)
skip_one (suc q) (suc i) zero e = absurd (omega arith)
skip_one (suc q) (suc i) (suc j) e = ap suc (skip_one q i j (suc_one _ _ e))

pub skip_other : (q i : ℕ) → skip q i ≡ q → ⊥
skip_other zero i e = omega arith
skip_other (suc q) zero e = omega arith
skip_other (suc q) (suc i) e = skip_other q i (suc_one _ _ e)

pub length_without : {X : Type 0} (q : ℕ) (xs : List X) (x : X) → nth xs q ≡ Some x → length xs ≡ suc (length (without q xs))
length_without zero [] x e = no_some refl e
length_without (suc q) [] x e = no_some refl e
length_without zero (y ∷ xs) x e = refl
length_without (suc q) (y ∷ xs) x e = ap suc (length_without q xs x e)

pub length-snoc : {X : Type 0} (xs : List X) (y : X) → length (snoc xs y) ≡ suc (length xs)
length-snoc [] y = refl
length-snoc (x ∷ xs) y = ap suc (length-snoc xs y)

pub get_or-nth : {X : Type 0} (xs : List X) (i : ℕ) (d x : X) → nth xs i ≡ Some x → get_or xs i d ≡ x
get_or-nth [] i d x e = no_some refl e
get_or-nth (y ∷ xs) zero d x e = some_one refl e
get_or-nth (y ∷ xs) (suc i) d x e = get_or-nth xs i d x e

pub get_or_cases : {X : Type 0} (P : X → Type 0) (xs : List X) (i : ℕ) (d : X) → P d → ((x : X) → nth xs i ≡ Some x → P x) → P (get_or xs i d)
get_or_cases P [] i d h k = h
get_or_cases P (y ∷ xs) zero d h k = k y refl
get_or_cases P (y ∷ xs) (suc i) d h k = get_or_cases P xs i d h k

-- what is found stands there, and passes the test
oldest-later : {X : Type 0} (P : Placed X → Type 0) (p : Placed X) (found : Option (Placed X)) → later found ≡ Some p
    → ((q : Placed X) → found ≡ Some q → P (record { place = suc q.place; element = q.element })) → P p
oldest-later P p None e h = no_some refl e
oldest-later P p (Some q) e h = let k = some_one refl e in rw k at (h q refl)

pub oldest-nth : {X : Type 0} (test : X → Bool) (xs : List X) (p : Placed X) → oldest test xs ≡ Some p
    → (nth xs p.place ≡ Some p.element) × (test p.element ≡ true)
oldest-nth test [] p e = no_some refl e
oldest-nth test (x ∷ xs) p e =
    elim (either (test x)) [
      | inl t ↦ let q = some_one refl (rw t at e) in rw (← q) (refl, t)
      | inr t ↦ oldest-later (λ p. (nth (x ∷ xs) p.place ≡ Some p.element) × (test p.element ≡ true)) p (oldest test xs) (rw t at e)
          (λ q. oldest-nth test xs q)
    ]

-- EACH ELEMENT

abbrev pub Each : {X : Type 0} → (X → Type 0) → List X → Type 0
Each {X = X} P xs = (i : ℕ) (x : X) → nth xs i ≡ Some x → P x

pub each_snoc : {X : Type 0} (P : X → Type 0) (xs : List X) (y : X) → Each P xs → P y → Each P (snoc xs y)
each_snoc P xs y h k i x e = elim (nth-snoc xs y i x e) [ inl d ↦ h i x d | inr d ↦ rw d.1 at k ]

pub each_set : {X : Type 0} (P : X → Type 0) (xs : List X) (i : ℕ) (y : X) → Each P xs → P y → Each P (set xs i y)
each_set P xs i y h k j x e = elim (nth-set xs i y j x e) [ inl d ↦ h j x d | inr d ↦ rw d at k ]

pub each_without : {X : Type 0} (P : X → Type 0) (q : ℕ) (xs : List X) → Each P xs → Each P (without q xs)
each_without P q xs h i x e = h (skip q i) x (sym (nth-without q xs i) ∙ e)

-- LONGER LISTS

abbrev pub Longer : {X : Type 0} → List X → List X → Type 0
Longer {X = X} xs ys = (i : ℕ) (x : X) → nth xs i ≡ Some x → nth ys i ≡ Some x
