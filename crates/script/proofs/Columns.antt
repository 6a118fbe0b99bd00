-- A column is read from what is written of a value, and from nothing else.
use Rattle.std.proofs.Common.{◌≡◌, ℕ, ◌+◌, ◌-◌, ◌<◌, Bool, true, false, ◌&&◌, eqb, ltb, ℤ, pos, negsuc, Some, None, Option, sym, refl, ap, ◌∙◌, subst, arith, w32, SFits}
use Rattle.std.proofs.lemmas.Bool.{cond_both, cond-true, cond-false, and_parts, eqb-true, ltb-true, ltb-false, lt-ltb, le-ltb}
use Rattle.script.specs.declared.class.Variable.{Variable}
use Rattle.script.specs.declared.class.Variable.TheVariants.{Local, Field as OfObject}
use Rattle.script.specs.Rows.{is, and, when, below, variable, optional}
use Rattle.script.specs.Layout.{variable_column, optional_column, exists, exists_if_any, fits_32}
use Rattle.script.proofs.Lines.{none}

-- STEPS

pub by_and : {X Y : Type 0} (o : Option X) (k : X → Option Y) (y : Y) (P : Type 0) → and o k ≡ Some y → ((x : X) → o ≡ Some x → k x ≡ Some y → P) → P
by_and (Some x) k y P e f = f x refl e
by_and None k y P e f = none (cc)

pub by_when : {X : Type 0} (test : Bool) (o : Option X) (x : X) (P : Type 0) → when test o ≡ Some x → (test ≡ true → o ≡ Some x → P) → P
by_when true o x P e f = f refl e
by_when false o x P e f = none (cc)

-- PLAIN NUMBERS

pub is_only : (z : ℤ) (k : ℕ) → is z k ≡ true → z ≡ pos k
is_only (pos n) k e = ap pos (eqb-true n k e)
is_only (negsuc n) k e = none (cc)

pub below_only : (z : ℤ) (limit n : ℕ) → below z limit ≡ Some n → (z ≡ pos n) × (ltb n limit ≡ true)
below_only (pos m) limit n =
    cond_both (ltb m limit) (Some m) None (λ o. o ≡ Some n → (pos m ≡ pos n) × (ltb n limit ≡ true))
    (λ t e. let s : m ≡ n = cc in (ap pos s, ap (λ k. ltb k limit) (sym s) ∙ t))
    (λ _ e. none (cc))
below_only (negsuc m) limit n = λ e. none (cc)

pub below_back : (n limit : ℕ) → ltb n limit ≡ true → below (pos n) limit ≡ Some n
below_back n limit h = cond-true (ltb n limit) (Some n) None h

pub fits_only : (z : ℤ) → SFits w32 z → fits_32 z ≡ true
fits_only (pos n) h = lt-ltb n _ h.sfits
fits_only (negsuc n) h = lt-ltb n _ h.sfits

pub fits_back : (z : ℤ) → fits_32 z ≡ true → SFits w32 z
fits_back (pos n) h = record { sfits = ltb-true n _ h }
fits_back (negsuc n) h = record { sfits = ltb-true n _ h }

pub small_fits : (n : ℕ) → n < 64 → SFits w32 (pos n)
small_fits n h = record { sfits = omega arith }

pub minus_fits : SFits w32 (negsuc 0)
minus_fits = record { sfits = omega arith }

-- VARIABLES

pub variable_only : (fields : ℕ) (z : ℤ) (v : Variable) → variable fields z ≡ Some v → (z ≡ variable_column v) × (exists fields v ≡ true)
variable_only fields (negsuc n) v = λ e. none (cc)
variable_only fields (pos n) v =
    let P : Option Variable → Type 0 = λ o. o ≡ Some v → (pos n ≡ variable_column v) × (exists fields v ≡ true) in
    cond_both (ltb n 8) _ _ P
    (λ t e. let s : Local n ≡ v = cc in subst (λ w. (pos n ≡ variable_column w) × (exists fields w ≡ true)) s (refl, t))
    (λ f. cond_both (ltb (n - 8) 8 && ltb (n - 8) fields) _ _ P
    (λ t e.
    let s : OfObject (n - 8) ≡ v = cc in
    let back : n ≡ 8 + (n - 8) = omega (arith, ltb-false n 8 f) in
    subst (λ w. (pos n ≡ variable_column w) × (exists fields w ≡ true)) s (ap pos back, t))
    (λ _ e. none (cc)))

pub variable_back : (fields : ℕ) (v : Variable) → exists fields v ≡ true → variable fields (variable_column v) ≡ Some v
variable_back fields (Local n) h = cond-true (ltb n 8) _ _ h
variable_back fields (OfObject n) h =
    let high : ltb (8 + n) 8 ≡ false = le-ltb (8 + n) 8 (omega arith) in
    let back : 8 + n - 8 ≡ n = omega arith in
    cond-false (ltb (8 + n) 8) _ _ high ∙ ap (λ k. when (ltb k 8 && ltb k fields) (Some (OfObject k))) back ∙ cond-true (ltb n 8 && ltb n fields) _ _ h

pub variable_fits : (fields : ℕ) (v : Variable) → exists fields v ≡ true → SFits w32 (variable_column v)
variable_fits fields (Local n) h = small_fits n (omega (arith, ltb-true n 8 h))
variable_fits fields (OfObject n) h = small_fits (8 + n) (omega (arith, ltb-true n 8 (and_parts _ _ h).0))

pub optional_only : (fields : ℕ) (z : ℤ) (o : Option Variable) → optional fields z ≡ Some o → (z ≡ optional_column o) × (exists_if_any fields o ≡ true)
optional_only fields (pos n) o = λ e.
    by_and (variable fields (pos n)) (λ v. Some (Some v)) o ((pos n ≡ optional_column o) × (exists_if_any fields o ≡ true)) e
    (λ v g k. let s : Some v ≡ o = cc in subst (λ w. (pos n ≡ optional_column w) × (exists_if_any fields w ≡ true)) s (variable_only fields (pos n) v g))
optional_only fields (negsuc n) o =
    cond_both (eqb n 0) (Some None) None (λ q. q ≡ Some o → (negsuc n ≡ optional_column o) × (exists_if_any fields o ≡ true))
    (λ t e. let s : None ≡ o = cc in subst (λ w. (negsuc n ≡ optional_column w) × (exists_if_any fields w ≡ true)) s (ap negsuc (eqb-true n 0 t), refl))
    (λ _ e. none (cc))

variable-is-optional : (fields : ℕ) (v : Variable) → optional fields (variable_column v) ≡ and (variable fields (variable_column v)) (λ w. Some (Some w))
variable-is-optional fields (Local n) = refl
variable-is-optional fields (OfObject n) = refl

pub optional_back : (fields : ℕ) (o : Option Variable) → exists_if_any fields o ≡ true → optional fields (optional_column o) ≡ Some o
optional_back fields (Some v) h = variable-is-optional fields v ∙ ap (λ w. and w (λ u. Some (Some u))) (variable_back fields v h)
optional_back fields None h = refl

pub optional_fits : (fields : ℕ) (o : Option Variable) → exists_if_any fields o ≡ true → SFits w32 (optional_column o)
optional_fits fields (Some v) h = variable_fits fields v h
optional_fits fields None h = minus_fits
