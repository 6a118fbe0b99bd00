-- Numbers as they were sent, and what the rules make of them.
use Rattle.std.proofs.Common.{◌≡◌, ℕ, ◌≤◌, Bool, true, false, cond, ltb, List, length, ℤ, pos, negsuc, Some, None, Option, Ok, Err, Result, ok_or, sym, refl, ap, ◌∙◌, inl, inr, arith, to_z-of_z, w32, SFits, to_z, of_z}
use Rattle.std.proofs.lemmas.Bool.{cases_Bool, cond-true, cond-false, ltb-false}
use Rattle.order.specs.Levels.{Levels}
use Rattle.script.specs.Classes.{Program}
use Rattle.rules.specs.declared.calls.Refusal.{Refusal}
use Rattle.rules.specs.declared.calls.Refusal.TheVariants.{NotALevel, NotMade}
use Rattle.rules.specs.declared.calls.Argument.{Argument}
use Rattle.rules.specs.Lists.{nth}
use Rattle.rules.specs.declared.values.Name.{Name}
use Rattle.rules.specs.Values.{name}
use Rattle.rules.specs.Tables.{State}
use Rattle.rules.specs.Wrapper.{judged, verdict}
use Rattle.rules.specs.Calling.{post, turn, collect, natural, size, level_of, labels_stand, Served, refuse, require, found, posted, answer}
use Rattle.host.specs.Numbers.{byte_of, named}
use Rattle.line.proofs.Places.{nth_past}

-- a parameter is what its bits say
pub as_sent : {X : Type 0} (f : ℤ → X) (z : ℤ) (x : X) → SFits w32 z → x ≡ f (to_z w32 (of_z w32 z)) → x ≡ f z
as_sent f z x fits e = e ∙ ap f (to_z-of_z fits)

-- what was found, and would have been refused
found_ok : {X : Type 0} (x : Option X) (y : X) (why : Refusal) → Ok y ≡ ok_or x why → Some y ≡ x
found_ok None y why e = let z : ◌≡◌ {A = ℕ} 0 1 = cc in absurd (omega arith)
found_ok (Some x) y why e = cc

-- a level that was found
pub level_sent : (o : Levels) (z : ℤ) (k : ℕ) → SFits w32 z → Ok k ≡ ok_or (level_of o (to_z w32 (of_z w32 z))) NotALevel → Some k ≡ level_of o z
level_sent o z k fits e = as_sent (level_of o) z (Some k) fits (found_ok _ k NotALevel e)

-- a name that was made, or not
pub name_sent : (o : Levels) (home number : ℤ) (r : Result Name Refusal) → SFits w32 home → SFits w32 number
    → r ≡ named (level_of o (to_z w32 (of_z w32 home))) (byte_of (to_z w32 (of_z w32 number))) → r ≡ named (level_of o home) (byte_of number)
name_sent o home number r f g e =
    as_sent (λ k. named (level_of o home) (byte_of k)) number r g (as_sent (λ k. named (level_of o k) (byte_of (to_z w32 (of_z w32 number)))) home r f e)

-- a byte is the number itself
pub natural_byte : (z : ℤ) (k : ℕ) → Some k ≡ byte_of z → natural z ≡ Some k
natural_byte (pos n) k e =
    elim (cases_Bool (ltb n 256)) [
      | inl t ↦ sym (e ∙ cond-true (ltb n 256) _ _ t)
      | inr t ↦ let f = e ∙ cond-false (ltb n 256) _ _ t in let z : ◌≡◌ {A = ℕ} 0 1 = cc in absurd (omega arith)
    ]
natural_byte (negsuc n) k e = let z : ◌≡◌ {A = ℕ} 0 1 = cc in absurd (omega arith)

pub size_byte : (z : ℤ) (k : ℕ) → Some k ≡ byte_of z → size z ≡ k
size_byte (pos n) k e = let f = natural_byte (pos n) k e in cc
size_byte (negsuc n) k e = let z : ◌≡◌ {A = ℕ} 0 1 = cc in absurd (omega arith)

-- a number that is no byte is refused, where every number from 256 on is
pub found_no_byte : (σ : State) (z : ℤ) (why : Refusal) (rest : ℕ → Served) → None ≡ byte_of z → ((k : ℕ) → 256 ≤ k → rest k ≡ refuse σ why)
    → found σ (natural z) why rest ≡ refuse σ why
found_no_byte σ (pos n) why rest e h =
    elim (cases_Bool (ltb n 256)) [
      | inl t ↦ let f = e ∙ cond-true (ltb n 256) _ _ t in let z : ◌≡◌ {A = ℕ} 0 1 = cc in absurd (omega arith)
      | inr t ↦ h n (ltb-false n 256 t)
    ]
found_no_byte σ (negsuc n) why rest e h = refl

-- a level with a number that is no byte
no_byte_named : (h : ℕ) (y : Option ℕ) (why : Refusal) → Err why ≡ named (Some h) y → (None ≡ y) × (NotMade ≡ why)
no_byte_named h None why e = (refl, cc)
no_byte_named h (Some k) why e = let z : ◌≡◌ {A = ℕ} 0 1 = cc in absurd (omega arith)

-- a name that was not made is refused, where every number from 256 on is
pub found_no_name : (σ : State) (x : Option ℕ) (z : ℤ) (why : Refusal) (rest : ℕ → ℕ → Served) → Err why ≡ named x (byte_of z)
    → ((h k : ℕ) → 256 ≤ k → rest h k ≡ refuse σ NotMade) → (found σ x NotALevel λ h. found σ (natural z) NotMade λ k. rest h k) ≡ refuse σ why
found_no_name σ None z why rest e big = let q : NotALevel ≡ why = cc in ap (refuse σ) q
found_no_name σ (Some h) z why rest e big = let b = no_byte_named h (byte_of z) why e in found_no_byte σ z NotMade (rest h) b.0 (big h) ∙ ap (refuse σ) b.1

-- what was found goes on
found_some : {X : Type 0} (σ : State) (x : Option X) (y : X) (why : Refusal) (rest : X → Served) → x ≡ Some y → found σ x why rest ≡ rest y
found_some σ x y why rest e = ap (λ o. found σ o why rest) e

found_none : {X : Type 0} (σ : State) (x : Option X) (why : Refusal) (rest : X → Served) → x ≡ None → found σ x why rest ≡ refuse σ why
found_none σ x why rest e = ap (λ o. found σ o why rest) e

require_true : (σ : State) (b : Bool) (why : Refusal) (rest : Served) → b ≡ true → require σ b why rest ≡ rest
require_true σ b why rest e = ap (λ c. require σ c why rest) e

either_none : {X : Type 0} (b : Bool) (x : Option X) → x ≡ None → cond b x None ≡ None
either_none true x q = q
either_none false x q = refl

module _ (o : Levels) (program : Program) (σ : State) where
  module _ (a home number : ℤ) (s : ℕ) (why : Refusal) (at_s : Some s ≡ level_of o a) (no_name : Err why ≡ named (level_of o home) (byte_of number)) where
    pub collect_no_name : ((h : ℕ) → length (σ.futures h) ≤ 32) → answer o program σ (collect a home number) ≡ refuse σ why
    collect_no_name few =
        found_some σ _ s NotALevel _ (sym at_s)
        ∙ found_no_name σ (level_of o home) number why _ no_name
        (λ h k big. let f = few h in found_none σ _ NotMade _ (either_none (o.flow h s) _ (nth_past (σ.futures h) k (omega arith))))

    pub turn_no_name : ((h : ℕ) → length (σ.objects h) ≤ 8) → answer o program σ (turn a home number) ≡ refuse σ why
    turn_no_name few =
        found_some σ _ s NotALevel _ (sym at_s)
        ∙ found_no_name σ (level_of o home) number why _ no_name
        (λ h k big. let f = few h in found_none σ _ NotMade _ (either_none (o.flow h s) _ (nth_past (σ.objects h) k (omega arith))))

  module _ (a home number : ℤ) (s h : ℕ) (at_s : Some s ≡ level_of o a) (at_h : Some h ≡ level_of o home) where
    -- the two levels of a post are found
    both_levels : (rest : ℕ → ℕ → Served)
        → (found σ (level_of o a) NotALevel λ s'. found σ (level_of o home) NotALevel λ h'. rest s' h') ≡ rest s h
    both_levels rest = found_some σ _ s NotALevel _ (sym at_s) ∙ found_some σ _ h NotALevel _ (sym at_h)

  module _ (a home number method : ℤ) (arguments : List Argument) (s h : ℕ) (at_s : Some s ≡ level_of o a) (at_h : Some h ≡ level_of o home) where
    abbrev on : ℕ → Served
    on n = posted o program σ s (name h n) (size method) arguments (verdict o program σ s (name h n) (natural method) (length arguments) true)

    pub post_no_byte : labels_stand o arguments ≡ true → None ≡ byte_of number → length (σ.objects h) ≤ 8
        → answer o program σ (post a home number method arguments) ≡ refuse σ NotMade
    post_no_byte e q few =
        both_levels a home number s h at_s at_h _ ∙ require_true σ (labels_stand o arguments) NotALevel _ e
        ∙ found_no_byte σ number NotMade on q (λ k big.
        ap (λ b. posted o program σ s (name h k) (size method) arguments (judged o program σ s h (natural method) (length arguments) true b))
        (either_none (o.flow h s) (nth (σ.objects h) k) (nth_past (σ.objects h) k (omega arith))))
