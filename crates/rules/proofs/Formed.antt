-- What a program that loads is known for: its methods' statements are in range, and their branches nest.
use Rattle.std.proofs.Common.{◌≡◌, ℕ, ◌+◌, ◌-◌, ◌<◌, ◌≤◌, true, ltb, leb, length, get_or, Some, None, Option, refl, arith, ltb-true}
use Rattle.std.proofs.lemmas.Bool.{leb-true}
use Rattle.std.proofs.lemmas.List.{length-take}
use Rattle.script.specs.declared.class.Variable.{Variable}
use Rattle.script.specs.declared.class.Variable.TheVariants.{Local, Field}
use Rattle.script.specs.declared.class.Statement.{Statement}
use Rattle.script.specs.declared.class.Statement.TheVariants.{Constant, Itself, Copy, Add, Subtract, Less, Branch, Invoke, Get, Create, Return}
use Rattle.script.specs.Classes.{Method, Class, Program}
use Rattle.script.specs.Bodies.{idle, nested, is_return, no_return}
use Rattle.script.specs.Layout.{every, exists, exists_if_any, in_range, method_formed, class_formed, well_formed}
use Rattle.rules.specs.Lists.{nth}
use Rattle.rules.specs.Wrapper.{target, class_at, method_at}
use Rattle.rules.specs.Turns.{before_last, statements_of}
use Rattle.rules.proofs.Listing.{no_some, both_left, both_right, every_at, every-nth, every_take, get_or_cases}
use Rattle.rules.proofs.Invariant.{Fits}

exists_fits : (fields : ℕ) (x : Variable) → exists fields x ≡ true → Fits (Some x)
exists_fits fields (Local k) h = tt
exists_fits fields (Field k) h = ltb-true k 8 (both_left (ltb k 8) _ h)

any_fits : (fields : ℕ) (x : Option Variable) → exists_if_any fields x ≡ true → Fits x
any_fits fields None h = tt
any_fits fields (Some x) h = exists_fits fields x h

in_range_fits : (levels fields : ℕ) (s : Statement) → in_range levels fields s ≡ true → Fits (target s)
in_range_fits levels fields (Constant to k) h = exists_fits fields to (both_left _ _ h)
in_range_fits levels fields (Itself to) h = exists_fits fields to h
in_range_fits levels fields (Copy to x) h = exists_fits fields to (both_left _ _ h)
in_range_fits levels fields (Add to x y) h = exists_fits fields to (both_left _ _ h)
in_range_fits levels fields (Subtract to x y) h = exists_fits fields to (both_left _ _ h)
in_range_fits levels fields (Less to x y) h = exists_fits fields to (both_left _ _ h)
in_range_fits levels fields (Branch x first second) h = tt
in_range_fits levels fields (Invoke to x method xs) h = any_fits fields to (both_left _ _ h)
in_range_fits levels fields (Get to x) h = exists_fits fields to (both_left _ _ h)
in_range_fits levels fields (Create to class level) h = exists_fits fields to (both_left _ _ h)
in_range_fits levels fields (Return x) h = tt

module _ (count : ℕ) (program : Program) (ok : well_formed count program ≡ true) where
  class_formed_at : (class method : ℕ) (m : Method) (c : Class) → nth c.methods method ≡ Some m → class_formed count c ≡ true
      → method_formed count (length c.fields) m ≡ true
  class_formed_at class method m c e h =
      every-nth (method_formed count (length c.fields)) c.methods method m
      (both_right (every (λ label. ltb label count) c.fields)
      _ (both_right (ltb 0 (length c.fields + length c.methods))
      _ (both_right (leb (length c.methods) 4) _ (both_right (leb (length c.fields) 8) _ h)))) e

  pub formed : (class method : ℕ) (m : Method) → method_at program class (Some method) ≡ Some m → method_formed count (length (class_at program class).fields) m ≡ true
  formed class method m =
      get_or_cases (λ (c : Class). nth c.methods method ≡ Some m → method_formed count (length c.fields) m ≡ true) program class _
      (λ e. no_some refl e)
      (λ c d e. class_formed_at class method m c e (every-nth (class_formed count) program class c (both_right (leb (length program) 8) _ ok) d))

  -- every statement before the R assigns a local, or one of eight fields
  fits_in : (fields : ℕ) (m : Option Method) → ((x : Method) → m ≡ Some x → method_formed count fields x ≡ true) → (at : ℕ)
      → Fits (target (get_or (before_last (statements_of m)) at idle))
  fits_in fields None h at = tt
  fits_in fields (Some x) h at =
      let f = h x refl in
      in_range_fits count fields (get_or (before_last x.statements) at idle)
      (every_at (in_range count fields) (before_last x.statements) idle at
      (every_take (in_range count fields) _ x.statements
      (both_left _ _ (both_right (leb (length x.statements) 32) _ (both_right (ltb x.parameters 5) _ f)))) refl)

  pub body_fits : (class method at : ℕ) → Fits (target (get_or (before_last (statements_of (method_at program class (Some method)))) at idle))
  body_fits class method = fits_in (length (class_at program class).fields) (method_at program class (Some method)) (formed class method)

  -- the statements before the R are a range in which branches nest
  nests_in : (fields : ℕ) (m : Option Method) → ((x : Method) → m ≡ Some x → method_formed count fields x ≡ true)
      → nested (length (before_last (statements_of m))) (before_last (statements_of m)) 4 0 (length (before_last (statements_of m))) ≡ true
  nests_in fields None h = refl
  nests_in fields (Some x) h =
      let f = both_right (every (in_range count fields) x.statements)
      _ (both_right (leb (length x.statements) 32) _ (both_right (ltb x.parameters 5) _ (h x refl))) in
      both_right (no_return (before_last x.statements))
      _ (both_right (is_return (get_or x.statements (length x.statements - 1) idle)) _ (both_right (ltb 0 (length x.statements)) _ f))

  pub body_nests : (class method : ℕ)
      → nested (length (before_last (statements_of (method_at program class (Some method)))))
      (before_last (statements_of (method_at program class (Some method)))) 4 0
      (length (before_last (statements_of (method_at program class (Some method))))) ≡ true
  body_nests class method = nests_in (length (class_at program class).fields) (method_at program class (Some method)) (formed class method)

  -- a class has at most four methods, and a method at most four parameters
  pub few_methods : (class : ℕ) → length (class_at program class).methods ≤ 4
  few_methods class =
      get_or_cases (λ (c : Class). length c.methods ≤ 4) program class _ (omega arith)
      (λ c d. leb-true (length c.methods) 4 (both_left _ _ (both_right (leb (length c.fields) 8) _
      (every-nth (class_formed count) program class c (both_right (leb (length program) 8) _ ok) d))))

  pub few_parameters : (class method : ℕ) (m : Method) → method_at program class (Some method) ≡ Some m → m.parameters < 5
  few_parameters class method m e = ltb-true m.parameters 5 (both_left _ _ (formed class method m e))

  -- every statement before the R is in its range
  ranges_in : (fields : ℕ) (m : Option Method) → ((x : Method) → m ≡ Some x → method_formed count fields x ≡ true)
      → every (in_range count fields) (before_last (statements_of m)) ≡ true
  ranges_in fields None h = refl
  ranges_in fields (Some x) h =
      every_take (in_range count fields) _ x.statements
      (both_left _ _ (both_right (leb (length x.statements) 32) _ (both_right (ltb x.parameters 5) _ (h x refl))))

  pub body_ranges : (class method : ℕ)
      → every (in_range count (length (class_at program class).fields)) (before_last (statements_of (method_at program class (Some method)))) ≡ true
  body_ranges class method = ranges_in (length (class_at program class).fields) (method_at program class (Some method)) (formed class method)

  -- and there are at most 32
  short_in : (fields : ℕ) (m : Option Method) → ((x : Method) → m ≡ Some x → method_formed count fields x ≡ true) → length (before_last (statements_of m)) ≤ 32
  short_in fields None h = omega arith
  short_in fields (Some x) h =
      let few = leb-true (length x.statements) 32 (both_left _ _ (both_right (ltb x.parameters 5) _ (h x refl))) in
      let size = length-take (length x.statements - 1) x.statements in omega arith

  pub body_short : (class method : ℕ) → length (before_last (statements_of (method_at program class (Some method)))) ≤ 32
  body_short class method = short_in (length (class_at program class).fields) (method_at program class (Some method)) (formed class method)
