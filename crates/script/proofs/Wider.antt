-- What is well-formed under some levels is well-formed under more.
use Rattle.std.proofs.Common.{◌≡◌, ℕ, ◌+◌, ◌≤◌, Bool, true, ltb, leb, List, [], ◌∷◌, length, refl, arith}
use Rattle.std.proofs.lemmas.Bool.{and_parts, and_from, ltb-true, lt-ltb}
use Rattle.script.specs.declared.class.Statement.{Statement}
use Rattle.script.specs.declared.class.Statement.TheVariants.{Constant, Itself, Copy, Add, Subtract, Less, Branch, Invoke, Get, Create, Return}
use Rattle.script.specs.Classes.{Method, Class, Program}
use Rattle.script.specs.Layout.{every, exists, in_range, method_formed, class_formed, well_formed}

every_more : {X : Type 0} (test more : X → Bool) (xs : List X) → ((x : X) → test x ≡ true → more x ≡ true) → every test xs ≡ true → every more xs ≡ true
every_more test more [] f h = refl
every_more test more (x ∷ xs) f h = let p = and_parts (test x) (every test xs) h in and_from _ _ (f x p.0) (every_more test more xs f p.1)

module _ (n m : ℕ) (wider : n ≤ m) where
  below_more : (k : ℕ) → ltb k n ≡ true → ltb k m ≡ true
  below_more k h = lt-ltb k m (omega (arith, ltb-true k n h))

  range_more : (fields : ℕ) (s : Statement) → in_range n fields s ≡ true → in_range m fields s ≡ true
  range_more fields (Constant to number) h = h
  range_more fields (Itself to) h = h
  range_more fields (Copy to from) h = h
  range_more fields (Add to left right) h = h
  range_more fields (Subtract to left right) h = h
  range_more fields (Less to left right) h = h
  range_more fields (Branch guard first second) h = h
  range_more fields (Invoke to receiver method arguments) h = h
  range_more fields (Get to future) h = h
  range_more fields (Create to class level) h =
      let a = and_parts (exists fields to) _ h in let b = and_parts (ltb class 8) _ a.1 in and_from _ _ a.0 (and_from _ _ b.0 (below_more level b.1))
  range_more fields (Return value) h = h

  method_more : (fields : ℕ) (x : Method) → method_formed n fields x ≡ true → method_formed m fields x ≡ true
  method_more fields x h =
      let a = and_parts (ltb x.parameters 5) _ h in
      let b = and_parts (leb (length x.statements) 32) _ a.1 in
      let c = and_parts (every (in_range n fields) x.statements) _ b.1 in
      and_from _ _ a.0 (and_from _ _ b.0 (and_from _ _ (every_more _ _ x.statements (range_more fields) c.0) c.1))

  class_more : (x : Class) → class_formed n x ≡ true → class_formed m x ≡ true
  class_more x h =
      let a = and_parts (leb (length x.fields) 8) _ h in
      let b = and_parts (leb (length x.methods) 4) _ a.1 in
      let c = and_parts (ltb 0 (length x.fields + length x.methods)) _ b.1 in
      let d = and_parts (every (λ l. ltb l n) x.fields) _ c.1 in
      and_from _ _ a.0 (and_from _ _ b.0 (and_from _ _ c.0
      (and_from _ _ (every_more _ _ x.fields below_more d.0) (every_more _ _ x.methods (method_more (length x.fields)) d.1))))

  pub formed_more : (p : Program) → well_formed n p ≡ true → well_formed m p ≡ true
  formed_more p h = let a = and_parts (leb (length p) 8) _ h in and_from _ _ a.0 (every_more _ _ p class_more a.1)
