-- What is known of the parts of statements that are in their ranges.
use Rattle.std.proofs.Common.{◌≡◌, ℕ, zero, suc, ◌<◌, Bool, true, ◌&&◌, ltb, List, [], ◌∷◌, get_or, Some, None, Option, refl, sym, subst, arith}
use Rattle.std.specs.Option.{ForSome}
use Rattle.std.proofs.lemmas.Bool.{ltb-true, and_parts}
use Rattle.script.specs.declared.class.Variable.{Variable}
use Rattle.script.specs.declared.class.Variable.TheVariants.{Local, Field}
use Rattle.script.specs.declared.class.Statement.{Statement}
use Rattle.script.specs.declared.class.Statement.TheVariants.{Constant, Itself, Copy, Add, Subtract, Less, Branch, Invoke, Get, Create, Return}
use Rattle.script.specs.Bodies.{idle}
use Rattle.script.specs.Layout.{every, exists, exists_if_any, in_range}
use Rattle.rules.specs.Wrapper.{target}
use Rattle.statements.specs.Numbers.{number_of}

-- a variable, if there is one, is one of the eight
abbrev pub Fits : Option Variable → Type 0
Fits None = Unit {0}
Fits (Some x) = number_of x < 8

every_at : {X : Type 0} (test : X → Bool) (xs : List X) (d : X) (i : ℕ) → every test xs ≡ true → test d ≡ true → test (get_or xs i d) ≡ true
every_at test [] d i h k = k
every_at test (x ∷ xs) d zero h k = (and_parts _ _ h).0
every_at test (x ∷ xs) d (suc i) h k = every_at test xs d i (and_parts _ _ h).1 k

-- a variable that exists is one of the eight
exists_fits : (fields : ℕ) (x : Variable) → exists fields x ≡ true → number_of x < 8
exists_fits fields (Local k) h = ltb-true k 8 h
exists_fits fields (Field k) h = ltb-true k 8 (and_parts (ltb k 8) (ltb k fields) h).0

optional_fits : (fields : ℕ) (to : Option Variable) → exists_if_any fields to ≡ true → Fits to
optional_fits fields (Some x) h = exists_fits fields x h
optional_fits fields None h = tt

first_fits : (fields : ℕ) (x : Variable) (others : Bool) → (exists fields x && others) ≡ true → number_of x < 8
first_fits fields x others h = exists_fits fields x (and_parts (exists fields x) others h).0

-- what a statement in its range assigns is one of the eight
range_fits : (levels fields : ℕ) (s : Statement) → in_range levels fields s ≡ true → Fits (target s)
range_fits levels fields (Constant to number) h = first_fits fields to _ h
range_fits levels fields (Itself to) h = exists_fits fields to h
range_fits levels fields (Copy to from) h = first_fits fields to _ h
range_fits levels fields (Add to left right) h = first_fits fields to _ h
range_fits levels fields (Subtract to left right) h = first_fits fields to _ h
range_fits levels fields (Less to left right) h = first_fits fields to _ h
range_fits levels fields (Branch guard first second) h = tt
range_fits levels fields (Invoke to receiver method arguments) h = optional_fits fields to (and_parts (exists_if_any fields to) _ h).0
range_fits levels fields (Get to future) h = first_fits fields to _ h
range_fits levels fields (Create to class level) h = first_fits fields to _ h
range_fits levels fields (Return value) h = tt

-- and so it is of every statement of a body
pub target_fits : (fields : ℕ) (body : List Statement) (at : ℕ) → every (in_range 8 fields) body ≡ true → Fits (target (get_or body at idle))
target_fits fields body at h = range_fits 8 fields (get_or body at idle) (every_at (in_range 8 fields) body idle at h refl)

some_fits : (to : Option Variable) → Fits to → ForSome to (λ x. number_of x < 8)
some_fits (Some y) h x e = let same : y ≡ x = cc in subst (λ (v : Variable). number_of v < 8) same h
some_fits None h x e = let z : ◌≡◌ {A = ℕ} 0 1 = cc in absurd (omega arith)

-- as a step has it
pub assigned_fits : (fields : ℕ) (body : List Statement) (at : ℕ) (to : Option Variable) → to ≡ target (get_or body at idle)
    → every (in_range 8 fields) body ≡ true → ForSome to (λ x. number_of x < 8)
assigned_fits fields body at to e h = subst (λ t. ForSome t (λ x. number_of x < 8)) (sym e) (some_fits _ (target_fits fields body at h))
