-- What is known of a posted call that the wrapper admits.
use Rattle.std.proofs.Common.{◌≡◌, ℕ, ◌≤◌, Bool, true, eqb, ltb, List, map, length, ℤ, pos, negsuc, Some, None, Option, sym, refl, ap, ◌∙◌, inl, inr, arith}
use Rattle.std.proofs.lemmas.Bool.{cases_Bool, cond-true, cond-false, ltb-false, eqb-true}
use Rattle.order.specs.Levels.{Levels}
use Rattle.script.specs.declared.class.Class.{Class as StoredClass}
use Rattle.script.specs.Classes.{Method, Program, classes_of}
use Rattle.script.specs.Layout.{well_formed}
use Rattle.rules.specs.declared.values.Labelled.{Labelled}
use Rattle.rules.specs.declared.values.Name.{Name}
use Rattle.rules.specs.declared.tables.Layer.TheVariants.{AtPost}
use Rattle.rules.specs.declared.calls.Answer.TheVariants.{Posted}
use Rattle.rules.specs.declared.calls.Argument.{Argument}
use Rattle.rules.specs.declared.calls.Refusal.{Refusal}
use Rattle.rules.specs.Values.{name}
use Rattle.rules.specs.Tables.{State, Object}
use Rattle.rules.specs.Wrapper.{class_at, method_at, taking, room, flows_in, Verdict, admitted, refused, judged, judged_flow, object_for, verdict, next_future, sent}
use Rattle.rules.specs.Calling.{natural, size, argument_value, posted, refuse}
use Rattle.rules.proofs.Formed.{few_methods, few_parameters}
use Rattle.host.specs.Numbers.{byte_of}
use Rattle.line.proofs.Places.{nth_past}
use Rattle.host.proofs.Sent.{size_byte}

-- a method that takes so many arguments has so many parameters
taking-some : (count : ℕ) (m : Option Method) (x : Method) → taking count m ≡ Some x → (m ≡ Some x) × (x.parameters ≡ count)
taking-some count None x e = let z : ◌≡◌ {A = ℕ} 0 1 = cc in absurd (omega arith)
taking-some count (Some m) x e =
    elim (cases_Bool (eqb m.parameters count)) [
      | inl t ↦
          let f = sym (cond-true (eqb m.parameters count) (Some m) None t) ∙ e in
          let q : m ≡ x = cc in (f, ap (λ (y : Method). y.parameters) (sym q) ∙ eqb-true m.parameters count t)
      | inr t ↦ let f = sym (cond-false (eqb m.parameters count) (Some m) None t) ∙ e in let z : ◌≡◌ {A = ℕ} 0 1 = cc in absurd (omega arith)
    ]

module _ (o : Levels) (program : Program) (σ : State) (s : ℕ) (n : Name) (count : ℕ) (answered : Bool) where
  -- what an admitted call has: a method that takes its arguments, and room
  record Has (m : Option ℕ) : Type 0 where
    class : ℕ
    method : Method
    takes : taking count (method_at program class m) ≡ Some method
    space : room σ s answered ≡ true

  flow_has : (m : Option ℕ) (b d : Object) (x : Option Method) → x ≡ taking count (method_at program b.class m)
      → admitted d ≡ judged_flow o program σ s n.home answered b x → Has m
  flow_has m b d None q e = let z : ◌≡◌ {A = ℕ} 0 1 = cc in absurd (omega arith)
  flow_has m b d (Some x) q e =
      elim (cases_Bool (flows_in o program s b n.home x)) [
        | inl t ↦ elim (cases_Bool (room σ s answered)) [
          | inl r ↦ record { class = b.class; method = x; takes = sym q; space = r }
          | inr r ↦
              let f = e ∙ cond-true (flows_in o program s b n.home x) _ _ t ∙ cond-false (room σ s answered) _ _ r in
              let z : ◌≡◌ {A = ℕ} 0 1 = cc in absurd (omega arith)
        ]
        | inr t ↦ let f = e ∙ cond-false (flows_in o program s b n.home x) _ _ t in let z : ◌≡◌ {A = ℕ} 0 1 = cc in absurd (omega arith)
      ]

  judged-has : (m : Option ℕ) (d : Object) (b : Option Object) → admitted d ≡ judged o program σ s n.home m count answered b → Has m
  judged-has m d None e = let z : ◌≡◌ {A = ℕ} 0 1 = cc in absurd (omega arith)
  judged-has m d (Some b) e = flow_has m b d _ refl e

  admitted_room : (m : Option ℕ) (d : Object) → admitted d ≡ verdict o program σ s n m count answered → room σ s answered ≡ true
  admitted_room m d e = (judged-has m d _ e).space

  -- no method takes more than four
  has_few : well_formed 8 program ≡ true → (m : Option ℕ) → Has m → count ≤ 4
  has_few ok None h = let t = h.takes in let z : ◌≡◌ {A = ℕ} 0 1 = cc in absurd (omega arith)
  has_few ok (Some m) h =
      let t = taking-some count _ h.method h.takes in
      let few = few_parameters 8 program ok h.class m h.method t.0 in
      let same = t.1 in omega arith

  admitted_few : well_formed 8 program ≡ true → (m : Option ℕ) (d : Object) → admitted d ≡ verdict o program σ s n m count answered → count ≤ 4
  admitted_few ok m d e = has_few ok m (judged-has m d _ e)

  -- a method's number that is no byte is that of no method
  byte_method : well_formed 8 program ≡ true → (class : ℕ) (z : ℤ) → method_at program class (byte_of z) ≡ method_at program class (natural z)
  byte_method ok class (pos k) =
      elim (cases_Bool (ltb k 256)) [
        | inl t ↦ ap (method_at program class) (cond-true (ltb k 256) (Some k) None t)
        | inr t ↦
            let few = few_methods 8 program ok class in
            let big = ltb-false k 256 t in
            ap (method_at program class) (cond-false (ltb k 256) (Some k) None t) ∙ sym (nth_past (class_at program class).methods k (omega arith))
      ]
  byte_method ok class (negsuc k) = refl

  byte_judged : well_formed 8 program ≡ true → (z : ℤ) (b : Option Object)
      → judged o program σ s n.home (byte_of z) count answered b ≡ judged o program σ s n.home (natural z) count answered b
  byte_judged ok z None = refl
  byte_judged ok z (Some b) = ap (λ m. judged_flow o program σ s n.home answered b (taking count m)) (byte_method ok b.class z)

  byte_verdict : well_formed 8 program ≡ true → (z : ℤ)
      → verdict o program σ s n (byte_of z) count answered ≡ verdict o program σ s n (natural z) count answered
  byte_verdict ok z = byte_judged ok z (object_for o program σ s n)

-- the same classes and the same method get the same verdict
same_verdict : (o : Levels) (σ : State) (s : ℕ) (n : Name) (count : ℕ) (answered : Bool) {cs ds : List StoredClass} {l m : Option ℕ} → cs ≡ ds → l ≡ m
    → verdict o (classes_of cs) σ s n l count answered ≡ verdict o (classes_of ds) σ s n m count answered
same_verdict o σ s n count answered e q = λ i. verdict o (classes_of (e i)) σ s n (q i) count answered

-- a posted call, judged by the classes that were lent and the byte that its method's number is
module _ (o : Levels) (classes : List StoredClass) (σ : State) (s : ℕ) (n : Name) (method : ℤ) (count : ℕ) (r : Verdict) where
  -- its verdict by the rules, and what an admitted call has
  pub record Judged : Type 0 where
    pub formed : well_formed 8 (classes_of classes) ≡ true
    pub is : r ≡ verdict o (classes_of classes) σ s n (byte_of method) count true
    pub space : (b : Object) → r ≡ admitted b → room σ s true ≡ true
    pub few : (b : Object) → r ≡ admitted b → count ≤ 4

  pub judged-by : {lent : List StoredClass} {m : Option ℕ} → lent ≡ classes → well_formed 8 (classes_of lent) ≡ true → m ≡ byte_of method
      → r ≡ verdict o (classes_of lent) σ s n m count true → Judged
  judged-by e ok q v =
      let formed = ap (λ cs. well_formed 8 (classes_of cs)) (sym e) ∙ ok in
      let is = v ∙ same_verdict o σ s n count true e q in
      record {
        formed = formed;
        is = is;
        space = λ b k. admitted_room o (classes_of classes) σ s n count true (byte_of method) b (sym k ∙ is);
        few = λ b k. admitted_few o (classes_of classes) σ s n count true formed (byte_of method) b (sym k ∙ is);
      }

-- the answer to a post, by the verdict on it
module _ (o : Levels) (program : Program) (σ τ : State) (s : ℕ) (n : Name) (method : ℤ) (arguments : List Argument) (ok : well_formed 8 program ≡ true) where
  abbrev said : Verdict
  said = verdict o program σ s n (natural method) (length arguments) true

  pub refused_post : (why : Refusal) → refused why ≡ verdict o program σ s n (byte_of method) (length arguments) true
      → posted o program σ s n (size method) arguments said ≡ refuse σ why
  refused_post why e =
      sym (ap (posted o program σ s n (size method) arguments) (e ∙ byte_verdict o program σ s n (length arguments) true ok method))

  pub granted_post : (b : Object) (k number : ℕ) (values : List Labelled) → admitted b ≡ verdict o program σ s n (byte_of method) (length arguments) true
      → Some k ≡ byte_of method → number ≡ next_future σ s → values ≡ map argument_value arguments
      → τ ≡ sent o program σ s s (record { class = b.class; method = k; statement = 0 }) AtPost n b k values true
      → posted o program σ s n (size method) arguments said ≡ record { answer = Posted (name s number); state = τ }
  granted_post b k number values e q f v t =
      let m = size_byte method k q in
      sym (ap (posted o program σ s n (size method) arguments) (e ∙ byte_verdict o program σ s n (length arguments) true ok method))
      ∙ ap (λ (i : ℕ). record {
        answer = Posted (name s (next_future σ s));
        state = sent o program σ s s (record { class = b.class; method = i; statement = 0 }) AtPost n b i (map argument_value arguments) true;
      }) m
      ∙ (λ i. record {
        answer = Posted (name s (sym f i));
        state = sent o program σ s s (record { class = b.class; method = k; statement = 0 }) AtPost n b k (sym v i) true;
      })
      ∙ ap (λ (u : State). record { answer = Posted (name s number); state = u }) (sym t)
