-- The tables keep the invariant: a note is filed, an object is made, a call is sent.
use Rattle.std.proofs.Common.{◌≡◌, ℕ, zero, suc, ◌<◌, Bool, true, eqb, ltb, List, [], ◌∷◌, map, get_or, Some, None, Option, refl, inl, inr, arith}
use Rattle.order.specs.Levels.{Levels, Laws}
use Rattle.script.specs.Classes.{Method, Program}
use Rattle.script.specs.Layout.{every}
use Rattle.rules.specs.declared.values.Name.{Name}
use Rattle.rules.specs.declared.values.Value.{Value}
use Rattle.rules.specs.declared.values.Value.TheVariants.{Number, ObjectName, FutureName, Marked}
use Rattle.rules.specs.declared.values.Labelled.{Labelled}
use Rattle.rules.specs.declared.tables.Layer.{Layer}
use Rattle.rules.specs.declared.tables.Note.{Note}
use Rattle.rules.specs.declared.tables.Future.{Future}
use Rattle.rules.specs.declared.tables.Future.TheVariants.{Open}
use Rattle.rules.specs.declared.calls.Refusal.{Refusal}
use Rattle.rules.specs.Lists.{update, nth, snoc}
use Rattle.rules.specs.Values.{nought, blank, given}
use Rattle.rules.specs.Tables.{Object, Call, State, Place}
use Rattle.rules.specs.Wrapper.{target, taking, method_at, class_at, floor, makeable, new_object, with_object, writes, flows_in, room, admitted, refused, judged_flow, judged, object_for, verdict, shown, new_call, sent}
use Rattle.rules.specs.Turns.{statements_of}
use Rattle.rules.specs.Laws.{Owed}
use Rattle.rules.proofs.Listing.{either, clash, no_some, both_left, both_right, pick_one, update_one, update_two, every_at, nth_old, Each, each_snoc, Longer}
use Rattle.rules.proofs.Owing.{owing_none, owing_one}
use Rattle.rules.proofs.Invariant.{Stands, Grows, Homed, Fine, FutureFine, AllHomed, ObjectFine, CallFine, Sound}

-- GROWTH

pub grows_refl : (σ : State) → Grows σ σ
grows_refl σ = record { objects = λ n c l s. s; futures = λ h i x e. e; calls = λ m i x e. e }

pub grows_trans : (σ τ υ : State) → Grows σ τ → Grows τ υ → Grows σ υ
grows_trans σ τ υ g h =
    record {
      objects = λ n c l s. h.objects n c l (g.objects n c l s);
      futures = λ k i x e. h.futures k i x (g.futures k i x e);
      calls = λ k i x e. h.calls k i x (g.calls k i x e);
    }

-- one level's list has one more
pub longer_at : {X : Type 0} (f : ℕ → List X) (k : ℕ) (y : X) (h : ℕ) → Longer (f h) (update f k (snoc (f k) y) h)
longer_at f k y h i x e =
    update_one (λ l. nth l i ≡ Some x) f k h (snoc (f k) y) (λ q. nth_old (f k) y i x (rw q e)) e

pub stands_more : (objects : ℕ → List Object) (k : ℕ) (y : Object) (n : Name) (class level : ℕ) → Stands objects n class level
    → Stands (update objects k (snoc (objects k) y)) n class level
stands_more objects k y n class level s =
    record { object = s.object; at = longer_at objects k y n.home n.number s.object s.at; class_is = s.class_is; level_is = s.level_is }

pub call_grows : (o : Levels) (program : Program) (objects objects' : ℕ → List Object) (m : ℕ) (c : Call)
    → ((n : Name) (class level : ℕ) → Stands objects n class level → Stands objects' n class level)
    → CallFine o program objects m c → CallFine o program objects' m c
call_grows o program objects objects' m c g f =
    record {
      class = f.class;
      level = f.level;
      stands = g c.receiver f.class f.level f.stands;
      home = f.home;
      below = f.below;
      writing = f.writing;
      locals = f.locals;
    }

-- notes say nothing of the rest
pub noted_sound : (o : Levels) (program : Program) (σ : State) (notes : ℕ → List Note) → Sound o program σ
    → Sound o program (record { objects = σ.objects; futures = σ.futures; calls = σ.calls; notes = notes })
noted_sound o program σ notes s = record { objects = s.objects; futures = s.futures; calls = s.calls; owed = s.owed }

pub noted_grows : (σ : State) (notes : ℕ → List Note) → Grows σ (record { objects = σ.objects; futures = σ.futures; calls = σ.calls; notes = notes })
noted_grows σ notes = record { objects = λ n c l s. s; futures = λ h i x e. e; calls = λ m i x e. e }

-- THE VERDICT

pub no_verdict : {A : Type 0} {why : Refusal} {b : Object} → refused why ≡ admitted b → A
no_verdict {why = why} {b = b} e = let z : ◌≡◌ {A = ℕ} 0 1 = cc in absurd (omega arith)

taking-is : (count : ℕ) (mm : Option Method) (m : Method) → taking count mm ≡ Some m → mm ≡ Some m
taking-is count None m e = no_some refl e
taking-is count (Some n) m e = elim (either (eqb n.parameters count)) [ inl t ↦ rw t at e | inr t ↦ no_some refl (rw t at e) ]

pub record Admits (o : Levels) (program : Program) (σ : State) (s : ℕ) (n : Name) (method : Option ℕ) (answered : Bool) (b : Object) : Type 0 where
  pub at : nth (σ.objects n.home) n.number ≡ Some b
  pub home : o.flow n.home s ≡ true
  pub below : o.flow s b.level ≡ true
  pub writing : every (λ x. writes o program s b.class n.home (target x)) (statements_of (method_at program b.class method)) ≡ true
  pub space : room σ s answered ≡ true

module _ (o : Levels) (program : Program) (σ : State) (s : ℕ) (n : Name) (answered : Bool) where
  judged_flow_admits : (b d : Object) (mm : Option Method) → judged_flow o program σ s n.home answered b mm ≡ admitted d
      → (b ≡ d) × (o.flow s b.level ≡ true) × (every (λ x. writes o program s b.class n.home (target x)) (statements_of mm) ≡ true)
      × (room σ s answered ≡ true)
  judged_flow_admits b d None e = no_verdict e
  judged_flow_admits b d (Some m) e =
      elim (either (flows_in o program s b n.home m)) [
        | inl t ↦
            elim (either (room σ s answered)) [
              | inl u ↦ (let q : admitted b ≡ admitted d = rw (t, u) at e in (cc), both_left _ _ t, both_right _ _ t, u)
              | inr u ↦ no_verdict (rw (t, u) at e)
            ]
        | inr t ↦ no_verdict (rw t at e)
      ]

  taken-writing : (b : Object) (count : ℕ) (mm : Option Method)
      → every (λ x. writes o program s b.class n.home (target x)) (statements_of (taking count mm)) ≡ true
      → (d : Object) → judged_flow o program σ s n.home answered b (taking count mm) ≡ admitted d
      → every (λ x. writes o program s b.class n.home (target x)) (statements_of mm) ≡ true
  taken-writing b count None h d e = h
  taken-writing b count (Some m) h d e =
      elim (either (eqb m.parameters count)) [ inl t ↦ rw t at h | inr t ↦ no_verdict (rw t at e) ]

  judged_admits : (method : Option ℕ) (count : ℕ) (d : Object) (found : Option Object) → judged o program σ s n.home method count answered found ≡ admitted d
      → (found ≡ Some d) × (o.flow s d.level ≡ true)
      × (every (λ x. writes o program s d.class n.home (target x)) (statements_of (method_at program d.class method)) ≡ true)
      × (room σ s answered ≡ true)
  judged_admits method count d None e = no_verdict e
  judged_admits method count d (Some b) e =
      let h = judged_flow_admits b d (taking count (method_at program b.class method)) e in
      let w = taken-writing b count (method_at program b.class method) h.2 d e in
      rw (← h.0) (refl, h.1, w, h.3)

  pub verdict_admits : (method : Option ℕ) (count : ℕ) (b : Object) → verdict o program σ s n method count answered ≡ admitted b
      → Admits o program σ s n method answered b
  verdict_admits method count b e =
      let h = judged_admits method count b (object_for o program σ s n) e in
      elim (either (o.flow n.home s)) [
        | inl t ↦ record { at = rw t at h.0; home = t; below = h.1; writing = h.2; space = h.3 }
        | inr t ↦ no_some refl (rw t at h.0)
      ]

module _ (o : Levels) (program : Program) (l : Laws o) where
  open l use {from, to, itself, through, bottom, level, left, right, least}

  pub homed_up : (v : Value) (a b : ℕ) → Homed o v a → o.flow a b ≡ true → Homed o v b
  homed_up (Number k) a b h f = tt
  homed_up (ObjectName n) a b h f = through _ a b h f
  homed_up (FutureName n) a b h f = through _ a b h f
  homed_up (Marked k) a b h f = tt

  pub homed_join : (v : Value) (a b : ℕ) → b < o.count → Homed o v a → Homed o v (o.join a b)
  homed_join (Number k) a b c h = tt
  homed_join (ObjectName n) a b c h = through _ a _ h (left a b (to _ a h) c)
  homed_join (FutureName n) a b c h = through _ a _ h (left a b (to _ a h) c)
  homed_join (Marked k) a b c h = tt

  pub blank_fine : (k : ℕ) → k < o.count → Fine o k blank
  blank_fine k h = record { flows = bottom k h; homed = tt }

  -- MAKING AN OBJECT

  -- the floor of every field flows to the level of an object that may be made
  floor-below : (home class k lv : ℕ) → makeable o program home class lv ≡ true → o.flow (floor o program class home k) lv ≡ true
  floor-below home class k lv h =
      let up = both_left (o.flow home lv) _ h in
      every_at (λ declared. o.flow (o.join declared home) lv) (class_at program class).fields 0 k (both_right (o.flow home lv) _ h)
      (least 0 home lv (bottom lv (to home lv up)) up)

  new_object_fine : (home class lv : ℕ) → makeable o program home class lv ≡ true → ObjectFine o program home (new_object o program home class lv)
  new_object_fine home class lv h =
      let up = both_left (o.flow home lv) _ h in
      record {
        above = up;
        fields = λ k. pick_one (Fine o lv) (ltb k 8) _ _ (λ _. record { flows = floor-below home class k lv h; homed = tt }) (λ _. blank_fine lv (to home lv up));
        floors = λ k b. pick_one (λ (x : Labelled). o.flow (floor o program class home k) x.label ≡ true) (ltb k 8) _ _ (λ _. itself _ (level _ _))
            (λ e. let q : ltb k 8 ≡ true = grind (arith) in clash q e);
      }

  pub made_sound : (σ : State) (home class lv : ℕ) → makeable o program home class lv ≡ true → Sound o program σ
      → Sound o program (with_object o program σ home class lv)
  made_sound σ home class lv h s =
      record {
        objects = λ k. update_one (Each (ObjectFine o program k))
            σ.objects home k _ (λ e. rw (← e) (each_snoc (ObjectFine o program home) (σ.objects home) _ (s.objects home) (new_object_fine home class lv h)))
            (s.objects k);
        futures = s.futures;
        calls = λ m i c e. call_grows o program σ.objects _ m c (stands_more σ.objects home _) (s.calls m i c e);
        owed = s.owed;
      }

  pub made_grows : (σ : State) (home class lv : ℕ) → Grows σ (with_object o program σ home class lv)
  made_grows σ home class lv =
      record { objects = stands_more σ.objects home _; futures = λ h i x e. e; calls = λ m i x e. e }

  -- SENDING A CALL

  shown_fine : (lv s : ℕ) (layer : Layer) (x : Labelled) → o.flow s lv ≡ true → Homed o x.value x.label → Fine o lv (given (shown o program lv s layer x))
  shown_fine lv s layer x b h =
      pick_one (λ m. Fine o lv (given m)) (o.flow (o.join x.label s) lv) _ _
      (λ e. record { flows = e; homed = homed_join x.value x.label s (from s lv b) h })
      (λ e. record { flows = itself lv (to s lv b); homed = tt })

  all_shown_fine : (lv s : ℕ) (layer : Layer) (xs : List Labelled) (i : ℕ) (d : Labelled) → o.flow s lv ≡ true → AllHomed o xs → Fine o lv d
      → Fine o lv (get_or (map given (map (shown o program lv s layer) xs)) i d)
  all_shown_fine lv s layer [] i d b h f = f
  all_shown_fine lv s layer (x ∷ xs) zero d b h f = shown_fine lv s layer x b h.0
  all_shown_fine lv s layer (x ∷ xs) (suc i) d b h f = all_shown_fine lv s layer xs i d b h.1 f

  new_call_fine : (σ : State) (s : ℕ) (n : Name) (b : Object) (method : ℕ) (layer : Layer) (xs : List Labelled) (answered : Bool)
      → Admits o program σ s n (Some method) answered b → AllHomed o xs
      → CallFine o program σ.objects s (new_call σ s n method (map given (map (shown o program b.level s layer) xs)) answered)
  new_call_fine σ s n b method layer xs answered a h =
      record {
        class = b.class;
        level = b.level;
        stands = record { object = b; at = a.at; class_is = refl; level_is = refl };
        home = a.home;
        below = a.below;
        writing = a.writing;
        locals = λ k.
            pick_one (Fine o b.level) (ltb k 8) _ _
            (λ _. all_shown_fine b.level s layer xs k (nought s) a.below h (record { flows = a.below; homed = tt }))
            (λ _. blank_fine b.level (to s _ a.below));
      }

  pub sent_sound : (σ : State) (s context : ℕ) (w : Place) (layer : Layer) (n : Name) (b : Object) (method : ℕ) (xs : List Labelled) (answered : Bool)
      → Admits o program σ s n (Some method) answered b → AllHomed o xs → Sound o program σ
      → Sound o program (sent o program σ s context w layer n b method xs answered)
  sent_sound σ s context w layer n b method xs answered a h u =
      let call = new_call σ s n method (map given (map (shown o program b.level s layer) xs)) answered in
      record {
        objects = u.objects;
        futures = λ k.
            pick_one (λ (f : ℕ → List Future). Each (FutureFine o) (f k)) answered _ _
            (λ _. update_one (Each (FutureFine o)) σ.futures s k _ (λ _. each_snoc (FutureFine o) (σ.futures s) Open (u.futures s) tt) (u.futures k))
            (λ _. u.futures k);
        calls = λ k.
            update_one (Each (CallFine o program σ.objects k)) σ.calls s k _
            (λ e. rw (← e) (each_snoc (CallFine o program σ.objects s) (σ.calls s) call (u.calls s) (new_call_fine σ s n b method layer xs answered a h)))
            (u.calls k);
        owed = λ k.
            pick_one (λ (f : ℕ → List Future). Owed (f k) (update σ.calls s (snoc (σ.calls s) call) k)) answered _ _
            (λ e. update_two Owed σ.futures σ.calls s k _ _ (λ _. owing_one (σ.futures s) (σ.calls s) call (rw e refl) (u.owed s)) (u.owed k))
            (λ e.
            update_one (λ (cs : List Call). Owed (σ.futures k) cs) σ.calls s k _
            (λ i. rw (← i) (owing_none (σ.futures s) (σ.calls s) call (rw e refl) (u.owed s))) (u.owed k));
      }

  pub sent_grows : (σ : State) (s context : ℕ) (w : Place) (layer : Layer) (n : Name) (b : Object) (method : ℕ) (xs : List Labelled) (answered : Bool)
      → Grows σ (sent o program σ s context w layer n b method xs answered)
  sent_grows σ s context w layer n b method xs answered =
      record {
        objects = λ n c l s. s;
        futures = λ k.
            pick_one (λ (f : ℕ → List Future). Longer (σ.futures k) (f k)) answered _ _ (λ _. longer_at σ.futures s Open k) (λ _ i x e. e);
        calls = longer_at σ.calls s _;
      }
