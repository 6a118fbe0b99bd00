-- Every answer keeps the invariant, and every value that a future holds.
use Rattle.std.proofs.Common.{◌≡◌, ℕ, Bool, true, false, eqb, ltb, List, [], ◌∷◌, map, length, ℤ, pos, negsuc, Some, None, Option, sym, refl, ap, ◌∙◌, inl, inr, arith}
use Rattle.order.specs.Levels.{Levels, Laws}
use Rattle.script.specs.declared.class.Variable.{Variable}
use Rattle.script.specs.declared.class.Variable.TheVariants.{Local, Field}
use Rattle.script.specs.Classes.{Program}
use Rattle.script.specs.Bodies.{idle}
use Rattle.script.specs.Layout.{every, well_formed}
use Rattle.rules.specs.declared.values.Name.{Name}
use Rattle.rules.specs.declared.values.Labelled.{Labelled}
use Rattle.rules.specs.declared.tables.Layer.TheVariants.{AtPost}
use Rattle.rules.specs.declared.tables.Future.{Future}
use Rattle.rules.specs.declared.tables.Future.TheVariants.{Open, Holding}
use Rattle.rules.specs.declared.calls.Argument.{Argument}
use Rattle.rules.specs.declared.calls.Refusal.{Refusal}
use Rattle.rules.specs.Lists.{nth, oldest, Placed}
use Rattle.rules.specs.Values.{name}
use Rattle.rules.specs.Tables.{Object, Call, State, new, same_name}
use Rattle.rules.specs.Wrapper.{target, method_at, writes, unmakeable, object_for, Verdict, admitted, refused as denied, judged, verdict}
use Rattle.rules.specs.Statements.{Scene, Running, Step, done, held, read}
use Rattle.rules.specs.Turns.{statements_of, before_last, resolved, scene_of, started, turned, with_fields, reply, ended, paused, reply_variable}
use Rattle.rules.specs.Calling.{Request, make, post, turn, collect, note, natural, size, level_of, argument_value, labels_stand, Served, refuse, require, found, made, posted, is_for, stopped, future_for, collected, is_of, answer, run_from}
use Rattle.rules.specs.Laws.{Owed}
use Rattle.rules.proofs.Listing.{either, clash, no_some, some_one, eq_is, eq_refl, both_left, both_right, update_one, update_two, every_at, every_take, nth-put, nth_other, oldest-nth, Each, each_set, each_without}
use Rattle.rules.proofs.Owing.{owes_open, owing_ended, owing_set, owing_new}
use Rattle.rules.proofs.Invariant.{Stands, Stopped, Fine, FutureFine, AllHomed, ObjectFine, CallFine, Sound, SceneFine, RunningFine}
use Rattle.rules.proofs.Keeping.{grows_refl, call_grows, homed_join, made_sound, sent_sound, sent_grows, no_verdict, verdict_admits, Admits}
use Rattle.rules.proofs.Turning.{exec_fine, makeable_if}
use Rattle.rules.proofs.Formed.{body_fits}

-- THE CHECKS

pub found_any : {X : Type 0} (P : Served → Type 0) (σ : State) (x : Option X) (why : Refusal) (rest : X → Served) → P (refuse σ why)
    → ((y : X) → x ≡ Some y → P (rest y)) → P (found σ x why rest)
found_any P σ None why rest h k = h
found_any P σ (Some y) why rest h k = k y refl

pub require_any : (P : Served → Type 0) (σ : State) (test : Bool) (why : Refusal) (rest : Served) → P (refuse σ why) → (test ≡ true → P rest)
    → P (require σ test why rest)
require_any P σ true why rest h k = k refl
require_any P σ false why rest h k = h

pub same_is : (a b : Name) → same_name a b ≡ true → a ≡ b
same_is a b e =
    let p = eq_is a.home b.home (both_left _ _ e) in
    let q = eq_is a.number b.number (both_right (eqb a.home b.home) _ e) in
    λ i. record { home = p i; number = q i }

pub object_there : (o : Levels) (program : Program) (σ : State) (s : ℕ) (n : Name) (b : Object) → object_for o program σ s n ≡ Some b
    → (o.flow n.home s ≡ true) × (nth (σ.objects n.home) n.number ≡ Some b)
object_there o program σ s n b e =
    elim (either (o.flow n.home s)) [ inl t ↦ (t, rw t at e) | inr t ↦ no_some refl (rw t at e) ]

-- a value that a future holds stays there
abbrev pub Stays : State → State → Type 0
Stays σ τ = (h n : ℕ) (x : Labelled) → nth (σ.futures h) n ≡ Some (Holding x) → nth (τ.futures h) n ≡ Some (Holding x)

open_holds : {A : Type 0} {x : Labelled} {f : Option Future} → f ≡ Some Open → f ≡ Some (Holding x) → A
open_holds {x = x} {f = f} p q = let z : ◌≡◌ {A = ℕ} 0 1 = cc in absurd (omega arith)

-- an open future that is resolved alters no other
resolved_stays : (fs : List Future) (d : Option ℕ) (y : Labelled) → ((n : ℕ) → d ≡ Some n → nth fs n ≡ Some Open) → (n : ℕ) (x : Labelled)
    → nth fs n ≡ Some (Holding x) → nth (resolved d y fs) n ≡ Some (Holding x)
resolved_stays fs None y h n x e = e
resolved_stays fs (Some k) y h n x e = nth_other fs k n (Holding y) (λ q. let d : nth fs k ≡ Some (Holding x) = rw q e in open_holds (h k refl) d) ∙ e

resolved_fine : (o : Levels) (fs : List Future) (d : Option ℕ) (y : Labelled) → Each (FutureFine o) fs → Fine o y.label y
    → Each (FutureFine o) (resolved d y fs)
resolved_fine o fs None y h f = h
resolved_fine o fs (Some k) y h f = each_set (FutureFine o) fs k (Holding y) h f

-- the fields of one object alter neither its class nor its level, nor any other object
pub stands_fields : (objects : ℕ → List Object) (n : Name) (b : Object) (fields : ℕ → Labelled) → Stands objects n b.class b.level
    → (x : Name) (class level : ℕ) → Stands objects x class level → Stands (with_fields objects n b fields) x class level
stands_fields objects n b fields s x class level u =
    let y : Object = record { class = b.class; level = b.level; fields = fields } in
    elim (either (eqb n.home x.home)) [
      | inl e ↦
          let h = eq_is n.home x.home e in
          elim (either (eqb n.number x.number)) [
            | inl d ↦
                let k = eq_is n.number x.number d in
                let same : s.object ≡ u.object = some_one s.at (rw (h, k) u.at) in
                record {
                  object = y;
                  at = rw e (rw (h, ← k) (nth-put (objects x.home) n.number y s.object (rw (← h) s.at)));
                  class_is = sym s.class_is ∙ (ap (λ (z : Object). z.class) same ∙ u.class_is);
                  level_is = sym s.level_is ∙ (ap (λ (z : Object). z.level) same ∙ u.level_is);
                }
            | inr d ↦
                record {
                  object = u.object;
                  at = rw e (rw h (nth_other (objects x.home) n.number x.number y
                      (λ k. clash (let z : eqb n.number x.number ≡ true = rw k (eq_refl x.number) in z) d) ∙ u.at));
                  class_is = u.class_is;
                  level_is = u.level_is;
                }
          ]
      | inr e ↦ record { object = u.object; at = rw e u.at; class_is = u.class_is; level_is = u.level_is }
    ]

module _ (o : Levels) (program : Program) (l : Laws o) (formed : well_formed o.count program ≡ true) where
  open l use {from, to, itself, through, bottom, level, left, right, least}

  -- A TURN BEGINS

  -- the call in line, and the object that serves it
  pub record Calls (σ : State) (s : ℕ) (n : Name) (b : Object) (c : Placed Call) : Type 0 where
    pub object_at : nth (σ.objects n.home) n.number ≡ Some b
    pub call_at : nth (σ.calls s) c.place ≡ Some c.element
    pub receiver_is : c.element.receiver ≡ n
    pub home : o.flow n.home s ≡ true
    pub below : o.flow s b.level ≡ true
    pub writing : every (λ x. writes o program s b.class n.home (target x)) (statements_of (method_at program b.class (Some c.element.method))) ≡ true
    pub locals : (k : ℕ) → Fine o b.level (c.element.locals k)

  pub calls_of : (σ : State) (s : ℕ) (n : Name) (b : Object) (c : Placed Call) → Sound o program σ → object_for o program σ s n ≡ Some b
      → oldest (is_for n) (σ.calls s) ≡ Some c → Calls σ s n b c
  calls_of σ s n b c u e d =
      let there = object_there o program σ s n b e in
      let line = oldest-nth (is_for n) (σ.calls s) c d in
      let f = u.calls s c.place c.element line.0 in
      let r = same_is c.element.receiver n line.1 in
      let same : f.stands.object ≡ b = some_one f.stands.at (rw r there.1) in
      let cl : f.class ≡ b.class = sym f.stands.class_is ∙ ap (λ (z : Object). z.class) same in
      let lv : f.level ≡ b.level = sym f.stands.level_is ∙ ap (λ (z : Object). z.level) same in
      record {
        object_at = there.1;
        call_at = line.0;
        receiver_is = r;
        home = there.0;
        below = rw lv at f.below;
        writing = rw (cl, r) at f.writing;
        locals = λ k. rw lv at (f.locals k);
      }

  pub scene_fine : (σ : State) (s : ℕ) (n : Name) (b : Object) (c : Placed Call) → Calls σ s n b c → SceneFine o program (scene_of program s n b c.element)
  scene_fine σ s n b c k =
      record {
        home = k.home;
        below = k.below;
        fits = body_fits o.count program formed b.class c.element.method;
        writing = λ at.
            every_at (λ x. writes o program s b.class n.home (target x))
            (before_last (statements_of (method_at program b.class (Some c.element.method)))) idle at
            (every_take (λ x. writes o program s b.class n.home (target x)) _ (statements_of (method_at program b.class (Some c.element.method)))
            k.writing) refl;
      }

  pub started_fine : (σ : State) (s : ℕ) (n : Name) (b : Object) (c : Placed Call) → Sound o program σ → Calls σ s n b c
      → RunningFine o program (scene_of program s n b c.element) σ (started σ b c.element)
  started_fine σ s n b c u k =
      let f = u.objects n.home n.number b k.object_at in
      record { locals = k.locals; fields = f.fields; floors = f.floors; tables = u; grows = grows_refl σ }

  pub turned_fine : (σ : State) (s : ℕ) (n : Name) (b : Object) (c : Placed Call) → Sound o program σ → Calls σ s n b c
      → Stopped (RunningFine o program (scene_of program s n b c.element) σ) (turned o program σ s n b c.element)
  turned_fine σ s n b c u k =
      exec_fine o program l (scene_of program s n b c.element) (scene_fine σ s n b c k) σ
      (length (before_last (statements_of (method_at program b.class (Some c.element.method)))))
      0 _ s _ (record { up = itself s (from s _ k.below); down = k.below }) (started_fine σ s n b c u k)

  -- AND STOPS

  object_back : (σ : State) (s : ℕ) (n : Name) (b : Object) (c : Placed Call) (r : Running) → Calls σ s n b c
      → RunningFine o program (scene_of program s n b c.element) σ r
      → (h : ℕ) → Each (ObjectFine o program h) (with_fields r.tables.objects n b r.fields h)
  object_back σ s n b c r k g h =
      update_one (Each (ObjectFine o program h)) r.tables.objects n.home h _
      (λ e. rw (← e) (each_set (ObjectFine o program n.home) (r.tables.objects n.home) n.number _ (g.tables.objects n.home)
      (record { above = through _ s _ k.home k.below; fields = g.fields; floors = g.floors })))
      (g.tables.objects h)

  standing : (σ : State) (s : ℕ) (n : Name) (b : Object) (c : Placed Call) (r : Running) → Calls σ s n b c
      → RunningFine o program (scene_of program s n b c.element) σ r
      → Stands r.tables.objects n b.class b.level
  standing σ s n b c r k g = g.grows.objects n b.class b.level (record { object = b; at = k.object_at; class_is = refl; level_is = refl })

  read_homed : (scene : Scene) (σ : State) (r : Running) (x : Variable) → RunningFine o program scene σ r → Fine o scene.level (read r x)
  read_homed scene σ r (Local k) g = g.locals k
  read_homed scene σ r (Field k) g = g.fields k

  reply_fine : (σ : State) (s : ℕ) (n : Name) (b : Object) (c : Placed Call) (r : Running) → Calls σ s n b c
      → RunningFine o program (scene_of program s n b c.element) σ r
      → Fine o (reply o program s b c.element r).label (reply o program s b c.element r)
  reply_fine σ s n b c r k g =
      record {
        flows = itself _ (level _ _);
        homed = homed_join o program l _ _ s (from s _ k.below)
            (read_homed _ σ r (reply_variable program b.class c.element.method) g).homed;
      }

  pub ended_sound : (σ : State) (s : ℕ) (n : Name) (b : Object) (c : Placed Call) (r : Running) → Calls σ s n b c
      → RunningFine o program (scene_of program s n b c.element) σ r
      → Sound o program (ended o program s n b c r)
  ended_sound σ s n b c r k g =
      let there = g.grows.calls s c.place c.element k.call_at in
      let move = stands_fields r.tables.objects n b r.fields (standing σ s n b c r k g) in
      record {
        objects = object_back σ s n b c r k g;
        futures = λ h. update_one (Each (FutureFine o))
            r.tables.futures s h _ (λ _. resolved_fine o _ c.element.owed _ (g.tables.futures s) (reply_fine σ s n b c r k g)) (g.tables.futures h);
        calls = λ m i x e.
            call_grows o program r.tables.objects _ m x move
            (update_one (Each (CallFine o program r.tables.objects m))
            r.tables.calls s m _ (λ q. rw (← q)
            (each_without (CallFine o program r.tables.objects s) c.place (r.tables.calls s) (g.tables.calls s))) (g.tables.calls m) i x e);
        owed = λ m. update_two Owed r.tables.futures
            r.tables.calls s m _ _ (λ _. owing_ended (r.tables.futures s) (r.tables.calls s) c.place c.element _ c.element.owed there refl
            (g.tables.owed s)) (g.tables.owed m);
      }

  pub ended_stays : (σ : State) (s : ℕ) (n : Name) (b : Object) (c : Placed Call) (r : Running) → Calls σ s n b c
      → RunningFine o program (scene_of program s n b c.element) σ r
      → Stays σ (ended o program s n b c r)
  ended_stays σ s n b c r k g h i x e =
      let there = g.grows.calls s c.place c.element k.call_at in
      let now = g.grows.futures h i (Holding x) e in
      update_one (λ (fs : List Future). nth fs i ≡ Some (Holding x)) r.tables.futures s h _
      (λ q. resolved_stays (r.tables.futures s)
      c.element.owed _ (λ v d. owes_open _ (r.tables.calls s) c.place c.element v (g.tables.owed s) there d) i x (rw q now)) now

  pub paused_sound : (σ : State) (s : ℕ) (n : Name) (b : Object) (c : Placed Call) (at : ℕ) (r : Running) → Calls σ s n b c
      → RunningFine o program (scene_of program s n b c.element) σ r
      → Sound o program (paused s n b c at r)
  paused_sound σ s n b c at r k g =
      let there = g.grows.calls s c.place c.element k.call_at in
      let stand = standing σ s n b c r k g in
      let move = stands_fields r.tables.objects n b r.fields stand in
      let q = k.receiver_is in
      record {
        objects = object_back σ s n b c r k g;
        futures = g.tables.futures;
        calls = λ m i x e.
            call_grows o program r.tables.objects _ m x move
            (update_one (Each (CallFine o program r.tables.objects m)) r.tables.calls s m _
            (λ d. rw (← d) (each_set (CallFine o program r.tables.objects s) (r.tables.calls s) c.place _ (g.tables.calls s)
            (record {
              class = b.class;
              level = b.level;
              stands = rw q stand;
              home = rw q k.home;
              below = k.below;
              writing = rw q
                  k.writing;
              locals = g.locals;
            })))
            (g.tables.calls m) i x e);
        owed = λ m. update_one (λ (cs : List Call). Owed (r.tables.futures m) cs)
            r.tables.calls s m _ (λ d. rw (← d) (owing_set (r.tables.futures s) (r.tables.calls s) c.place c.element _ there refl (g.tables.owed s)))
            (g.tables.owed m);
      }

  -- EVERY ANSWER

  pub record Kept (σ : State) (x : Served) : Type 0 where
    pub sound : Sound o program x.state
    pub stays : Stays σ x.state

  kept_same : (σ : State) (why : Refusal) → Sound o program σ → Kept σ (refuse σ why)
  kept_same σ why u = record { sound = u; stays = λ h n x e. e }

  stopped-kept : (σ : State) (s : ℕ) (n : Name) (b : Object) (c : Placed Call) (x : Step) → Calls σ s n b c
      → Stopped (RunningFine o program (scene_of program s n b c.element) σ) x
      → Kept σ (stopped o program s n b c x)
  stopped-kept σ s n b c (done r) k g = record { sound = ended_sound σ s n b c r k g; stays = ended_stays σ s n b c r k g }
  stopped-kept σ s n b c (held at r) k g = record { sound = paused_sound σ s n b c at r k g; stays = λ h i x e. g.grows.futures h i (Holding x) e }

  made_kept : (σ : State) (a class lv : ℕ) (v : Option Refusal) → unmakeable o program σ a class lv ≡ v → Sound o program σ → Kept σ (made o program σ a class lv v)
  made_kept σ a class lv (Some why) e u = kept_same σ why u
  made_kept σ a class lv None e u = record { sound = made_sound o program l σ a class lv (makeable_if o program σ a class lv e) u; stays = λ h n x e. e }

  arguments_homed : (xs : List Argument) → AllHomed o (map argument_value xs)
  arguments_homed [] = tt
  arguments_homed (x ∷ xs) = (tt, arguments_homed xs)

  -- no method has a negative number
  no_method : (σ : State) (s home : ℕ) (answered : Bool) (b : Object) (count : ℕ) (x : Option Object) → judged o program σ s home None count answered x ≡ admitted b → ⊥
  no_method σ s home answered b count None e = no_verdict e
  no_method σ s home answered b count (Some d) e = no_verdict e

  -- the method that the wrapper admitted is the one that was posted
  pub posted-method : (σ : State) (s : ℕ) (n : Name) (method : ℤ) (answered : Bool) (b : Object) (count : ℕ)
      → verdict o program σ s n (natural method) count answered ≡ admitted b
      → Admits o program σ s n (Some (size method)) answered b
  posted-method σ s n (pos k) answered b count e = verdict_admits o program σ s n answered (Some k) count b e
  posted-method σ s n (negsuc k) answered b count e =
      absurd (no_method σ s n.home answered b count (object_for o program σ s n) e)

  posted-kept : (σ : State) (s : ℕ) (n : Name) (method : ℤ) (xs : List Argument) (v : Verdict) → verdict o program σ s n (natural method) (length xs) true ≡ v
      → Sound o program σ
      → Kept σ (posted o program σ s n (size method) xs v)
  posted-kept σ s n method xs (denied why) e u = kept_same σ why u
  posted-kept σ s n method xs (admitted b) e u =
      record {
        sound = sent_sound o program l σ s s (record { class = b.class; method = size method; statement = 0 }) AtPost n b (size method)
            (map argument_value xs) true (posted-method σ s n method true b (length xs) e) (arguments_homed xs) u;
        stays = λ h i x d. (sent_grows o program l σ s s (record { class = b.class; method = size method; statement = 0 }) AtPost n b (size method)
            (map argument_value xs) true).futures h i (Holding x) d;
      }

  collected-kept : (σ : State) (a : ℕ) (f : Future) → Sound o program σ → Kept σ (collected o program σ a f)
  collected-kept σ a Open u = kept_same σ _ u
  collected-kept σ a (Holding x) u = record { sound = u; stays = λ h n x e. e }

  pub answer-kept : (σ : State) (x : Request) → Sound o program σ → Kept σ (answer o program σ x)
  answer-kept σ (make a class lv) u =
      found_any (Kept σ) σ (level_of o a) _ _ (kept_same σ _ u) λ home _.
      found_any (Kept σ) σ (level_of o lv) _ _ (kept_same σ _ u) λ k _.
      found_any (Kept σ) σ (natural class) _ _ (kept_same σ _ u) λ c _.
      made_kept σ home c k _ refl u
  answer-kept σ (post a home number method xs) u =
      found_any (Kept σ) σ (level_of o a) _ _ (kept_same σ _ u) λ s _.
      found_any (Kept σ) σ (level_of o home) _ _ (kept_same σ _ u) λ h _.
      require_any (Kept σ) σ (labels_stand o xs) _ _ (kept_same σ _ u) λ _.
      found_any (Kept σ) σ (natural number) _ _ (kept_same σ _ u) λ n _.
      posted-kept σ s (name h n) method xs _ refl u
  answer-kept σ (turn a home number) u =
      found_any (Kept σ) σ (level_of o a) _ _ (kept_same σ _ u) λ s _.
      found_any (Kept σ) σ (level_of o home) _ _ (kept_same σ _ u) λ h _.
      found_any (Kept σ) σ (natural number) _ _ (kept_same σ _ u) λ n _.
      found_any (Kept σ) σ (object_for o program σ s (name h n)) _ _ (kept_same σ _ u) λ b e.
      found_any (Kept σ) σ (oldest (is_for (name h n)) (σ.calls s)) _ _ (kept_same σ _ u) λ c d.
      let k = calls_of σ s (name h n) b c u e d in
      stopped-kept σ s (name h n) b c _ k (turned_fine σ s (name h n) b c u k)
  answer-kept σ (collect a home number) u =
      found_any (Kept σ) σ (level_of o a) _ _ (kept_same σ _ u) λ s _.
      found_any (Kept σ) σ (level_of o home) _ _ (kept_same σ _ u) λ h _.
      found_any (Kept σ) σ (natural number) _ _ (kept_same σ _ u) λ n _.
      found_any (Kept σ) σ (future_for o program σ s (name h n)) _ _ (kept_same σ _ u) λ f _.
      collected-kept σ s f u
  answer-kept σ (note a class) u =
      found_any (Kept σ) σ (level_of o a) _ _ (kept_same σ _ u) λ s _.
      found_any (Kept σ) σ (natural class) _ _ (kept_same σ _ u) λ c _.
      require_any (Kept σ) σ (ltb c (length program)) _ _ (kept_same σ _ u) λ _.
      found_any (Kept σ) σ (oldest (is_of c) (σ.notes s)) _ _ (kept_same σ _ u) λ x _.
      record { sound = record { objects = u.objects; futures = u.futures; calls = u.calls; owed = u.owed }; stays = λ h n x e. e }

  -- EVERY LIST

  pub new_sound : Sound o program new
  new_sound = record { objects = λ h i b e. no_some refl e; futures = λ h i f e. no_some refl e; calls = λ m i c e. no_some refl e; owed = λ m. owing_new }

  pub list_sound : (σ : State) (xs : List Request) → Sound o program σ → Sound o program (run_from o program σ xs).state
  list_sound σ [] u = u
  list_sound σ (x ∷ xs) u = list_sound (answer o program σ x).state xs (answer-kept σ x u).sound

  pub list_stays : (σ : State) (xs : List Request) → Sound o program σ → Stays σ (run_from o program σ xs).state
  list_stays σ [] u h n x e = e
  list_stays σ (y ∷ xs) u h n x e = list_stays (answer o program σ y).state xs (answer-kept σ y u).sound h n x ((answer-kept σ y u).stays h n x e)
