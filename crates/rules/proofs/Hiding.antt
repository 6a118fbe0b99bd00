-- A request at a level that does not flow to the reader changes nothing that the reader can tell.
use Rattle.std.proofs.Common.{◌≡◌, ℕ, ◌<◌, true, false, ltb, List, map, length, get_or, ℤ, pos, negsuc, Some, None, Option, refl, ap, inl, inr, ltb-true}
use Rattle.order.specs.Levels.{Levels, Laws}
use Rattle.script.specs.declared.class.Variable.{Variable}
use Rattle.script.specs.declared.class.Variable.TheVariants.{Local, Field}
use Rattle.script.specs.Classes.{Program}
use Rattle.script.specs.Bodies.{idle}
use Rattle.script.specs.Layout.{well_formed}
use Rattle.rules.specs.declared.values.Name.{Name}
use Rattle.rules.specs.declared.values.Labelled.{Labelled}
use Rattle.rules.specs.declared.tables.Layer.TheVariants.{AtPost}
use Rattle.rules.specs.declared.tables.Future.{Future}
use Rattle.rules.specs.declared.tables.Future.TheVariants.{Open, Holding}
use Rattle.rules.specs.declared.calls.Argument.{Argument}
use Rattle.rules.specs.declared.calls.Refusal.{Refusal}
use Rattle.rules.specs.Lists.{oldest, Placed, Pairs}
use Rattle.rules.specs.Values.{name}
use Rattle.rules.specs.Tables.{Object, Call, State}
use Rattle.rules.specs.Wrapper.{target, assigns, floor, writes, unmakeable, object_for, Verdict, admitted, refused as denied, verdict}
use Rattle.rules.specs.Statements.{Running, Step, done, held}
use Rattle.rules.specs.Turns.{scene_of, started, turned, with_fields, ended, paused}
use Rattle.rules.specs.Calling.{Request, make, post, turn, collect, note, bearer, natural, size, level_of, argument_value, labels_stand, Served, made, posted, is_for, stopped, future_for, collected, is_of, taken, answer}
use Rattle.rules.specs.Laws.{reaches}
use Rattle.rules.proofs.Listing.{either, clash, no_some, some_one, eq_is, update_one}
use Rattle.rules.proofs.Invariant.{Fits, Sound}
use Rattle.rules.proofs.Formed.{body_nests}
use Rattle.rules.proofs.Serving.{found_any, require_any, Calls, calls_of, scene_fine, started_fine, posted-method}
use Rattle.rules.proofs.Relation.{pairs_altered, pairs-refl, Seen, Hidden, Blurred, neither, ObjectPair, Low, Quiet, Kept, same, over, Confined, blurred_refl, object_refl, low_refl, quiet_refl, quiet_low, elsewhere, hide_up}
use Rattle.rules.proofs.Ranges.{Hit}
use Rattle.rules.proofs.Confining.{sent_quiet, made_quiet, DarkStep, exec_dark}

-- NUMBERS AS SENT

pub level_is : (o : Levels) (z : ℤ) (s : ℕ) → level_of o z ≡ Some s → (z ≡ pos s)
level_is o (pos n) s e =
    elim (either (ltb n o.count)) [ inl t ↦ ap pos (some_one refl (rw t at e)) | inr t ↦ no_some refl (rw t at e) ]
level_is o (negsuc n) s e = no_some refl e

pub level_hidden : (o : Levels) (reader : ℕ) (z : ℤ) (s : ℕ) → reaches o reader z ≡ false → level_of o z ≡ Some s → Hidden o reader s
level_hidden o reader z s h e = let q = level_is o z s e in rw q at h

pub level_seen : (o : Levels) (reader : ℕ) (z : ℤ) (s : ℕ) → reaches o reader z ≡ true → level_of o z ≡ Some s → Seen o reader s
level_seen o reader z s h e = let q = level_is o z s e in rw q at h

-- a field that a statement assigns is one of eight, and the call's level flows to its floor
target_field : (o : Levels) (program : Program) (m class home k : ℕ) (x : Option Variable) → assigns x (Field k) ≡ true → Fits x
    → writes o program m class home x ≡ true
    → (k < 8) × (o.flow m (floor o program class home k) ≡ true)
target_field o program m class home k None e f w = clash e refl
target_field o program m class home k (Some (Local i)) e f w = clash e refl
target_field o program m class home k (Some (Field i)) e f w = let q = eq_is i k e in (rw q at f, rw q at w)

module _ (o : Levels) (program : Program) (l : Laws o) (formed : well_formed o.count program ≡ true) (reader : ℕ) where
  open l use {from, to, itself, through, bottom, level, left, right, least}

  pub quiet_low_one : (σ τ : State) → Quiet o reader σ τ → Low o reader σ τ
  quiet_low_one σ τ q = quiet_low o reader σ σ σ τ (quiet_refl o reader σ) q (low_refl o reader σ)

  -- A TURN

  -- a field that was assigned was hidden, and is
  field_blurred : (σ : State) (s : ℕ) (n : Name) (b : Object) (c : Placed Call) (lo hi k : ℕ) (y : Labelled) → Sound o program σ
      → Calls o program l formed σ s n b c → Hidden o reader s
      → Kept o reader (Hit (scene_of program s n b c.element).body lo hi (Field k)) (b.fields k) y → Blurred o reader (b.fields k) y
  field_blurred σ s n b c lo hi k y u f h (same e) = rw e (blurred_refl o reader (b.fields k))
  field_blurred σ s n b c lo hi k y u f h (over (i, p, q, e) d) =
      let ok = scene_fine o program l formed σ s n b c f in
      let t = target_field o program s b.class n.home k (target (get_or (scene_of program s n b c.element).body i idle)) e (ok.fits i) (ok.writing i) in
      let fine = u.objects n.home n.number b f.object_at in
      neither (hide_up o l reader _ _ (fine.floors k t.0) (hide_up o l reader s _ t.1 h)) d

  object_back : (σ : State) (s : ℕ) (n : Name) (b : Object) (c : Placed Call) (lo hi : ℕ) (r : Running) → Sound o program σ → Calls o program l formed σ s n b c
      → Hidden o reader s
      → Confined o reader (Hit (scene_of program s n b c.element).body lo hi) (started σ b c.element) r
      → (k : ℕ) → Seen o reader k → Pairs (ObjectPair o reader) (σ.objects k) (with_fields r.tables.objects n b r.fields k)
  object_back σ s n b c lo hi r u f h d k t =
      update_one (Pairs (ObjectPair o reader) (σ.objects k)) r.tables.objects n.home k _
      (λ e.
      rw (d.tables.objects n.home (rw e t), e)
      (pairs_altered (ObjectPair o reader) (object_refl o reader) (σ.objects k) n.number _
      (λ x i.
      let q : x ≡ b = some_one i (rw (← e) f.object_at) in
      rw q (record { class_is = refl; level_is = refl; fields = λ j. field_blurred σ s n b c lo hi j (r.fields j) u f h (d.vars (Field j)) }))))
      (rw (d.tables.objects k t) (pairs-refl (ObjectPair o reader) (object_refl o reader) (σ.objects k)))

  ended_quiet : (σ : State) (s : ℕ) (n : Name) (b : Object) (c : Placed Call) (lo hi : ℕ) (r : Running) → Sound o program σ → Calls o program l formed σ s n b c
      → Hidden o reader s
      → Confined o reader (Hit (scene_of program s n b c.element).body lo hi) (started σ b c.element) r → Low o reader σ (ended o program s n b c r)
  ended_quiet σ s n b c lo hi r u f h d =
      let low = quiet_low_one σ r.tables d.tables in
      record {
        objects = object_back σ s n b c lo hi r u f h d;
        futures = λ k t. rw (elsewhere o reader r.tables.futures s _ k h t) (low.futures k t);
        calls = λ k t. rw (elsewhere o reader r.tables.calls s _ k h t) (low.calls k t);
        notes = low.notes;
      }

  paused_quiet : (σ : State) (s : ℕ) (n : Name) (b : Object) (c : Placed Call) (lo hi at : ℕ) (r : Running) → Sound o program σ → Calls o program l formed σ s n b c
      → Hidden o reader s
      → Confined o reader (Hit (scene_of program s n b c.element).body lo hi) (started σ b c.element) r → Low o reader σ (paused s n b c at r)
  paused_quiet σ s n b c lo hi at r u f h d =
      let low = quiet_low_one σ r.tables d.tables in
      record {
        objects = object_back σ s n b c lo hi r u f h d;
        futures = low.futures;
        calls = λ k t. rw (elsewhere o reader r.tables.calls s _ k h t) (low.calls k t);
        notes = low.notes;
      }

  -- nothing that the reader can tell
  abbrev Untold : State → Served → Type 0
  Untold σ x = Low o reader σ x.state

  stopped_untold : (σ : State) (s : ℕ) (n : Name) (b : Object) (c : Placed Call) (lo hi : ℕ)
      (x : Step) (u : Sound o program σ) (f : Calls o program l formed σ s n b c) → Hidden o reader s
      → DarkStep o program l (scene_of program s n b c.element)
      (scene_fine o program l formed σ s n b c f) σ reader (Hit (scene_of program s n b c.element).body lo hi) (started σ b c.element) x
      → Untold σ (stopped o program s n b c x)
  stopped_untold σ s n b c lo hi (done r) u f h d = ended_quiet σ s n b c lo hi r u f h d
  stopped_untold σ s n b c lo hi (held at r) u f h d = paused_quiet σ s n b c lo hi at r u f h d.0

  turned_untold : (σ : State) (s : ℕ) (n : Name) (b : Object) (c : Placed Call) → Sound o program σ → Calls o program l formed σ s n b c → Hidden o reader s
      → Untold σ (stopped o program s n b c (turned o program σ s n b c.element))
  turned_untold σ s n b c u f h =
      let scene = scene_of program s n b c.element in
      stopped_untold σ s n b c 0 (length scene.body) _ u f h
      (exec_dark o program l scene (scene_fine o program l formed σ s n b c f) σ reader (length scene.body) 0 (length scene.body) s 4
      (started σ b c.element)
      (record { up = itself s (from s _ f.below); down = f.below }) h (started_fine o program l formed σ s n b c u f)
      (body_nests o.count program formed b.class c.element.method))

  -- EVERY REQUEST

  made_untold : (σ : State) (a class lv : ℕ) (v : Option Refusal) → Hidden o reader a → Untold σ (made o program σ a class lv v)
  made_untold σ a class lv (Some why) h = low_refl o reader σ
  made_untold σ a class lv None h = quiet_low_one σ _ (made_quiet o l reader program σ a class lv h)

  posted_untold : (σ : State) (s : ℕ) (n : Name) (method : ℤ) (xs : List Argument) (v : Verdict) → verdict o program σ s n (natural method) (length xs) true ≡ v
      → Hidden o reader s → s < o.count
      → Untold σ (posted o program σ s n (size method) xs v)
  posted_untold σ s n method xs (denied why) e h c = low_refl o reader σ
  posted_untold σ s n method xs (admitted b) e h c =
      let a = posted-method o program l formed σ s n method true b (length xs) e in
      quiet_low_one σ _ (sent_quiet o l reader program σ s s (record { class = b.class; method = size method; statement = 0 }) AtPost n b (size method)
      (map argument_value xs) true h a.below c)

  collected_untold : (σ : State) (a : ℕ) (f : Future) → Untold σ (collected o program σ a f)
  collected_untold σ a Open = low_refl o reader σ
  collected_untold σ a (Holding x) = low_refl o reader σ

  level_below : (z : ℤ) (s : ℕ) → level_of o z ≡ Some s → s < o.count
  level_below (pos n) s e =
      elim (either (ltb n o.count))
      [ inl t ↦ let q : n ≡ s = some_one refl (rw t at e) in rw q at (ltb-true n o.count t) | inr t ↦ no_some refl (rw t at e) ]
  level_below (negsuc n) s e = no_some refl e

  pub answer_untold : (σ : State) (x : Request) → Sound o program σ → reaches o reader (bearer x) ≡ false → Untold σ (answer o program σ x)
  answer_untold σ (make a class lv) u h =
      found_any (Untold σ) σ (level_of o a) _ _ (low_refl o reader σ) λ home e.
      found_any (Untold σ) σ (level_of o lv) _ _ (low_refl o reader σ) λ k _.
      found_any (Untold σ) σ (natural class) _ _ (low_refl o reader σ) λ c _.
      made_untold σ home c k (unmakeable o program σ home c k) (level_hidden o reader a home h e)
  answer_untold σ (post a home number method xs) u h =
      found_any (Untold σ) σ (level_of o a) _ _ (low_refl o reader σ) λ s e.
      found_any (Untold σ) σ (level_of o home) _ _ (low_refl o reader σ) λ k _.
      require_any (Untold σ) σ (labels_stand o xs) _ _ (low_refl o reader σ) λ _.
      found_any (Untold σ) σ (natural number) _ _ (low_refl o reader σ) λ n _.
      posted_untold σ s (name k n) method xs _ refl (level_hidden o reader a s h e) (level_below a s e)
  answer_untold σ (turn a home number) u h =
      found_any (Untold σ) σ (level_of o a) _ _ (low_refl o reader σ) λ s e.
      found_any (Untold σ) σ (level_of o home) _ _ (low_refl o reader σ) λ k _.
      found_any (Untold σ) σ (natural number) _ _ (low_refl o reader σ) λ n _.
      found_any (Untold σ) σ (object_for o program σ s (name k n)) _ _ (low_refl o reader σ) λ b i.
      found_any (Untold σ) σ (oldest (is_for (name k n)) (σ.calls s)) _ _ (low_refl o reader σ) λ c j.
      turned_untold σ s (name k n) b c u (calls_of o program l formed σ s (name k n) b c u i j) (level_hidden o reader a s h e)
  answer_untold σ (collect a home number) u h =
      found_any (Untold σ) σ (level_of o a) _ _ (low_refl o reader σ) λ s _.
      found_any (Untold σ) σ (level_of o home) _ _ (low_refl o reader σ) λ k _.
      found_any (Untold σ) σ (natural number) _ _ (low_refl o reader σ) λ n _.
      found_any (Untold σ) σ (future_for o program σ s (name k n)) _ _ (low_refl o reader σ) λ f _.
      collected_untold σ s f
  answer_untold σ (note a class) u h =
      found_any (Untold σ) σ (level_of o a) _ _ (low_refl o reader σ) λ s e.
      found_any (Untold σ) σ (natural class) _ _ (low_refl o reader σ) λ c _.
      require_any (Untold σ) σ (ltb c (length program)) _ _ (low_refl o reader σ) λ _.
      found_any (Untold σ) σ (oldest (is_of c) (σ.notes s)) _ _ (low_refl o reader σ) λ x _.
      quiet_low_one σ (taken σ s x).state
      (record {
        objects = λ k t. refl;
        futures = λ k t. refl;
        calls = λ k t. refl;
        notes = λ k t. elsewhere o reader σ.notes s _ k
            (level_hidden o reader a s h e) t;
      })
