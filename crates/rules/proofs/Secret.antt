-- Secrecy: alike requests at a level that flows to the reader get the same answer, and so do alike lists.
use Rattle.std.proofs.Common.{◌≡◌, ℕ, zero, suc, ◌<◌, Bool, true, false, ltb, List, [], ◌∷◌, map, length, take, ℤ, pos, negsuc, Some, None, Option, sym, refl, ap, ◌∙◌, inl, inr, arith, ltb-true}
use Rattle.order.specs.Levels.{Levels, Laws}
use Rattle.script.specs.declared.class.Variable.{Variable}
use Rattle.script.specs.declared.class.Variable.TheVariants.{Local, Field}
use Rattle.script.specs.Classes.{Program}
use Rattle.script.specs.Layout.{every, well_formed}
use Rattle.rules.specs.declared.values.Name.{Name}
use Rattle.rules.specs.declared.values.Labelled.{Labelled}
use Rattle.rules.specs.declared.tables.Layer.TheVariants.{AtPost}
use Rattle.rules.specs.declared.tables.Note.{Note}
use Rattle.rules.specs.declared.tables.Future.{Future}
use Rattle.rules.specs.declared.calls.Argument.{Argument}
use Rattle.rules.specs.declared.calls.Refusal.{Refusal}
use Rattle.rules.specs.declared.calls.Answer.TheVariants.{Made, Posted, Collected}
use Rattle.rules.specs.Lists.{oldest, without, Placed, Pairs, none, more}
use Rattle.rules.specs.Values.{name}
use Rattle.rules.specs.Tables.{Object, Call, State, new, same_name}
use Rattle.rules.specs.Wrapper.{method_at, unmakeable, object_for, Verdict, admitted}
use Rattle.rules.specs.Statements.{Scene, Running, Step, read}
use Rattle.rules.specs.Turns.{before_last, statements_of, scene_of, started, turned, with_fields, resolved, reply_variable, reply, ended, paused, exec}
use Rattle.rules.specs.Calling.{Request, make, post, turn, collect, note, bearer, natural, size, level_of, is_level, argument_value, labels_stand, Served, refuse, require, found, made, posted, is_for, stopped, future_for, readable, collected, is_of, taken, answer, run_from}
use Rattle.rules.specs.Laws.{reaches, remaining, AlikeArgument, unchanged, secret, Agree, equal, posts, seen, Secrecy}
use Rattle.rules.proofs.Listing.{either, clash, pick_two, update_two}
use Rattle.rules.proofs.Invariant.{Stopped, Sound, SceneFine, RunningFine, Inside}
use Rattle.rules.proofs.Formed.{body_nests}
use Rattle.rules.proofs.Serving.{Calls, calls_of, scene_fine, started_fine, turned_fine, posted-method, answer-kept, new_sound}
use Rattle.rules.proofs.Relation.{pairs-length, pairs_set, pairs-without, pairs-map, pairs-refl, pairs-oldest, pairs-nth, PlacedPair, Both, absent, present, Seen, Hidden, Blurred, both, neither, ObjectPair, FuturePair, opens, holds, CallPair, Low, LowRun, LowStep, both_done, both_held, low_sym, low_trans, low_refl, see_down, no_flow}
use Rattle.rules.proofs.Turning.{read_fine, exec_fine}
use Rattle.rules.proofs.Agreeing.{blurred_join, ArgumentPair, alike, unlike, sent_low, VerdictPair, both_refused, both_admitted, object_low, verdict_low, unmakeable_low, made_low, exec_low}
use Rattle.rules.proofs.Hiding.{level_seen, answer_untold}

-- ARGUMENTS AS SENT

level_size : (o : Levels) (z : ℤ) → is_level o z ≡ true → size z < o.count
level_size o (pos n) e = ltb-true n o.count e
level_size o (negsuc n) e = clash e refl

size_hidden : (o : Levels) (reader : ℕ) (z : ℤ) → is_level o z ≡ true → reaches o reader z ≡ false → Hidden o reader (size z)
size_hidden o reader (pos n) e h = h
size_hidden o reader (negsuc n) e h = clash e refl

argument-pair : (o : Levels) (l : Laws o) (reader : ℕ) (x y : Argument) → AlikeArgument o reader x y
    → ArgumentPair o l reader (argument_value x) (argument_value y)
argument-pair o l reader x y (unchanged e) = alike (ap argument_value e)
argument-pair o l reader x y (secret a b h k) =
    unlike (level_size o x.label a) (level_size o y.label b) (size_hidden o reader x.label a h) (size_hidden o reader y.label b k)

-- alike arguments are levels in the same places
label_same : (o : Levels) (reader : ℕ) (x y : Argument) → AlikeArgument o reader x y → is_level o x.label ≡ is_level o y.label
label_same o reader x y (unchanged e) = ap (λ (z : Argument). is_level o z.label) e
label_same o reader x y (secret a b h k) = a ∙ sym b

labels_same : (o : Levels) (reader n : ℕ) {xs ys : List Argument} → Pairs (AlikeArgument o reader) xs ys
    → every (λ x. is_level o x.label) (take n xs) ≡ every (λ x. is_level o x.label) (take n ys)
labels_same o reader zero p = refl
labels_same o reader (suc n) none = refl
labels_same o reader (suc n) (more {x = x} {y = y} h t) = rw (label_same o reader x y h, labels_same o reader n t) refl

-- TWO LISTS

pairs-head : {X Y : Type 0} {R : X → Y → Type 0} {x : X} {y : Y} {xs : List X} {ys : List Y} → Pairs R (x ∷ xs) (y ∷ ys) → R x y
pairs-head (more h t) = h

pairs_tail : {X Y : Type 0} {R : X → Y → Type 0} {x : X} {y : Y} {xs : List X} {ys : List Y} → Pairs R (x ∷ xs) (y ∷ ys) → Pairs R xs ys
pairs_tail (more h t) = t

uneven_left : {A X Y : Type 0} {R : X → Y → Type 0} {y : Y} {ys : List Y} → Pairs R [] (y ∷ ys) → A
uneven_left p = let e = pairs-length p in absurd (omega arith)

uneven_right : {A X Y : Type 0} {R : X → Y → Type 0} {x : X} {xs : List X} → Pairs R (x ∷ xs) [] → A
uneven_right p = let e = pairs-length p in absurd (omega arith)

cons_same : {X : Type 0} {x y : X} {xs ys : List X} → x ≡ y → xs ≡ ys → x ∷ xs ≡ y ∷ ys
cons_same p q = λ i. p i ∷ q i

-- THE CHECKS, IN TWO RUNS

found_same : {X : Type 0} (R : Served → Served → Type 0) (σ τ : State) (x : Option X) (why : Refusal) (f g : X → Served) → R (refuse σ why) (refuse τ why)
    → ((y : X) → x ≡ Some y → R (f y) (g y)) → R (found σ x why f) (found τ x why g)
found_same R σ τ None why f g h k = h
found_same R σ τ (Some y) why f g h k = k y refl

found_two : {X Y : Type 0} (R : Served → Served → Type 0) (S : X → Y → Type 0) (σ τ : State)
    (x : Option X) (y : Option Y) (why : Refusal) (f : X → Served) (g : Y → Served) → Both S x y → R (refuse σ why) (refuse τ why)
    → ((a : X) (b : Y) → x ≡ Some a → y ≡ Some b → S a b → R (f a) (g b)) → R (found σ x why f) (found τ y why g)
found_two R S σ τ x y why f g absent h k = h
found_two R S σ τ x y why f g (present {x = a} {y = b} p) h k = k a b refl refl p

require_two : (R : Served → Served → Type 0) (σ τ : State) (b : Bool) (why : Refusal) (x y : Served) → R (refuse σ why) (refuse τ why) → R x y
    → R (require σ b why x) (require τ b why y)
require_two R σ τ true why x y h k = k
require_two R σ τ false why x y h k = h

module _ (o : Levels) (program : Program) (l : Laws o) (formed : well_formed o.count program ≡ true) (reader : ℕ) where
  open l use {from, to, itself, through, bottom, level, left, right, least}

  -- the same answer, and states that the reader cannot tell apart
  record Agreed (x y : Served) : Type 0 where
    answer_is : x.answer ≡ y.answer
    states : Low o reader x.state y.state

  refused_both : (σ τ : State) (why : Refusal) → Low o reader σ τ → Agreed (refuse σ why) (refuse τ why)
  refused_both σ τ why low = record { answer_is = refl; states = low }

  -- TURN

  -- two objects, and two calls in line for them, that are alike
  record Pair (b d : Object) (c e : Placed Call) : Type 0 where
    class_is : b.class ≡ d.class
    level_is : b.level ≡ d.level
    place_is : c.place ≡ e.place
    receiver_is : c.element.receiver ≡ e.element.receiver
    method_is : c.element.method ≡ e.element.method
    next_is : c.element.next ≡ e.element.next
    owed_is : c.element.owed ≡ e.element.owed

  objects_back : (n : Name) (b d : Object) (q p : Running) → b.class ≡ d.class → b.level ≡ d.level → LowRun o reader q p → (k : ℕ) → Seen o reader k
      → Pairs (ObjectPair o reader) (with_fields q.tables.objects n b q.fields k) (with_fields p.tables.objects n d p.fields k)
  objects_back n b d q p e f low k t =
      update_two (Pairs (ObjectPair o reader)) q.tables.objects p.tables.objects n.home k _ _
      (λ i. pairs_set n.number (low.tables.objects n.home (rw i t)) (record { class_is = e; level_is = f; fields = λ j. low.vars (Field j) }))
      (low.tables.objects k t)

  resolved-pair : (w : Option ℕ) (x y : Labelled) (fs gs : List Future) → Pairs (FuturePair o reader) fs gs → Blurred o reader x y
      → Pairs (FuturePair o reader) (resolved w x fs) (resolved w y gs)
  resolved-pair None x y fs gs p h = p
  resolved-pair (Some n) x y fs gs p h = pairs_set n p (holds x y refl refl h)

  ended_low : (s : ℕ) (n : Name) (b d : Object) (c e : Placed Call) (q p : Running) → Pair b d c e
      → Blurred o reader (reply o program s b c.element q) (reply o program s d e.element p) → LowRun o reader q p
      → Low o reader (ended o program s n b c q) (ended o program s n d e p)
  ended_low s n b d c e q p i h low =
      record {
        objects = objects_back n b d q p i.class_is i.level_is low;
        futures = λ k t.
            update_two (Pairs (FuturePair o reader)) q.tables.futures p.tables.futures s k _ _
            (λ j. rw i.owed_is (resolved-pair e.element.owed _ _ _ _ (low.tables.futures s (rw j t)) h)) (low.tables.futures k t);
        calls = λ k t.
            update_two (Pairs (CallPair o reader)) q.tables.calls p.tables.calls s k _ _
            (λ j. rw i.place_is (pairs-without e.place (low.tables.calls s (rw j t)))) (low.tables.calls k t);
        notes = low.tables.notes;
      }

  paused_low : (s : ℕ) (n : Name) (b d : Object) (c e : Placed Call) (at : ℕ) (q p : Running) → Pair b d c e → LowRun o reader q p
      → Low o reader (paused s n b c at q) (paused s n d e at p)
  paused_low s n b d c e at q p i low =
      record {
        objects = objects_back n b d q p i.class_is i.level_is low;
        futures = low.tables.futures;
        calls = λ k t.
            update_two (Pairs (CallPair o reader)) q.tables.calls p.tables.calls s k _ _
            (λ j. rw i.place_is
            (pairs_set e.place (low.tables.calls s (rw j t))
            (record { receiver_is = i.receiver_is; method_is = i.method_is; next_is = refl; owed_is = i.owed_is; locals = λ k. low.vars (Local k) })))
            (low.tables.calls k t);
        notes = low.tables.notes;
      }

  reply_low : (scene : Scene) (ok : SceneFine o program scene) (σ τ : State) (s : ℕ) (b d : Object) (c e : Call) (q p : Running) → b.class ≡ d.class
      → c.method ≡ e.method → Seen o reader s
      → RunningFine o program scene σ q → RunningFine o program scene τ p → LowRun o reader q p
      → Blurred o reader (reply o program s b c q) (reply o program s d e p)
  reply_low scene ok σ τ s b d c e q p i j t f g low =
      let x = reply_variable program d.class e.method in
      let same : reply_variable program b.class c.method ≡ x = rw (i, j) refl in
      rw same
      (blurred_join o l reader s (read q x) (read p x) (from _ _ (read_fine o program l scene ok σ q x f).flows)
      (from _ _ (read_fine o program l scene ok τ p x g).flows) (from _ _ t) t (low.vars x))

  stopped_low : (scene : Scene) (ok : SceneFine o program scene) (σ τ : State) (s : ℕ) (n : Name) (b d : Object) (c e : Placed Call) (x y : Step) → Pair b d c e
      → Seen o reader s
      → Stopped (RunningFine o program scene σ) x → Stopped (RunningFine o program scene τ) y → LowStep o reader x y
      → Agreed (stopped o program s n b c x) (stopped o program s n d e y)
  stopped_low scene ok σ τ s n b d c e x y i t f g (both_done {q = q} {p = p} low) =
      record {
        answer_is = refl;
        states = ended_low s n b d c e q p i (reply_low scene ok σ τ s b d c.element e.element q p i.class_is i.method_is t f g low) low;
      }
  stopped_low scene ok σ τ s n b d c e x y i t f g (both_held {at =
      at} {q = q} {p = p} low) = record { answer_is = refl; states = paused_low s n b d c e at q p i low }

  -- the two scenes are one
  scenes_same : (s : ℕ) (n : Name) (b d : Object) (c e : Placed Call) → Pair b d c e → scene_of program s n d e.element ≡ scene_of program s n b c.element
  scenes_same s n b d c e i =
      let k = sym i.class_is in
      let v = sym i.level_is in
      let m = sym i.method_is in
      let x = sym i.next_is in
      λ j. record {
        self = n;
        class = k j;
        level = v j;
        method = m j;
        body = before_last (statements_of (method_at program (k j) (Some (m j))));
        called_at = s;
        from = x j;
      }

  turned_low : (σ τ : State) (s : ℕ) (n : Name) (b d : Object) (c e : Placed Call) → Sound o program σ → Sound o program τ → Calls o program l formed σ s n b c
      → Calls o program l formed τ s n d e
      → Pair b d c e → Seen o reader s → LowRun o reader (started σ b c.element) (started τ d e.element)
      → Agreed (stopped o program s n b c (turned o program σ s n b c.element)) (stopped o program s n d e (turned o program τ s n d e.element))
  turned_low σ τ s n b d c e u v f g i t low =
      let scene = scene_of program s n b c.element in
      let ok = scene_fine o program l formed σ s n b c f in
      let same = scenes_same s n b d c e i in
      let first = started_fine o program l formed σ s n b c u f in
      let second : RunningFine o program scene τ (started τ d e.element) = rw same at (started_fine o program l formed τ s n d e v g) in
      let other : turned o program τ s n d e.element ≡ exec o program scene (length scene.body) 0 (length scene.body) s (started τ d e.element)
      = ap (λ (z : Scene). exec o program z (length z.body) 0 (length z.body) s (started τ d e.element)) same in
      let inside : Inside o program scene s = record { up = itself s (from s _ f.below); down = f.below } in
      rw other
      (stopped_low scene ok σ τ s n b d c e _ _ i t
      (turned_fine o program l formed σ s n b c u f)
      (exec_fine o program l scene ok τ (length scene.body) 0 (length scene.body) s _ inside second)
      (exec_low o program l scene ok σ τ reader t (length scene.body) 0 (length scene.body) s 4 _ _ inside t first second
      (body_nests o.count program formed b.class c.element.method) low))

  started_low : (σ τ : State) (b d : Object) (c e : Call) → ObjectPair o reader b d → CallPair o reader c e → Low o reader σ τ
      → LowRun o reader (started σ b c) (started τ d e)
  started_low σ τ b d c e p q low = record { vars = vars; tables = low }
    where
      vars : (x : Variable) → Blurred o reader (read (started σ b c) x) (read (started τ d e) x)
      vars (Local k) = q.locals k
      vars (Field k) = p.fields k

  -- MAKE, POST, COLLECT, NOTE

  made_agreed : (σ τ : State) (a class lv : ℕ) (v : Option Refusal) → Seen o reader a → Low o reader σ τ
      → Agreed (made o program σ a class lv v) (made o program τ a class lv v)
  made_agreed σ τ a class lv (Some why) t low = refused_both σ τ why low
  made_agreed σ τ a class lv None t low =
      record { answer_is = ap (λ k. Made (name a k)) (pairs-length (low.objects a t)); states = made_low o l reader program σ τ a class lv t low }

  posted_agreed : (σ τ : State) (s : ℕ) (n : Name) (method : ℕ) (xs ys : List Argument) (v w : Verdict)
      → ((b : Object) → v ≡ admitted b → o.flow s b.level ≡ true) → VerdictPair o l reader v w
      → Seen o reader s → Pairs (AlikeArgument o reader) xs ys → Low o reader σ τ → Agreed (posted o program σ s n method xs v) (posted o program τ s n method ys w)
  posted_agreed σ τ s n method xs ys v w f (both_refused {why = why}) t p low = refused_both σ τ why low
  posted_agreed σ τ s n method xs ys v w f (both_admitted {b = b} {d = d} m) t p low =
      record {
        answer_is = ap (λ k. Posted (name s k)) (pairs-length (low.futures s t));
        states =
            let place : b.class ≡ d.class = m.class_is in
            rw place
            (sent_low o l reader program σ τ s s (record { class = d.class; method = method; statement = 0 }) AtPost n b d method (map argument_value xs)
            (map argument_value ys) true t t (f b refl) m.level_is
            (pairs-map (ArgumentPair o l reader) argument_value argument_value (λ x y k. argument-pair o l reader x y k) p) low);
      }

  readable_same : (s : ℕ) (x y : Labelled) → Seen o reader s → Blurred o reader x y → readable o program s x ≡ readable o program s y
  readable_same s x y t (both u e) = ap (λ z. readable o program s z) e
  readable_same s x y t (neither h k) = rw (no_flow o l reader x.label s h t, no_flow o l reader y.label s k t) refl

  collected_agreed : (σ τ : State) (s : ℕ) (f g : Future) → Seen o reader s → FuturePair o reader f g → Low o reader σ τ
      → Agreed (collected o program σ s f) (collected o program τ s g)
  collected_agreed σ τ s f g t (opens p q) low = rw (p, q) (refused_both σ τ _ low)
  collected_agreed σ τ s f g t (holds x y p q h) low = rw (p, q) (record { answer_is = ap Collected (readable_same s x y t h); states = low })

  future_low : (σ τ : State) (s : ℕ) (n : Name) → Seen o reader s → Low o reader σ τ
      → Both (FuturePair o reader) (future_for o program σ s n) (future_for o program τ s n)
  future_low σ τ s n t q =
      pick_two (Both (FuturePair o reader)) (o.flow n.home s) _ _ _ _ (λ f. pairs-nth n.number (q.futures n.home (see_down o l reader _ s f t)))
      (λ _. absent)

  taken_agreed : (σ τ : State) (s : ℕ) (x : Placed Note) → Seen o reader s → Low o reader σ τ → Agreed (taken σ s x) (taken τ s x)
  taken_agreed σ τ s x t low =
      record {
        answer_is = refl;
        states =
            record {
              objects = low.objects;
              futures = low.futures;
              calls = low.calls;
              notes = λ k u. update_two ◌≡◌ σ.notes τ.notes s k _ _ (λ _. ap (without x.place) (low.notes s t)) (low.notes k u);
            };
      }

  -- ONE REQUEST IN BOTH RUNS

  post_agreed : (σ τ : State) (a home number method : ℤ) (xs ys : List Argument) → Pairs (AlikeArgument o reader) xs ys → Low o reader σ τ
      → reaches o reader a ≡ true
      → Agreed (answer o program σ (post a home number method xs)) (answer o program τ (post a home number method ys))
  post_agreed σ τ a home number method xs ys p low t =
      rw (labels_same o reader 4 p, pairs-length p)
      (found_same Agreed σ τ (level_of o a) _ _ _ (refused_both σ τ _ low) λ s e.
      found_same Agreed σ τ (level_of o home) _ _ _ (refused_both σ τ _ low) λ h _.
      require_two Agreed σ τ (labels_stand o ys) _ _ _ (refused_both σ τ _ low) (
      found_same Agreed σ τ (natural number) _ _ _ (refused_both σ τ _ low) λ n _.
      let u = level_seen o reader a s t e in
      posted_agreed σ τ s (name h n) (size method) xs ys _ _ (λ b i. (posted-method o program l formed σ s (name h n) method true b (length ys) i).below)
      (verdict_low o l reader program σ τ s (name h n) (natural method) (length ys) true u low) u p low))

  same_agreed : (σ τ : State) (x : Request) → Sound o program σ → Sound o program τ → Low o reader σ τ → reaches o reader (bearer x) ≡ true
      → Agreed (answer o program σ x) (answer o program τ x)
  same_agreed σ τ (make a class lv) u v low t =
      found_same Agreed σ τ (level_of o a) _ _ _ (refused_both σ τ _ low) λ s e.
      found_same Agreed σ τ (level_of o lv) _ _ _ (refused_both σ τ _ low) λ k _.
      found_same Agreed σ τ (natural class) _ _ _ (refused_both σ τ _ low) λ c _.
      let i = level_seen o reader a s t e in
      rw (unmakeable_low o l reader program σ τ s c k i low) (made_agreed σ τ s c k (unmakeable o program τ s c k) i low)
  same_agreed σ τ (post a home number method xs) u v low t =
      post_agreed σ τ a home number method xs xs (pairs-refl (AlikeArgument o reader) (λ x. unchanged refl) xs) low t
  same_agreed σ τ (turn a home number) u v low t =
      found_same Agreed σ τ (level_of o a) _ _ _ (refused_both σ τ _ low) λ s e.
      found_same Agreed σ τ (level_of o home) _ _ _ (refused_both σ τ _ low) λ h _.
      found_same Agreed σ τ (natural number) _ _ _ (refused_both σ τ _ low) λ n _.
      let i = level_seen o reader a s t e in
      found_two Agreed (ObjectPair o reader) σ τ (object_for o program σ s (name h n))
      (object_for o program τ s (name h n)) _ _ _ (object_low o l reader program σ τ s (name h n) i low) (refused_both σ τ _ low) λ b d j k p.
      found_two Agreed (PlacedPair (CallPair o reader)) σ τ (oldest (is_for (name h n)) (σ.calls s)) (oldest (is_for (name h n)) (τ.calls s)) _ _ _
      (pairs-oldest (is_for (name h n)) (is_for (name h n)) (λ x y m. ap (λ z. same_name z (name h n)) m.receiver_is) (low.calls s i))
      (refused_both σ τ _ low) λ c g m q r.
      turned_low σ τ s (name h n) b d c g u v (calls_of o program l formed σ s (name h n) b c u j m) (calls_of o program l formed τ s (name h n) d g v k q)
      (record {
        class_is = p.class_is;
        level_is = p.level_is;
        place_is = r.place_is;
        receiver_is = r.element.receiver_is;
        method_is = r.element.method_is;
        next_is = r.element.next_is;
        owed_is = r.element.owed_is;
      })
      i (started_low σ τ b d c.element g.element p r.element low)
  same_agreed σ τ (collect a home number) u v low t =
      found_same Agreed σ τ (level_of o a) _ _ _ (refused_both σ τ _ low) λ s e.
      found_same Agreed σ τ (level_of o home) _ _ _ (refused_both σ τ _ low) λ h _.
      found_same Agreed σ τ (natural number) _ _ _ (refused_both σ τ _ low) λ n _.
      let i = level_seen o reader a s t e in
      found_two Agreed (FuturePair o reader) σ τ (future_for o program σ s (name h n))
      (future_for o program τ s (name h n)) _ _ _ (future_low σ τ s (name h n) i low) (refused_both σ τ _ low) λ f g _ _ p.
      collected_agreed σ τ s f g i p low
  same_agreed σ τ (note a class) u v low t =
      found_same Agreed σ τ (level_of o a) _ _ _ (refused_both σ τ _ low) λ s e.
      found_same Agreed σ τ (natural class) _ _ _ (refused_both σ τ _ low) λ c _.
      require_two Agreed σ τ (ltb c (length program)) _ _ _ (refused_both σ τ _ low) (
      let i = level_seen o reader a s t e in
      let line : oldest (is_of c) (σ.notes s) ≡ oldest (is_of c) (τ.notes s) = ap (oldest (is_of c)) (low.notes s i) in
      rw line (found_same Agreed σ τ (oldest (is_of c) (τ.notes s)) _ _ _ (refused_both σ τ _ low) λ x _. taken_agreed σ τ s x i low))

  agree_agreed : (σ τ : State) (x y : Request) → Sound o program σ → Sound o program τ → Low o reader σ τ → reaches o reader (bearer x) ≡ true → Agree o reader x y
      → Agreed (answer o program σ x) (answer o program τ y)
  agree_agreed σ τ x y u v low t (equal e) = rw (← e) (same_agreed σ τ x u v low t)
  agree_agreed σ τ x y u v low t (posts a home number method xs ys e f p) =
      rw (e, f) (post_agreed σ τ a home number method xs ys p low (ap (λ z. reaches o reader (bearer z)) (sym e) ∙ t))

  -- EVERY LIST

  -- a request that is struck leaves the states as alike as they were
  struck_left : (σ τ : State) (x : Request) → Sound o program σ → reaches o reader (bearer x) ≡ false → Low o reader σ τ
      → Low o reader (answer o program σ x).state τ
  struck_left σ τ x u h low = low_trans o reader _ σ τ (low_sym o reader σ _ (answer_untold o program l formed reader σ x u h)) low

  struck_right : (σ τ : State) (y : Request) → Sound o program τ → reaches o reader (bearer y) ≡ false → Low o reader σ τ
      → Low o reader σ (answer o program τ y).state
  struck_right σ τ y v h low = low_trans o reader σ τ _ low (answer_untold o program l formed reader τ y v h)

  abbrev SameSeen : State → State → List Request → List Request → Type 0
  SameSeen σ τ xs ys = seen o reader xs (run_from o program σ xs).answers ≡ seen o reader ys (run_from o program τ ys).answers

  none_left : (ys : List Request) (τ : State) → Pairs (Agree o reader) [] (remaining o reader ys) → [] ≡ seen o reader ys (run_from o program τ ys).answers
  none_left [] τ p = refl
  none_left (y ∷ ys) τ p =
      elim (either (reaches o reader (bearer y))) [
        | inl k ↦ uneven_left (rw k at p)
        | inr k ↦ rw k (none_left ys (answer o program τ y).state (rw k at p))
      ]

  -- the first list goes on with a request that the reader sees: so does the second, behind what is struck from it
  goes_on : (x : Request) (xs : List Request) → reaches o reader (bearer x) ≡ true
      → ((σ τ : State) (ys : List Request) → Sound o program σ → Sound o program τ → Low o reader σ τ
      → Pairs (Agree o reader) (remaining o reader xs) (remaining o reader ys) → SameSeen σ τ xs ys)
      → (ys : List Request) (σ τ : State) → Sound o program σ → Sound o program τ → Low o reader σ τ
      → Pairs (Agree o reader) (x ∷ remaining o reader xs) (remaining o reader ys)
      → (answer o program σ x).answer ∷ seen o reader xs (run_from o program (answer o program σ x).state xs).answers ≡ seen o reader ys (run_from o program τ ys).answers
  goes_on x xs t rest [] σ τ u v low p = uneven_right p
  goes_on x xs t rest (y ∷ ys) σ τ u v low p =
      elim (either (reaches o reader (bearer y))) [
        | inl k ↦
            let pair : Pairs (Agree o reader) (x ∷ remaining o reader xs) (y ∷ remaining o reader ys) = rw k at p in
            let one = agree_agreed σ τ x y u v low t (pairs-head pair) in
            rw k
            (cons_same one.answer_is
            (rest (answer o program σ x).state (answer o program τ y).state ys (answer-kept o program l formed σ x u).sound
            (answer-kept o program l formed τ y v).sound one.states (pairs_tail pair)))
        | inr k ↦ rw k (goes_on x xs t rest ys σ (answer o program τ y).state u (answer-kept o program l formed τ y v).sound (struck_right σ τ y v k low)
            (rw k at p))
      ]

  lists_agree : (xs : List Request) (σ τ : State) (ys : List Request) → Sound o program σ → Sound o program τ → Low o reader σ τ
      → Pairs (Agree o reader) (remaining o reader xs) (remaining o reader ys) → SameSeen σ τ xs ys
  lists_agree [] σ τ ys u v low p = none_left ys τ p
  lists_agree (x ∷ xs) σ τ ys u v low p =
      elim (either (reaches o reader (bearer x))) [
        | inl t ↦ rw t (goes_on x xs t (lists_agree xs) ys σ τ u v low (rw t at p))
        | inr t ↦ rw t (lists_agree xs (answer o program σ x).state τ ys (answer-kept o program l formed σ x u).sound v (struck_left σ τ x u t low) (rw t at p))
      ]

pub secrecy : Secrecy
secrecy o l program formed first reader below second p =
    lists_agree o program l formed reader first new new second (new_sound o program l formed) (new_sound o program l formed) (low_refl o reader new) p
