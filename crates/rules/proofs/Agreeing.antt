-- Two turns from states that the reader cannot tell apart, in a context that it sees, come to such states.
use Rattle.std.proofs.Common.{◌≡◌, ℕ, zero, suc, ◌+◌, ◌<◌, Bool, true, false, cond, not, ◌&&◌, ltb, ◌⊎◌, List, length, get_or, ℤ, Some, None, Option, sym, refl, ap, ◌∙◌, inl, inr, arith}
use Rattle.order.specs.Levels.{Levels, Laws}
use Rattle.script.specs.declared.class.Variable.{Variable}
use Rattle.script.specs.declared.class.Variable.TheVariants.{Local, Field}
use Rattle.script.specs.declared.class.Arguments.{Arguments}
use Rattle.script.specs.declared.class.Arguments.TheVariants.{Empty, One, Two, Three, Four}
use Rattle.script.specs.declared.class.Statement.{Statement}
use Rattle.script.specs.declared.class.Statement.TheVariants.{Constant, Itself, Copy, Add, Subtract, Less, Branch, Invoke, Get, Create, Return}
use Rattle.script.specs.Classes.{Method, Program}
use Rattle.script.specs.Bodies.{idle, branches_fit, nested}
use Rattle.rules.specs.declared.values.Mark.TheVariants.{Withheld, WrongKind}
use Rattle.rules.specs.declared.values.Name.{Name}
use Rattle.rules.specs.declared.values.Value.{Value}
use Rattle.rules.specs.declared.values.Value.TheVariants.{Number, ObjectName, FutureName, Marked}
use Rattle.rules.specs.declared.values.Labelled.{Labelled}
use Rattle.rules.specs.declared.tables.Layer.{Layer}
use Rattle.rules.specs.declared.tables.Layer.TheVariants.{AtObject, AtFuture, AtStatement}
use Rattle.rules.specs.declared.tables.Note.{Note}
use Rattle.rules.specs.declared.tables.Future.{Future}
use Rattle.rules.specs.declared.tables.Future.TheVariants.{Open, Holding}
use Rattle.rules.specs.declared.calls.Refusal.{Refusal}
use Rattle.rules.specs.Lists.{added, Pairs, none, more}
use Rattle.rules.specs.Values.{name, labelled, nought, blank, Made, plain, fresh, given, plus, minus, less}
use Rattle.rules.specs.Tables.{Object, State, Place, most_notes, note_of, filed, all_filed}
use Rattle.rules.specs.Wrapper.{assigned, taking, method_at, unmakeable, with_object, flows_in, room, Verdict, admitted, refused, judged_flow, judged, object_for, verdict, shown, sent}
use Rattle.rules.specs.Statements.{Scene, Running, Step, done, held, Run, read, stored, with_tables, passed, call_mark, object_mark, given_to, Fetched, gives, waits, branch, put, with_result, raise, asked, invoked, opened, fetched, received, created, operated, act}
use Rattle.rules.specs.Turns.{bind, passing, exec}
use Rattle.rules.proofs.Listing.{either, clash, pick_one, pick_two, update_two, get_or_cases}
use Rattle.rules.proofs.Invariant.{Stopped, Homed, Fine, FutureFine, Sound, SceneFine, RunningFine, Inside}
use Rattle.rules.proofs.Keeping.{verdict_admits}
use Rattle.rules.proofs.Turning.{when_two, branch_two, exec-zero, exec_more, exec_done, read_fine, raise_fine, inner_inside, Keeps, step_fine, exec_fine}
use Rattle.rules.proofs.Relation.{pairs-length, pairs-snoc, pairs_at, pairs-map, Both, absent, present, pairs-nth, Seen, Hidden, Blurred, both, neither, ObjectPair, FuturePair, opens, holds, CallPair, Low, LowRun, LowStep, both_done, both_held, blurred_refl, object_refl, confined_refl, dimmed_low, confined_low, see_down, hide_left, hide_right, see_both, no_flow}
use Rattle.rules.proofs.Ranges.{Hit, wider, hit_assigned, nested_parts, branch_fits}
use Rattle.rules.proofs.Confining.{worked-label, hide_one, filed_quiet, result_dim, invoked_dim, FetchedDark, fetched_dark, read-raise, DarkStep, Hides, branch_dark, exec_dark}

read-stored_two : (R : Labelled → Labelled → Type 0) (q p : Running) (to x : Variable) (v w : Labelled) → R v w → R (read q x) (read p x)
    → R (read (stored q to v) x) (read (stored p to w) x)
read-stored_two R q p (Local i) (Local j) v w h k = update_two R q.locals p.locals i j v w (λ _. h) k
read-stored_two R q p (Local i) (Field j) v w h k = k
read-stored_two R q p (Field i) (Local j) v w h k = k
read-stored_two R q p (Field i) (Field j) v w h k = update_two R q.fields p.fields i j v w (λ _. h) k

module _ (o : Levels) (l : Laws o) (reader : ℕ) where
  open l use {from, to, itself, through, bottom, level, left, right, least}

  -- what is hidden in a join of which one part is seen is the other part
  hidden_part : (a b : ℕ) → Hidden o reader (o.join a b) → Seen o reader b → Hidden o reader a
  hidden_part a b h s = elim (either (o.flow a reader)) [ inl t ↦ clash (see_both o l reader a b t s) h | inr k ↦ k ]

  pub blurred_join : (c : ℕ) (x y : Labelled) → x.label < o.count → y.label < o.count → c < o.count → Seen o reader c → Blurred o reader x y
      → Blurred o reader (labelled x.value (o.join x.label c)) (labelled y.value (o.join y.label c))
  blurred_join c x y a b d s (both t e) = both (see_both o l reader _ _ t s) (ap (λ (z : Labelled). labelled z.value (o.join z.label c)) e)
  blurred_join c x y a b d s (neither h k) = neither (hide_left o l reader _ _ a d h) (hide_left o l reader _ _ b d k)

  -- two results of one statement: the same, or both hidden
  pub data MadePair (context : ℕ) (m n : Made) : Type 0 where
    equal : m ≡ n → MadePair context m n
    dark : Hidden o reader (o.join (given m).label context) → Hidden o reader (o.join (given n).label context) → MadePair context m n

  made_blurred : (context : ℕ) (m n : Made) → Seen o reader context → MadePair context m n → Blurred o reader (given m) (given n)
  made_blurred context m n s (equal e) = rw e (blurred_refl o reader (given n))
  made_blurred context m n s (dark h k) = neither (hidden_part _ context h s) (hidden_part _ context k s)

  -- NOTES

  filed_same : (context : ℕ) (w : Place) (m : Made) (notes notes' : ℕ → List Note) → ((k : ℕ) → Seen o reader k → notes k ≡ notes' k) → (k : ℕ) → Seen o reader k
      → filed o.join context w m notes k ≡ filed o.join context w m notes' k
  filed_same context w (plain x) notes notes' h k s = h k s
  filed_same context w (fresh mark layer lb) notes notes' h k s =
      update_two ◌≡◌ notes notes' (o.join lb context) k _ _ (λ e. ap (λ ns. added most_notes ns (note_of mark layer w)) (h (o.join lb context) (rw e s))) (h k s)

  filed-pair : (context : ℕ) (w : Place) (m n : Made) (notes notes' : ℕ → List Note) → MadePair context m n → ((k : ℕ) → Seen o reader k → notes k ≡ notes' k)
      → (k : ℕ) → Seen o reader k
      → filed o.join context w m notes k ≡ filed o.join context w n notes' k
  filed-pair context w m n notes notes' (equal e) h k s = rw e (filed_same context w n notes notes' h k s)
  filed-pair context w m n notes notes' (dark a b) h k s =
      filed_quiet o l reader context w m notes k a s ∙ (h k s ∙ sym (filed_quiet o l reader context w n notes' k b s))

  all_filed_pair : (context : ℕ) (w : Place) {ms ns : List Made} → Pairs (MadePair context) ms ns → (notes notes' : ℕ → List Note)
      → ((k : ℕ) → Seen o reader k → notes k ≡ notes' k) → (k : ℕ) → Seen o reader k
      → all_filed o.join context w ms notes k ≡ all_filed o.join context w ns notes' k
  all_filed_pair context w none notes notes' h k s = h k s
  all_filed_pair context w (more {x = m} {y = n} p t) notes notes' h k s =
      all_filed_pair context w t (filed o.join context w m notes) (filed o.join context w n notes') (filed-pair context w m n notes notes' p h) k s

  -- A CALL IS SENT

  -- two arguments: the same, or both hidden
  pub data ArgumentPair (x y : Labelled) : Type 0 where
    alike : x ≡ y → ArgumentPair x y
    unlike : x.label < o.count → y.label < o.count → Hidden o reader x.label → Hidden o reader y.label → ArgumentPair x y

  pub blurred_argument : (x y : Labelled) → x.label < o.count → y.label < o.count → Blurred o reader x y → ArgumentPair x y
  blurred_argument x y a b (both s e) = alike e
  blurred_argument x y a b (neither h k) = unlike a b h k

  shown_hidden : (program : Program) (lv s context : ℕ) (layer : Layer) (x : Labelled) → x.label < o.count → s < o.count → lv < o.count → context < o.count
      → Hidden o reader x.label → Hidden o reader lv
      → Hidden o reader (o.join (given (shown o program lv s layer x)).label context)
  shown_hidden program lv s context layer x a b c d h k =
      pick_one (λ (m : Made). Hidden o reader (o.join (given m).label context)) (o.flow (o.join x.label s) lv) _ _
      (λ _. hide_left o l reader _ context (level _ _) d (hide_left o l reader _ _ a b h)) (λ _. hide_left o l reader lv context c d k)

  shown-pair : (program : Program) (lv s context : ℕ) (layer : Layer) (x y : Labelled) → o.flow s lv ≡ true → context < o.count → ArgumentPair x y
      → MadePair context (shown o program lv s layer x) (shown o program lv s layer y)
  shown-pair program lv s context layer x y f c (alike e) = equal (ap (λ z. shown o program lv s layer z) e)
  shown-pair program lv s context layer x y f c (unlike a b h k) =
      elim (either (o.flow lv reader)) [
        | inl t ↦
            let p = no_flow o l reader (o.join x.label s) lv (hide_left o l reader _ _ a (from s lv f) h) t in
            let q = no_flow o l reader (o.join y.label s) lv (hide_left o l reader _ _ b (from s lv f) k) t in
            equal (rw (p, q) refl)
        | inr t ↦ dark (shown_hidden program lv s context layer x a (from s lv f) (to s lv f) c h t)
            (shown_hidden program lv s context layer y b (from s lv f) (to s lv f) c k t)
      ]

  pub sent_low : (program : Program) (σ τ : State) (s context : ℕ) (w : Place) (layer : Layer)
      (n : Name) (b d : Object) (method : ℕ) (xs ys : List Labelled) (answered : Bool) → Seen o reader s → Seen o reader context
      → o.flow s b.level ≡ true → b.level ≡ d.level → Pairs ArgumentPair xs ys → Low o reader σ τ
      → Low o reader (sent o program σ s context w layer n b method xs answered) (sent o program τ s context w layer n d method ys answered)
  sent_low program σ τ s context w layer n b d method xs ys answered t c f e p q =
      let show = shown o program b.level s layer in
      let shows = pairs-map (MadePair context) show show (λ x y k. shown-pair program b.level s context layer x y f (from _ _ c) k) p in
      rw (← e)
      (record {
        objects = q.objects;
        futures = λ k u.
            pick_two (λ (f g : ℕ → List Future). Pairs (FuturePair o reader) (f k) (g k)) answered _ _ _ _
            (λ _. update_two (Pairs (FuturePair o reader)) σ.futures τ.futures s k _ _ (λ _. pairs-snoc (q.futures s t) (opens refl refl)) (q.futures k u))
            (λ _. q.futures k u);
        calls = λ k u.
            update_two (Pairs (CallPair o reader)) σ.calls τ.calls s k _ _
            (λ _. pairs-snoc (q.calls s t)
            (record {
              receiver_is = refl;
              method_is = refl;
              next_is = refl;
              owed_is = ap (λ n. cond answered (Some n) None) (pairs-length (q.futures s t));
              locals = λ i.
                  pick_two (Blurred o reader) (ltb i 8) _ _ _ _
                  (λ _. pairs_at i (nought s) (nought s) (blurred_refl o reader (nought s))
                  (pairs-map (Blurred o reader) given given (λ m m' k. made_blurred context m m' c k) shows))
                  (λ _. blurred_refl o reader blank);
            }))
            (q.calls k u);
        notes = all_filed_pair context w shows σ.notes τ.notes q.notes;
      })

  -- THE VERDICT

  pub data VerdictPair : Verdict → Verdict → Type 0 where
    both_refused : {why : Refusal} → VerdictPair (refused why) (refused why)
    both_admitted : {b d : Object} → ObjectPair o reader b d → VerdictPair (admitted b) (admitted d)

  verdict-when : (t : Bool) {x y z w : Verdict} → VerdictPair x z → VerdictPair y w → VerdictPair (cond t x y) (cond t z w)
  verdict-when true h k = h
  verdict-when false h k = k

  judged_flow_low : (program : Program) (σ τ : State) (s home : ℕ) (answered : Bool) (b d : Object) (m : Option Method) → room σ s answered ≡ room τ s answered
      → ObjectPair o reader b d
      → VerdictPair (judged_flow o program σ s home answered b m) (judged_flow o program τ s home answered d m)
  judged_flow_low program σ τ s home answered b d None e p = both_refused
  judged_flow_low program σ τ s home answered b d (Some m) e p =
      let f : flows_in o program s b home m ≡ flows_in o program s d home m = rw (p.class_is, p.level_is) refl in
      rw (f, e) (verdict-when (flows_in o program s d home m) (verdict-when (room τ s answered) (both_admitted p) both_refused) both_refused)

  judged_low : (program : Program) (σ τ : State) (s home : ℕ) (method : Option ℕ) (count : ℕ) (answered : Bool) {x y : Option Object}
      → room σ s answered ≡ room τ s answered → Both (ObjectPair o reader) x y
      → VerdictPair (judged o program σ s home method count answered x) (judged o program τ s home method count answered y)
  judged_low program σ τ s home method count answered e absent = both_refused
  judged_low program σ τ s home method count answered e (present {x = b} {y = d} p) =
      let same : taking count (method_at program b.class method) ≡ taking count (method_at program d.class method) = ap
      (λ c. taking count (method_at program c method)) p.class_is in
      rw same (judged_flow_low program σ τ s home answered b d (taking count (method_at program d.class method)) e p)

  pub object_low : (program : Program) (σ τ : State) (s : ℕ) (n : Name) → Seen o reader s → Low o reader σ τ
      → Both (ObjectPair o reader) (object_for o program σ s n) (object_for o program τ s n)
  object_low program σ τ s n t q =
      pick_two (Both (ObjectPair o reader)) (o.flow n.home s) _ _ _ _ (λ f. pairs-nth n.number (q.objects n.home (see_down o l reader _ s f t)))
      (λ _. absent)

  room_low : (σ τ : State) (s : ℕ) (answered : Bool) → Seen o reader s → Low o reader σ τ → room σ s answered ≡ room τ s answered
  room_low σ τ s answered t q = rw (pairs-length (q.futures s t), pairs-length (q.calls s t)) refl

  pub verdict_low : (program : Program) (σ τ : State) (s : ℕ) (n : Name) (method : Option ℕ) (count : ℕ) (answered : Bool) → Seen o reader s → Low o reader σ τ
      → VerdictPair (verdict o program σ s n method count answered) (verdict o program τ s n method count answered)
  verdict_low program σ τ s n method count answered t q =
      judged_low program σ τ s n.home method count answered (room_low σ τ s answered t q) (object_low program σ τ s n t q)

  -- AN OBJECT IS MADE

  pub unmakeable_low : (program : Program) (σ τ : State) (home class lv : ℕ) → Seen o reader home → Low o reader σ τ
      → unmakeable o program σ home class lv ≡ unmakeable o program τ home class lv
  unmakeable_low program σ τ home class lv t q = rw (pairs-length (q.objects home t)) refl

  pub made_low : (program : Program) (σ τ : State) (home class lv : ℕ) → Seen o reader home → Low o reader σ τ
      → Low o reader (with_object o program σ home class lv) (with_object o program τ home class lv)
  made_low program σ τ home class lv t q =
      record {
        objects = λ k u. update_two (Pairs (ObjectPair o reader)) σ.objects
            τ.objects home k _ _ (λ _. pairs-snoc (q.objects home t) (object_refl o reader _)) (q.objects k u);
        futures = q.futures;
        calls = q.calls;
        notes = q.notes;
      }

module _ (o : Levels) (program : Program) (l : Laws o) (scene : Scene) (ok : SceneFine o program scene) (σ τ : State) (reader : ℕ)
    (lit : Seen o reader scene.called_at) where
  open l use {from, to, itself, through, bottom, level, left, right, least}

  abbrev Good : Running → Type 0
  Good r = RunningFine o program scene σ r

  abbrev Fair : Running → Type 0
  Fair r = RunningFine o program scene τ r

  -- the label of a variable is a level, in both runs
  seen_level : (q : Running) (x : Variable) → Good q → (read q x).label < o.count
  seen_level q x a = from _ _ (read_fine o program l scene ok σ q x a).flows

  fair_level : (p : Running) (x : Variable) → Fair p → (read p x).label < o.count
  fair_level p x b = from _ _ (read_fine o program l scene ok τ p x b).flows

  -- RESULTS

  put_same : (context : ℕ) (to' : Option Variable) (x y : Labelled) (q p : Running) (υ ω : State) → x ≡ y → Low o reader υ ω → LowRun o reader q p
      → LowRun o reader (put o program scene context to' x (with_tables q υ)) (put o program scene context to' y (with_tables p ω))
  put_same context None x y q p υ ω e t h = record { vars = λ z. h.vars z; tables = t }
  put_same context (Some (Local i)) x y q p υ ω e t h =
      record {
        vars = λ z. read-stored_two (Blurred o reader) (with_tables q υ) (with_tables p ω) (Local i) z _ _ (rw e (blurred_refl o reader _))
            (h.vars z);
        tables = t;
      }
  put_same context (Some (Field i)) x y q p υ ω e t h =
      record {
        vars = λ z. read-stored_two (Blurred o reader) (with_tables q υ) (with_tables p ω) (Field i) z _ _ (rw e (blurred_refl o reader _))
            (h.vars z);
        tables = t;
      }

  result_low : (context at : ℕ) (to' : Option Variable) (m n : Made) (q p : Running) → MadePair o l reader context m n → LowRun o reader q p
      → LowRun o reader (with_result o program scene context at to' m q) (with_result o program scene context at to' n p)
  result_low context at to' m n q p (equal e) h =
      rw e
      (put_same context to' (given n) (given n) q p _ _ refl
      (record {
        objects = h.tables.objects;
        futures = h.tables.futures;
        calls = h.tables.calls;
        notes = λ k s. filed_same o l reader context _ n
            _ _ h.tables.notes k s;
      }) h)
  result_low context at to' m n q p (dark a b) h =
      dimmed_low o reader to' q p _ _ (result_dim o program l scene ok σ reader context at to' m q a)
      (result_dim o program l scene ok τ reader context at to' n p b) h

  copied_pair : (context : ℕ) (x y : Labelled) → x.label < o.count → y.label < o.count → context < o.count → Blurred o reader x y
      → MadePair o l reader context (plain x) (plain y)
  copied_pair context x y a b c (both s e) = equal (ap plain e)
  copied_pair context x y a b c (neither h k) = dark (hide_left o l reader _ _ a c h) (hide_left o l reader _ _ b c k)

  worked_dark : (f : ℤ → ℤ → ℤ) (context : ℕ) (x y : Labelled) → x.label < o.count → y.label < o.count → context < o.count
      → (Hidden o reader x.label ⊎ Hidden o reader y.label)
      → Hidden o reader (o.join (given (operated o program scene f x y)).label context)
  worked_dark f context x y a b c d =
      rw (worked-label f x.value y.value (o.join x.label y.label)) (hide_left o l reader _ context (level _ _) c (hide_one o l reader _ _ a b d))

  operated-pair : (f : ℤ → ℤ → ℤ) (context : ℕ) (x y z w : Labelled) → x.label < o.count → y.label < o.count → z.label < o.count → w.label < o.count
      → context < o.count
      → Blurred o reader x z → Blurred o reader y w → MadePair o l reader context (operated o program scene f x y) (operated o program scene f z w)
  operated-pair f context x y z w a b c d e (both s p) (both t q) = equal (rw (p, q) refl)
  operated-pair f context x y z w a b c d e (both s p) (neither h k) = dark (worked_dark f context x y a b e (inr h)) (worked_dark f context z w c d e (inr k))
  operated-pair f context x y z w a b c d e (neither h k) q = dark (worked_dark f context x y a b e (inl h)) (worked_dark f context z w c d e (inl k))

  two_operands : (f : ℤ → ℤ → ℤ) (x y : Variable) (context : ℕ) (q p : Running) → Inside o program scene context → Good q → Fair p → LowRun o reader q p
      → MadePair o l reader context (operated o program scene f (read q x) (read q y)) (operated o program scene f (read p x) (read p y))
  two_operands f x y context q p c a b low =
      operated-pair f context _ _ _ _ (seen_level q x a) (seen_level q y a) (fair_level p x b) (fair_level p y b) (from _ _ c.down) (low.vars x) (low.vars y)

  -- I

  raise-seen : (g context at n : ℕ) (q p : Running) → Seen o reader (o.join g context) → Good q → Fair p → LowRun o reader q p
      → LowRun o reader (raise o program scene g context at n q) (raise o program scene g context at n p)
  raise-seen g context at n q p s a b h =
      record {
        vars = λ x.
            rw (read-raise o program l scene ok σ reader g context at n q x, read-raise o program l scene ok τ reader g context at n p x)
            (pick_two (Blurred o reader) (not (o.flow g context) && assigned scene.body at n x) _ _ _ _
            (λ _. blurred_join o l reader (o.join g context) (read q x) (read p x) (seen_level q x a) (fair_level p x b) (level _ _) s (h.vars x))
            (λ _. h.vars x));
        tables = h.tables;
      }

  -- two raises by hidden guards: what is assigned is hidden in both
  raised_hidden : (g context at n : ℕ) (σ₀ : State) (q : Running) (x : Variable) → RunningFine o program scene σ₀ q → Hidden o reader g → g < o.count
      → Seen o reader context → assigned scene.body at n x ≡ true
      → Hidden o reader (read (raise o program scene g context at n q) x).label
  raised_hidden g context at n σ₀ q x a h b s e =
      rw (read-raise o program l scene ok σ₀ reader g context at n q x, no_flow o l reader g context h s, e)
      (hide_right o l reader _ _ (from _ _ (read_fine o program l scene ok σ₀ q x a).flows) (level _ _) (hide_left o l reader g context b (from _ _ s) h))

  raise_dark : (g k context at n : ℕ) (q p : Running) → Hidden o reader g → Hidden o reader k → g < o.count → k < o.count → Seen o reader context → Good q
      → Fair p → LowRun o reader q p
      → LowRun o reader (raise o program scene g context at n q) (raise o program scene k context at n p)
  raise_dark g k context at n q p h j c d s a b low =
      record {
        vars = λ x.
            elim (either (assigned scene.body at n x)) [
              | inl e ↦ neither (raised_hidden g context at n σ q x a h c s e) (raised_hidden k context at n τ p x b j d s e)
              | inr e ↦ rw (
                read-raise o program l scene ok σ reader g context at n q x,
                read-raise o program l scene ok τ reader k context at n p x,
                no_flow o l
                    reader g context h s,
                no_flow o l reader k context j s,
                e,
              ) (low.vars x)
            ];
        tables = low.tables;
      }

  -- two steps that are confined, in a call that is seen, have both come through
  dark_merge : (P : Variable → Type 0) (q p : Running) (s t : Step) → DarkStep o program l scene ok σ reader P q s → DarkStep o program l scene ok τ reader P p t
      → ((x : Variable) → P x → Hidden o reader (read q x).label × Hidden o reader (read p x).label) → LowRun o reader q p → LowStep o reader s t
  dark_merge P q p (done a) (done b) c d f h = both_done (confined_low o reader P q p a b c d f h)
  dark_merge P q p (done a) (held at b) c d f h = clash lit d.1
  dark_merge P q p (held at a) t c d f h = clash lit c.1

  -- M

  variable-pair : (q p : Running) (x : Variable) → Good q → Fair p → LowRun o reader q p → ArgumentPair o l reader (read q x) (read p x)
  variable-pair q p x a b h = blurred_argument o l reader _ _ (seen_level q x a) (fair_level p x b) (h.vars x)

  passed-pair : (q p : Running) (xs : Arguments) → Good q → Fair p → LowRun o reader q p → Pairs (ArgumentPair o l reader) (passed q xs) (passed p xs)
  passed-pair q p Empty a b h = none
  passed-pair q p (One x) a b h = more (variable-pair q p x a b h) none
  passed-pair q p (Two x y) a b h = more (variable-pair q p x a b h) (more (variable-pair q p y a b h) none)
  passed-pair q p (Three x y z) a b h = more (variable-pair q p x a b h) (more (variable-pair q p y a b h) (more (variable-pair q p z a b h) none))
  passed-pair q p (Four x y z w) a b h =
      more (variable-pair q p x a b h) (more (variable-pair q p y a b h) (more (variable-pair q p z a b h) (more (variable-pair q p w a b h) none)))

  asked_low : (context at : ℕ) (to' : Option Variable) (s : ℕ) (n : Name) (method : ℕ) (xs ys : List Labelled) (q p : Running) (v w : Verdict)
      → VerdictPair o l reader v w
      → ((b : Object) → v ≡ admitted b → o.flow s b.level ≡ true) → Seen o reader s → Seen o reader context → Pairs (ArgumentPair o l reader) xs ys
      → LowRun o reader q p
      → LowRun o reader (asked o program scene context at to' s n method xs q v) (asked o program scene context at to' s n method ys p w)
  asked_low context at to' s n method xs ys q p v w (both_refused {why =
      why}) f t c k h = result_low context at to' (call_mark why s) (call_mark why s) q p (equal refl) h
  asked_low context at to' s n method xs ys q p v w (both_admitted {b = b} {d = d} m) f t c k h =
      put_same context to' _ _ q p _ _ (ap (λ k. labelled (FutureName (name s k)) s) (pairs-length (h.tables.futures s t)))
      (sent_low o l reader program q.tables p.tables s context _ AtObject n b d method xs ys (given_to to') t c (f b refl) m.level_is k h.tables) h

  invoked-seen : (context at : ℕ) (to' : Option Variable) (v : Value) (lb method : ℕ) (xs ys : List Labelled) (q p : Running) → Inside o program scene context
      → Seen o reader context → Seen o reader lb → Homed o v lb
      → o.flow lb scene.level ≡ true → Pairs (ArgumentPair o l reader) xs ys → LowRun o reader q p
      → LowRun o reader (invoked o program scene context at to' v lb method xs q) (invoked o program scene context at to' v lb method ys p)
  invoked-seen context at to' (Number k) lb method xs ys q p c s t h f a low =
      result_low context at to' (fresh WrongKind AtStatement lb) (fresh WrongKind AtStatement lb) q p (equal refl) low
  invoked-seen context at to' (ObjectName n) lb method xs ys q p c s t h f a low =
      let u = see_both o l reader _ _ (see_both o l reader context lb s t) (see_down o l reader n.home lb h t) in
      let k = o.join (o.join context lb) n.home in
      rw (pairs-length a)
      (asked_low context at to' k n method xs ys q p
      _ _ (verdict_low o l reader program q.tables p.tables k n (Some method) (length ys) (given_to to') u low.tables)
      (λ b e. (verdict_admits o program q.tables k n (given_to to') (Some method) (length ys) b e).below) u s a low)
  invoked-seen context at to' (FutureName n) lb method xs ys q p c s t h f a low =
      result_low context at to' (fresh WrongKind AtStatement lb) (fresh WrongKind AtStatement lb) q p (equal refl) low
  invoked-seen context at to' (Marked k) lb method xs ys q p c s t h f a low =
      result_low context at to' (fresh WrongKind AtStatement lb) (fresh WrongKind AtStatement lb) q p (equal refl) low

  invoked_low : (context at : ℕ) (to' : Option Variable) (x y : Labelled) (method : ℕ) (xs ys : List Labelled) (q p : Running) → Inside o program scene context
      → Seen o reader context
      → Fine o scene.level x → Fine o scene.level y → Blurred o reader x y → Pairs (ArgumentPair o l reader) xs ys → LowRun o reader q p
      → LowRun o reader (invoked o program scene context at to' x.value x.label method xs q)
      (invoked o program scene context at to' y.value y.label method ys p)
  invoked_low context at to' x y method xs ys q p c s f g (both t e) a low =
      rw (← e) (invoked-seen context at to' x.value x.label method xs ys q p c s t f.homed f.flows a low)
  invoked_low context at to' x y method xs ys q p c s f g (neither h k) a low =
      dimmed_low o reader to' q p _ _
      (invoked_dim o program l scene ok σ reader context at to' x.value x.label method xs q (from _ _ c.down) (from _ _ f.flows) f.homed (inr h))
      (invoked_dim o program l scene ok τ reader context at to' y.value y.label method ys p (from _ _ c.down) (from _ _ g.flows) g.homed (inr k)) low

  -- G

  -- two fetches: both wait, or give the same, or what is hidden
  data FetchedPair (context : ℕ) : Fetched → Fetched → Type 0 where
    both_wait : FetchedPair context waits waits
    both_give : {m n : Made} → MadePair o l reader context m n → FetchedPair context (gives m) (gives n)

  fetched-refl : (context : ℕ) (f : Fetched) → FetchedPair context f f
  fetched-refl context (gives m) = both_give (equal refl)
  fetched-refl context waits = both_wait

  held_hidden : (context t : ℕ) (x : Labelled) → x.label < o.count → t < o.count → context < o.count → Hidden o reader x.label
      → Hidden o reader scene.level → scene.level < o.count
      → Hidden o reader (o.join (given
      (cond (o.flow (o.join x.label t) scene.level) (plain (labelled x.value (o.join x.label t))) (fresh Withheld AtFuture scene.level))).label
      context)
  held_hidden context t x a b c h k d =
      pick_one (λ (m : Made). Hidden o reader (o.join (given m).label context)) (o.flow (o.join x.label t) scene.level) _ _
      (λ _. hide_left o l reader _ context (level _ _) c (hide_left o l reader _ _ a b h)) (λ _. hide_left o l reader _ context d c k)

  opened_held : (context t : ℕ) (x y : Labelled) → x.label < o.count → y.label < o.count → o.flow t scene.level ≡ true → context < o.count
      → Seen o reader t → Blurred o reader x y
      → FetchedPair context (opened o program scene t (Holding x)) (opened o program scene t (Holding y))
  opened_held context t x y a b f c s (both u e) = rw e (fetched-refl context _)
  opened_held context t x y a b f c s (neither h k) =
      elim (either (o.flow scene.level reader)) [
        | inl u ↦
            let p = no_flow o l reader (o.join x.label t) scene.level (hide_left o l reader _ _ a (from t _ f) h) u in
            let q = no_flow o l reader (o.join y.label t) scene.level (hide_left o l reader _ _ b (from t _ f) k) u in
            both_give (equal (rw (p, q) refl))
        | inr u ↦ both_give (dark (held_hidden context t x a (from t _ f) c h u (to t _ f)) (held_hidden context t y b (from t _ f) c k u (to t _ f)))
      ]

  opened_low : (context t : ℕ) (f g : Future) → FutureFine o f → FutureFine o g → o.flow t scene.level ≡ true → context < o.count → Seen o reader t
      → FuturePair o reader f g
      → FetchedPair context (opened o program scene t f) (opened o program scene t g)
  opened_low context t f g a b i c s (opens p q) = rw (p, q) (fetched-refl context _)
  opened_low context t f g a b i c s (holds x y p q h) =
      rw (p, q) (opened_held context t x y (from _ _ (rw p at a).flows) (from _ _ (rw q at b).flows) i c s h)

  fetched-seen : (υ ω : State) (context : ℕ) (v : Value) (lb : ℕ) → Inside o program scene context → Seen o reader context → Seen o reader lb → Homed o v lb
      → o.flow lb scene.level ≡ true
      → Sound o program υ → Sound o program ω → Low o reader υ ω
      → FetchedPair context (fetched o program scene υ context v lb) (fetched o program scene ω context v lb)
  fetched-seen υ ω context (Number k) lb c s t h f a b low = fetched-refl context _
  fetched-seen υ ω context (ObjectName n) lb c s t h f a b low = fetched-refl context _
  fetched-seen υ ω context (FutureName n) lb c s t h f a b low =
      let u = see_down o l reader n.home lb h t in
      opened_low context _ _ _ (get_or_cases (FutureFine o) (υ.futures n.home) n.number Open tt (a.futures n.home n.number))
      (get_or_cases (FutureFine o) (ω.futures n.home) n.number Open tt (b.futures n.home n.number))
      (least _ _ _ (least _ _ _ c.down f) (through _ lb _ h f)) (from _ _ c.down) (see_both o l reader _ _ (see_both o l reader context lb s t) u)
      (pairs_at n.number Open Open (opens refl refl) (low.futures n.home u))
  fetched-seen υ ω context (Marked k) lb c s t h f a b low = fetched-refl context _

  received-seen : (context at : ℕ) (to' : Variable) (q p : Running) (f g : Fetched) → FetchedPair context f g → LowRun o reader q p
      → LowStep o reader (received o program scene context at to' q f) (received o program scene context at to' p g)
  received-seen context at to' q p f g both_wait low = both_held low
  received-seen context at to' q p f g (both_give {m = m} {n = n} k) low = both_done (result_low context at (Some to') m n q p k low)

  received_dark : (context at : ℕ) (to' : Variable) (q p : Running) (f g : Fetched) → FetchedDark o program l scene ok σ reader context f
      → FetchedDark o program l scene ok τ reader context g → LowRun o reader q p
      → LowStep o reader (received o program scene context at to' q f) (received o program scene context at to' p g)
  received_dark context at to' q p (gives m) (gives n) a b low = both_done (result_low context at (Some to') m n q p (dark a b) low)
  received_dark context at to' q p (gives m) waits a b low = clash lit b
  received_dark context at to' q p waits g a b low = clash lit a

  got_low : (context at : ℕ) (to' : Variable) (x y : Labelled) (q p : Running) → Inside o program scene context → Seen o reader context → Fine o scene.level x
      → Fine o scene.level y → Good q → Fair p
      → Blurred o reader x y → LowRun o reader q p
      → LowStep o reader (received o program scene context at to' q (fetched o program scene q.tables context x.value x.label))
      (received o program scene context at to' p (fetched o program scene p.tables context y.value y.label))
  got_low context at to' x y q p c s f g a b (both t e) low =
      rw (← e) (received-seen context at to' q p
      _ _ (fetched-seen q.tables p.tables context x.value x.label c s t f.homed f.flows a.tables b.tables low.tables) low)
  got_low context at to' x y q p c s f g a b (neither h k) low =
      received_dark context at to' q p
      _ _ (fetched_dark o program l scene ok σ reader q.tables context x.value x.label c f.homed f.flows a.tables (inr h))
      (fetched_dark o program l scene ok τ reader p.tables context y.value y.label c g.homed g.flows b.tables (inr k)) low

  -- O

  created_low : (context at : ℕ) (to' : Variable) (class lv : ℕ) (q p : Running) (v : Option Refusal) → Seen o reader context → LowRun o reader q p
      → LowRun o reader (created o program scene context at to' class lv q v) (created o program scene context at to' class lv p v)
  created_low context at to' class lv q p (Some why) s low =
      result_low context at (Some to') (object_mark why context) (object_mark why context) q p (equal refl) low
  created_low context at to' class lv q p None s low =
      put_same context (Some to') _ _ q p _ _ (ap (λ k. labelled (ObjectName (name context k)) context) (pairs-length (low.tables.objects context s)))
      (made_low o l reader program q.tables p.tables context class lv s low.tables) low

  -- EVERY STATEMENT

  abbrev Agrees : ℕ → Run → Type 0
  Agrees f go =
      (at end context depth : ℕ) (q p : Running) → Inside o program scene context → Seen o reader context → Good q → Fair p → nested f
      scene.body depth at end ≡ true → LowRun o reader q p
      → LowStep o reader (go at end context q) (go at end context p)

  module _ (f : ℕ) (go : Run) (keeps : Keeps o program l scene ok σ go) (keeps' : Keeps o program l scene ok τ go) (hides : Hides o program l scene ok σ reader f go)
      (hides' : Hides o program l scene ok τ reader f go) (agrees : Agrees f go) where
    branch_low : (x y : Labelled) (at first second context depth : ℕ) (q p : Running) → Inside o program scene context → Seen o reader context
        → Fine o scene.level x → Fine o scene.level y → Good q → Fair p
        → nested f scene.body depth (at + 1) (at + 1 + first) ≡ true → nested f scene.body depth (at + 1 + first) (at + 1 + first + second) ≡ true
        → Blurred o reader x y → LowRun o reader q p
        → LowStep o reader
        (branch x.value (go (at + 1) (at + 1 + first) (o.join x.label context)) (go (at + 1 + first) (at + 1 + first + second) (o.join x.label context))
        (raise o program scene x.label context (at + 1) (first + second) q))
        (branch y.value (go (at + 1) (at + 1 + first) (o.join y.label context)) (go (at + 1 + first) (at + 1 + first + second) (o.join y.label context))
        (raise o program scene y.label context (at + 1) (first + second) p))
    branch_low x y at first second context depth q p c s u v a b m n (both t e) low =
        let light = see_both o l reader x.label context t s in
        let inner = inner_inside o program l scene ok σ x.label context u.flows c in
        let after = raise-seen x.label context (at + 1) (first + second) q p light a b low in
        let a' = raise_fine o program l scene ok σ x.label context (at + 1) (first + second) q u.flows c a in
        let b' = raise_fine o program l scene ok τ x.label context (at + 1) (first + second) p u.flows c b in
        rw (← e)
        (branch_two (LowStep o reader) x.value _ _ _ _ _ _ (agrees _ _ _ depth _ _ inner light a' b' m after) (agrees _ _ _ depth _ _ inner light a' b' n after)
        (both_done after))
    branch_low x y at first second context depth q p c s u v a b m n (neither h k) low =
        let P = Hit scene.body (at + 1) (at + 1 + first + second) in
        let in_x = inner_inside o program l scene ok σ x.label context u.flows c in
        let in_y = inner_inside o program l scene ok τ y.label context v.flows c in
        let lx = from _ _ u.flows in
        let ly = from _ _ v.flows in
        let lc = from _ _ c.down in
        let q' = raise o program scene x.label context (at + 1) (first + second) q in
        let p' = raise o program scene y.label context (at + 1) (first + second) p in
        dark_merge P q' p' _ _
        (branch_dark o program l scene ok σ reader f go keeps hides P x.value (o.join x.label context) at first second depth q' q'
        (confined_refl o reader P q') (λ z i. i) in_x (hide_left o l reader _ _ lx lc h)
        (raise_fine o program l scene ok σ x.label context (at + 1) (first + second) q u.flows c a) m n)
        (branch_dark o program l scene ok τ reader f go keeps' hides' P y.value (o.join y.label context) at first second depth p' p'
        (confined_refl o reader P p') (λ z i. i) in_y (hide_left o l reader _ _ ly lc k)
        (raise_fine o program l scene ok τ y.label context (at + 1) (first + second) p v.flows c b) m n)
        (λ z i.
        let e = hit_assigned scene.body (at + 1) (first + second) z (wider scene.body _ _ _ _ z (omega arith) (omega arith) i) in
        (raised_hidden x.label context (at + 1) (first + second) σ q z a h lx s e, raised_hidden y.label context (at + 1) (first + second) τ p z b k ly s e))
        (raise_dark x.label y.label context (at + 1) (first + second) q p h k lx ly s a b low)

    act_low : (s : Statement) (at end context depth : ℕ) (q p : Running) → Inside o program scene context → Seen o reader context → Good q → Fair p
        → branches_fit (nested f scene.body) depth s at end ≡ true → LowRun o reader q p
        → LowStep o reader (act o program scene go s at context q) (act o program scene go s at context p)
    act_low (Constant to' k) at end context depth q p c s a b n low =
        both_done (result_low context at (Some to') (plain (labelled (Number k) 0)) (plain (labelled (Number k) 0)) q p (equal refl) low)
    act_low (Itself to') at end context depth q p c s a b n low =
        both_done (result_low context at (Some to') (plain (labelled (ObjectName scene.self) 0)) (plain (labelled (ObjectName scene.self) 0)) q p
        (equal refl) low)
    act_low (Copy to' x) at end context depth q p c s a b n low =
        both_done (result_low context at (Some to') (plain (read q x)) (plain (read p x)) q p
        (copied_pair context (read q x) (read p x) (seen_level q x a) (fair_level p x b) (from _ _ c.down) (low.vars x)) low)
    act_low (Add to' x y) at end context depth q p c s a b n low =
        both_done (result_low context at (Some to') (operated o program scene plus (read q x) (read q y)) (operated o program scene plus (read p x) (read p y)) q p
        (two_operands plus x y context q p c a b low) low)
    act_low (Subtract to' x y) at end context depth q p c s a b n low =
        both_done (result_low context at (Some to') (operated o program scene minus (read q x) (read q y))
        (operated o program scene minus (read p x) (read p y)) q p (two_operands minus x y context q p c a b low) low)
    act_low (Less to' x y) at end context depth q p c s a b n low =
        both_done (result_low context at (Some to') (operated o program scene less (read q x) (read q y)) (operated o program scene less (read p x) (read p y)) q p
        (two_operands less x y context q p c a b low) low)
    act_low (Branch x first second) at end context depth q p c s a b n low =
        branch_fits scene.body f x first second at end depth _
        (λ d i m k. branch_low (read q x) (read p x) at first second context d q p c s (read_fine o program l scene ok σ q x a)
        (read_fine o program l scene ok τ p x b) a b m k (low.vars x) low) n
    act_low (Invoke to' x method xs) at end context depth q p c s a b n low =
        both_done (invoked_low context at to' (read q x) (read p x) method (passed q xs) (passed p xs) q p c s (read_fine o program l scene ok σ q x a)
        (read_fine o program l scene ok τ p x b) (low.vars x) (passed-pair q p xs a b low) low)
    act_low (Get to' x) at end context depth q p c s a b n low =
        got_low context at to' (read q x) (read p x) q p c s (read_fine o program l scene ok σ q x a) (read_fine o program l scene ok τ p x b) a b (low.vars x) low
    act_low (Create to' class lv) at end context depth q p c s a b n low =
        rw (unmakeable_low o l reader program q.tables p.tables context class lv s low.tables) (both_done (created_low context at to' class lv q p _ s low))
    act_low (Return x) at end context depth q p c s a b n low = both_done low

    passing_low : (s : Statement) (at end context depth : ℕ) (q p : Running) → Inside o program scene context → Seen o reader context → Good q → Fair p
        → branches_fit (nested f scene.body) depth s at end ≡ true → LowRun o reader q p
        → LowStep o reader (passing o program scene go s at context q) (passing o program scene go s at context p)
    passing_low (Constant to' k) at end context depth q p c s a b n low = both_done low
    passing_low (Itself to') at end context depth q p c s a b n low = both_done low
    passing_low (Copy to' x) at end context depth q p c s a b n low = both_done low
    passing_low (Add to' x y) at end context depth q p c s a b n low = both_done low
    passing_low (Subtract to' x y) at end context depth q p c s a b n low = both_done low
    passing_low (Less to' x y) at end context depth q p c s a b n low = both_done low
    passing_low (Branch x first second) at end context depth q p c s a b n low =
        branch_fits scene.body f x first second at end depth _
        (λ d i m k.
        when_two (LowStep o reader) (ltb scene.from (at + 1 + first)) _ _ _ _ (agrees _ _ context d q p c s a b m low)
        (when_two (LowStep o reader) (ltb scene.from (at + 1 + first + second)) _ _ _ _ (agrees _ _ context d q p c s a b k low) (both_done low))) n
    passing_low (Invoke to' x method xs) at end context depth q p c s a b n low = both_done low
    passing_low (Get to' x) at end context depth q p c s a b n low = both_done low
    passing_low (Create to' class lv) at end context depth q p c s a b n low = both_done low
    passing_low (Return x) at end context depth q p c s a b n low = both_done low

  bind_low : (s t : Step) (f g : Running → Step) → LowStep o reader s t → Stopped Good s → Stopped Fair t
      → ((q p : Running) → LowRun o reader q p → Good q → Fair p → LowStep o reader (f q) (g p))
      → LowStep o reader (bind s f) (bind t g)
  bind_low s t f g (both_done {q = q} {p = p} low) a b k = k q p low a b
  bind_low s t f g (both_held low) a b k = both_held low

  pub exec_low : (f : ℕ) → Agrees f (exec o program scene f)
  exec_low zero at end context depth q p c s a b n low = rw (exec-zero o program scene at end context q, exec-zero o program scene at end context p) (both_done low)
  exec_low (suc f) at end context depth q p c s a b n low =
      elim (either (ltb at end)) [
        | inl e ↦
            let parts = nested_parts f depth at end scene.body n e in
            let go = exec o program scene f in
            let keeps = exec_fine o program l scene ok σ f in
            let keeps' = exec_fine o program l scene ok τ f in
            rw (exec_more o program scene f at end context q e, exec_more o program scene f at end context p e)
            (bind_low _ _ _ _
            (when_two (LowStep o reader) (ltb at scene.from) _ _ _ _
            (passing_low f go keeps keeps' (exec_dark o program l scene ok σ reader f) (exec_dark o program l scene ok τ reader f) (exec_low f)
            (get_or scene.body at idle) at end context depth q p c s a b parts.0 low)
            (act_low f go keeps keeps' (exec_dark o program l scene ok σ reader f) (exec_dark o program l scene ok τ reader f) (exec_low f)
            (get_or scene.body at idle) at end context depth q p c s a b parts.0 low))
            (step_fine o program l scene ok σ go keeps at context q c a)
            (step_fine o program l scene ok τ go keeps' at context p c b)
            (λ q' p' k a' b'. exec_low f _ end context depth q' p' c s a' b' parts.1 k))
        | inr e ↦ rw (exec_done o program scene f at end context q e, exec_done o program scene f at end context p e) (both_done low)
      ]
