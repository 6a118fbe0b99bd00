-- Every statement, and every range of statements, keeps the invariant.
use Rattle.std.proofs.Common.{◌≡◌, ℕ, zero, suc, ◌+◌, Bool, true, false, not, ◌&&◌, ltb, List, length, get_or, ℤ, Some, None, Option, refl, inl, inr}
use Rattle.order.specs.Levels.{Levels, Laws}
use Rattle.script.specs.declared.class.Variable.{Variable}
use Rattle.script.specs.declared.class.Variable.TheVariants.{Local, Field}
use Rattle.script.specs.declared.class.Arguments.{Arguments}
use Rattle.script.specs.declared.class.Arguments.TheVariants.{Empty, One, Two, Three, Four}
use Rattle.script.specs.declared.class.Statement.{Statement}
use Rattle.script.specs.declared.class.Statement.TheVariants.{Constant, Itself, Copy, Add, Subtract, Less, Branch, Invoke, Get, Create, Return}
use Rattle.script.specs.Classes.{Program}
use Rattle.script.specs.Bodies.{idle, branch_rows}
use Rattle.rules.specs.declared.values.Mark.TheVariants.{WrongKind}
use Rattle.rules.specs.declared.values.Name.{Name}
use Rattle.rules.specs.declared.values.Value.{Value}
use Rattle.rules.specs.declared.values.Value.TheVariants.{Number, ObjectName, FutureName, Marked}
use Rattle.rules.specs.declared.values.Labelled.{Labelled}
use Rattle.rules.specs.declared.tables.Layer.TheVariants.{AtObject, AtStatement}
use Rattle.rules.specs.declared.tables.Future.{Future}
use Rattle.rules.specs.declared.tables.Future.TheVariants.{Open, Holding}
use Rattle.rules.specs.declared.calls.Refusal.{Refusal}
use Rattle.rules.specs.declared.calls.Refusal.TheVariants.{NotALevel, Unknown, NotMade, NoFlow, Full, Nothing}
use Rattle.rules.specs.Values.{labelled, Made, plain, fresh, given, plus, minus, less, worked, nonzero}
use Rattle.rules.specs.Tables.{State}
use Rattle.rules.specs.Wrapper.{target, assigned, floor, makeable, unmakeable, Verdict, admitted, refused, verdict}
use Rattle.rules.specs.Statements.{Scene, Running, Step, done, held, Run, read, with_tables, passed, call_mark, object_mark, given_to, Fetched, gives, waits, branch, put, with_result, raised, raise, asked, invoked, opened, fetched, received, created, operated, act}
use Rattle.rules.specs.Turns.{bind, passing, step, exec}
use Rattle.rules.proofs.Listing.{either, no_some, pick_one, update_one, get_or_cases}
use Rattle.rules.proofs.Invariant.{Grows, Fits, Stopped, Homed, Fine, FutureFine, AllHomed, Sound, SceneFine, RunningFine, Inside}
use Rattle.rules.proofs.Keeping.{grows_trans, noted_sound, noted_grows, verdict_admits, homed_join, made_sound, made_grows, sent_sound, sent_grows}

-- THE CLAUSES OF A RANGE, as equations

-- a choice between two steps
pub when : (P : Step → Type 0) (b : Bool) (x y : Step) → (b ≡ true → P x) → (b ≡ false → P y) → P (elim b [ true ↦ x | false ↦ y ])
when P true x y h k = h refl
when P false x y h k = k refl

module _ (o : Levels) (program : Program) (scene : Scene) where
  pub exec-zero : (at end context : ℕ) (r : Running) → exec o program scene 0 at end context r ≡ done r
  unfolding exec
  exec-zero at end context r = refl

  pub exec_more : (f at end context : ℕ) (r : Running) → ltb at end ≡ true
      → exec o program scene (suc f) at end context r
      ≡ bind (step o program scene (exec o program scene f) (get_or scene.body at idle) at context r)
      (exec o program scene f (at + 1 + branch_rows (get_or scene.body at idle)) end context)
  unfolding exec
  exec_more f at end context r e = rw (e, exec)

  pub exec_done : (f at end context : ℕ) (r : Running) → ltb at end ≡ false → exec o program scene (suc f) at end context r ≡ done r
  unfolding exec
  exec_done f at end context r e = rw (e, exec)

-- whatever holds where one step stopped, and where what follows stopped
pub bind_any : (P : Step → Type 0) (s : Step) (next : Running → Step) → ((r : Running) → s ≡ done r → P (next r))
    → ((at : ℕ) (r : Running) → s ≡ held at r → P (held at r)) → P (bind s next)
bind_any P (done r) next h k = h r refl
bind_any P (held at r) next h k = k at r refl

pub branch_any : (P : Step → Type 0) (v : Value) (first second : Running → Step) (r : Running) → P (first r) → P (second r) → P (done r)
    → P (branch v first second r)
branch_any P (Number k) first second r a b c = when P (nonzero k) (first r) (second r) (λ _. a) (λ _. b)
branch_any P (ObjectName n) first second r a b c = c
branch_any P (FutureName n) first second r a b c = c
branch_any P (Marked k) first second r a b c = c

-- the same choice in two runs
pub when_two : (R : Step → Step → Type 0) (b : Bool) (x y z w : Step) → R x z → R y w → R (elim b [ true ↦ x | false ↦ y ]) (elim b [ true ↦ z | false ↦ w ])
when_two R true x y z w h k = h
when_two R false x y z w h k = k

pub branch_two : (R : Step → Step → Type 0) (v : Value) (f g f' g' : Running → Step) (q p : Running) → R (f q) (f' p) → R (g q) (g' p) → R (done q) (done p)
    → R (branch v f g q) (branch v f' g' p)
branch_two R (Number k) f g f' g' q p a b c = when_two R (nonzero k) _ _ _ _ a b
branch_two R (ObjectName n) f g f' g' q p a b c = c
branch_two R (FutureName n) f g f' g' q p a b c = c
branch_two R (Marked k) f g f' g' q p a b c = c

pub makeable_if : (o : Levels) (program : Program) (τ : State) (home class lv : ℕ) → unmakeable o program τ home class lv ≡ None
    → makeable o program home class lv ≡ true
makeable_if o program τ home class lv e =
    elim (either (ltb class (length program))) [
      | inl t ↦ elim (either (makeable o program home class lv)) [ inl u ↦ u | inr u ↦ no_some (rw (t, u) at e) refl ]
      | inr t ↦ no_some (rw t at e) refl
    ]

module _ (o : Levels) (program : Program) (l : Laws o) (scene : Scene) (ok : SceneFine o program scene) (σ : State) where
  open l use {from, to, itself, through, bottom, level, left, right, least}

  abbrev pub Good : Running → Type 0
  Good r = RunningFine o program scene σ r

  pub read_fine : (r : Running) (x : Variable) → Good r → Fine o scene.level (read r x)
  read_fine r (Local k) g = g.locals k
  read_fine r (Field k) g = g.fields k

  -- other tables for a turn
  retabled : (r : Running) (τ : State) → Sound o program τ → Grows r.tables τ → Good r → Good (with_tables r τ)
  retabled r τ s h g = record { locals = g.locals; fields = g.fields; floors = g.floors; tables = s; grows = grows_trans _ _ _ g.grows h }

  put_fine : (context : ℕ) (to' : Option Variable) (v : Value) (lb : ℕ) (r : Running) → Inside o program scene context → Fits to' → o.flow lb scene.level ≡ true
      → Homed o v (o.join lb context) → Good r → Good (put o program scene context to' (labelled v lb) r)
  put_fine context None v lb r c f p h g = g
  put_fine context (Some (Local k)) v lb r c f p h g =
      record {
        locals = λ i. update_one (Fine o scene.level) r.locals k i _ (λ _. record { flows = least lb context _ p c.down; homed = h }) (g.locals i);
        fields = g.fields;
        floors = g.floors;
        tables = g.tables;
        grows = g.grows;
      }
  put_fine context (Some (Field k)) v lb r c f p h g =
      let low = floor o program scene.class scene.self.home k in
      let down = through low _ _ (g.floors k f) (g.fields k).flows in
      record {
        locals = g.locals;
        fields = λ i.
            update_one (Fine o scene.level) r.fields k i _
            (λ _. record {
              flows = least (o.join lb context) low _ (least lb context _ p c.down) down;
              homed = homed_join o program l v (o.join lb context) low
                  (level _ _) h;
            }) (g.fields i);
        floors = λ i b.
            update_one (λ (x : Labelled). o.flow (floor o program scene.class scene.self.home i) x.label ≡ true) r.fields k i _
            (λ e. rw (← e) (right (o.join lb context) low (level _ _) (level _ _))) (g.floors i b);
        tables = g.tables;
        grows = g.grows;
      }

  -- a result whose own label flows to the object's level
  result_fine : (context at : ℕ) (to' : Option Variable) (m : Made) (r : Running) → Inside o program scene context → Fits to' → Fine o scene.level (given m)
      → Good r → Good (with_result o program scene context at to' m r)
  result_fine context at to' m r c f p g =
      put_fine context to' (given m).value (given m).label _ c f p.flows (homed_join o program l _ _ context (from _ _ c.down) p.homed)
      (retabled r _ (noted_sound o program r.tables _ g.tables) (noted_grows r.tables _) g)

  -- a mark, or a number, names nothing
  worked_fine : (f : ℤ → ℤ → ℤ) (x y : Value) (lb : ℕ) → o.flow lb scene.level ≡ true → Fine o scene.level (given (worked f x y lb))
  worked_fine f (Number x) (Number y) lb h = record { flows = h; homed = tt }
  worked_fine f (Number x) (ObjectName n) lb h = record { flows = h; homed = tt }
  worked_fine f (Number x) (FutureName n) lb h = record { flows = h; homed = tt }
  worked_fine f (Number x) (Marked k) lb h = record { flows = h; homed = tt }
  worked_fine f (ObjectName n) y lb h = record { flows = h; homed = tt }
  worked_fine f (FutureName n) y lb h = record { flows = h; homed = tt }
  worked_fine f (Marked k) y lb h = record { flows = h; homed = tt }

  operated_fine : (f : ℤ → ℤ → ℤ) (r : Running) (x y : Variable) → Good r → Fine o scene.level (given (operated o program scene f (read r x) (read r y)))
  operated_fine f r x y g =
      worked_fine f (read r x).value (read r y).value _ (least _ _ _ (read_fine r x g).flows (read_fine r y g).flows)

  call_mark_fine : (why : Refusal) (s : ℕ) → o.flow s scene.level ≡ true → Fine o scene.level (given (call_mark why s))
  call_mark_fine NotALevel s h = record { flows = h; homed = tt }
  call_mark_fine Unknown s h = record { flows = h; homed = tt }
  call_mark_fine NotMade s h = record { flows = h; homed = tt }
  call_mark_fine NoFlow s h = record { flows = h; homed = tt }
  call_mark_fine Full s h = record { flows = h; homed = tt }
  call_mark_fine Nothing s h = record { flows = h; homed = tt }

  object_mark_fine : (why : Refusal) (s : ℕ) → o.flow s scene.level ≡ true → Fine o scene.level (given (object_mark why s))
  object_mark_fine NotALevel s h = record { flows = h; homed = tt }
  object_mark_fine Unknown s h = record { flows = h; homed = tt }
  object_mark_fine NotMade s h = record { flows = h; homed = tt }
  object_mark_fine NoFlow s h = record { flows = h; homed = tt }
  object_mark_fine Full s h = record { flows = h; homed = tt }
  object_mark_fine Nothing s h = record { flows = h; homed = tt }

  -- I

  raised_fine : (g context : ℕ) (chosen : Bool) (x : Labelled) → o.flow g scene.level ≡ true → Inside o program scene context → Fine o scene.level x
      → Fine o scene.level (raised o program scene g context chosen x)
  raised_fine g context chosen x h c f =
      pick_one (Fine o scene.level) (not (o.flow g context) && chosen) _ _
      (λ _. record { flows = least _ _ _ f.flows (least g context _ h c.down); homed = homed_join o program l x.value x.label _ (level _ _) f.homed })
      (λ _. f)

  raised_above : (low g context : ℕ) (chosen : Bool) (x : Labelled) → o.flow low x.label ≡ true
      → o.flow low (raised o program scene g context chosen x).label ≡ true
  raised_above low g context chosen x h =
      pick_one (λ (y : Labelled). o.flow low y.label ≡ true) (not (o.flow g context) && chosen) _ _
      (λ _. through low x.label _ h (left x.label _ (to low _ h) (level _ _))) (λ _. h)

  pub raise_fine : (g context at n : ℕ) (r : Running) → o.flow g scene.level ≡ true → Inside o program scene context → Good r
      → Good (raise o program scene g context at n r)
  raise_fine g context at n r h c f =
      record {
        locals = λ k. raised_fine g context (assigned scene.body at n (Local k)) (r.locals k) h c (f.locals k);
        fields = λ k. raised_fine g context (assigned scene.body at n (Field k)) (r.fields k) h c (f.fields k);
        floors = λ k b. raised_above _ g context (assigned scene.body at n (Field k)) (r.fields k) (f.floors k b);
        tables = f.tables;
        grows = f.grows;
      }

  pub inner_inside : (g context : ℕ) → o.flow g scene.level ≡ true → Inside o program scene context → Inside o program scene (o.join g context)
  inner_inside g context h c =
      record { up = through _ context _ c.up (right g context (from g _ h) (to _ _ c.up)); down = least g context _ h c.down }

  -- M

  passed_homed : (r : Running) (xs : Arguments) → Good r → AllHomed o (passed r xs)
  passed_homed r Empty g = tt
  passed_homed r (One x) g = ((read_fine r x g).homed, tt)
  passed_homed r (Two x y) g = ((read_fine r x g).homed, ((read_fine r y g).homed, tt))
  passed_homed r (Three x y z) g = ((read_fine r x g).homed, ((read_fine r y g).homed, ((read_fine r z g).homed, tt)))
  passed_homed r (Four x y z w) g = ((read_fine r x g).homed, ((read_fine r y g).homed, ((read_fine r z g).homed, ((read_fine r w g).homed, tt))))

  asked_fine : (context at : ℕ) (to' : Option Variable) (s : ℕ) (n : Name) (method : ℕ) (xs : List Labelled) (r : Running) (v : Verdict)
      → Inside o program scene context → Fits to'
      → o.flow s scene.level ≡ true → AllHomed o xs → verdict o program r.tables s n (Some method) (length xs) (given_to to') ≡ v → Good r
      → Good (asked o program scene context at to' s n method xs r v)
  asked_fine context at to' s n method xs r (refused why) c f h a e g = result_fine context at to' (call_mark why s) r c f (call_mark_fine why s h) g
  asked_fine context at to' s n method xs r (admitted b) c f h a e g =
      let lets = verdict_admits o program r.tables s n (given_to to') (Some method) (length xs) b e in
      put_fine context to' _ s _ c f h (left s context (from s _ h) (from _ _ c.down))
      (retabled r _ (sent_sound o program l r.tables s context _ AtObject n b method xs (given_to to') lets a g.tables)
      (sent_grows o program l r.tables s context _ AtObject n b method xs (given_to to')) g)

  invoked_fine : (context at : ℕ) (to' : Option Variable) (v : Value) (lb method : ℕ) (xs : List Labelled) (r : Running) → Inside o program scene context → Fits to'
      → Homed o v lb → o.flow lb scene.level ≡ true → AllHomed o xs → Good r → Good (invoked o program scene context at to' v lb method xs r)
  invoked_fine context at to' (Number k) lb method xs r c f h p a g =
      result_fine context at to' (fresh WrongKind AtStatement lb) r c f (record { flows = p; homed = tt }) g
  invoked_fine context at to' (ObjectName n) lb method xs r c f h p a g =
      asked_fine context at to' (o.join (o.join context lb) n.home) n method xs r _ c f (least _ _ _ (least _ _ _ c.down p) (through _ lb _ h p)) a refl g
  invoked_fine context at to' (FutureName n) lb method xs r c f h p a g =
      result_fine context at to' (fresh WrongKind AtStatement lb) r c f (record { flows = p; homed = tt }) g
  invoked_fine context at to' (Marked k) lb method xs r c f h p a g =
      result_fine context at to' (fresh WrongKind AtStatement lb) r c f (record { flows = p; homed = tt }) g

  -- G

  abbrev FetchedFine : Fetched → Type 0
  FetchedFine (gives m) = Fine o scene.level (given m)
  FetchedFine waits = Unit {0}

  opened_fine : (t : ℕ) (f : Future) → o.flow t scene.level ≡ true → FutureFine o f → FetchedFine (opened o program scene t f)
  opened_fine t Open h k = pick_one FetchedFine (o.flow t scene.called_at) _ _ (λ _. tt) (λ _. record { flows = h; homed = tt })
  opened_fine t (Holding x) h k =
      pick_one (λ m. Fine o scene.level (given m)) (o.flow (o.join x.label t) scene.level) _ _
      (λ e. record { flows = e; homed = homed_join o program l x.value x.label t (from t _ h) k.homed })
      (λ _. record { flows = itself _ (to t _ h); homed = tt })

  fetched_fine : (τ : State) (context : ℕ) (v : Value) (lb : ℕ) → Inside o program scene context → Homed o v lb → o.flow lb scene.level ≡ true
      → Sound o program τ
      → FetchedFine (fetched o program scene τ context v lb)
  fetched_fine τ context (Number k) lb c h p s = record { flows = p; homed = tt }
  fetched_fine τ context (ObjectName n) lb c h p s = record { flows = p; homed = tt }
  fetched_fine τ context (FutureName n) lb c h p s =
      opened_fine _ _ (least _ _ _ (least _ _ _ c.down p) (through _ lb _ h p))
      (get_or_cases (FutureFine o) (τ.futures n.home) n.number Open tt (s.futures n.home n.number))
  fetched_fine τ context (Marked k) lb c h p s = record { flows = p; homed = tt }

  received_fine : (context at : ℕ) (to' : Variable) (r : Running) (f : Fetched) → Inside o program scene context → Fits (Some to') → FetchedFine f → Good r
      → Stopped Good (received o program scene context at to' r f)
  received_fine context at to' r (gives m) c f h g = result_fine context at (Some to') m r c f h g
  received_fine context at to' r waits c f h g = g

  -- O

  created_fine : (context at : ℕ) (to' : Variable) (class lv : ℕ) (r : Running) (v : Option Refusal) → Inside o program scene context → Fits (Some to')
      → unmakeable o program r.tables context class lv ≡ v → Good r → Good (created o program scene context at to' class lv r v)
  created_fine context at to' class lv r (Some why) c f e g =
      result_fine context at (Some to') (object_mark why context) r c f (object_mark_fine why context c.down) g
  created_fine context at to' class lv r None c f e g =
      let inside = from _ _ c.down in
      put_fine context (Some to') _ context _ c f c.down (left context context inside inside)
      (retabled r _ (made_sound o program l r.tables context class lv (makeable_if o program r.tables context class lv e) g.tables)
      (made_grows o program l r.tables context class lv) g)

  -- EVERY STATEMENT

  abbrev pub Keeps : Run → Type 0
  Keeps go = (at end context : ℕ) (r : Running) → Inside o program scene context → Good r → Stopped Good (go at end context r)

  act_fine : (go : Run) → Keeps go → (s : Statement) (at context : ℕ) (r : Running) → Fits (target s) → Inside o program scene context → Good r
      → Stopped Good (act o program scene go s at context r)
  act_fine go ih (Constant to' k) at context r f c g =
      result_fine context at (Some to') (plain (labelled (Number k) 0)) r c f (record { flows = bottom _ (to _ _ c.down); homed = tt }) g
  act_fine go ih (Itself to') at context r f c g =
      let inside = from _ _ c.down in
      put_fine context (Some to') (ObjectName scene.self) 0 _ c f (bottom _ (to _ _ c.down))
      (through _ context _ (through _ _ _ ok.home c.up) (right 0 context (from _ _ (bottom _ inside)) inside))
      (retabled r _ (noted_sound o program r.tables _ g.tables) (noted_grows r.tables _) g)
  act_fine go ih (Copy to' x) at context r f c g = result_fine context at (Some to') (plain (read r x)) r c f (read_fine r x g) g
  act_fine go ih (Add to' x y) at context r f c g =
      result_fine context at (Some to') (operated o program scene plus (read r x) (read r y)) r c f (operated_fine plus r x y g) g
  act_fine go ih (Subtract to' x y) at context r f c g =
      result_fine context at (Some to') (operated o program scene minus (read r x) (read r y)) r c f (operated_fine minus r x y g) g
  act_fine go ih (Less to' x y) at context r f c g =
      result_fine context at (Some to') (operated o program scene less (read r x) (read r y)) r c f (operated_fine less r x y g) g
  act_fine go ih (Branch x first second) at context r f c g =
      let q = (read_fine r x g).flows in
      let up = raise_fine (read r x).label context (at + 1) (first + second) r q c g in
      let inner = inner_inside (read r x).label context q c in
      branch_any (Stopped Good) (read r x).value _ _ _ (ih _ _ _ _ inner up) (ih _ _ _ _ inner up) up
  act_fine go ih (Invoke to' x method xs) at context r f c g =
      invoked_fine context at to' (read r x).value (read r x).label method (passed r xs) r c f (read_fine r x g).homed (read_fine r x g).flows
      (passed_homed r xs g) g
  act_fine go ih (Get to' x) at context r f c g =
      received_fine context at to' r _ c f
      (fetched_fine r.tables context (read r x).value (read r x).label c (read_fine r x g).homed (read_fine r x g).flows g.tables) g
  act_fine go ih (Create to' class lv) at context r f c g = created_fine context at to' class lv r _ c f refl g
  act_fine go ih (Return x) at context r f c g = g

  passing_fine : (go : Run) → Keeps go → (s : Statement) (at context : ℕ) (r : Running) → Inside o program scene context → Good r
      → Stopped Good (passing o program scene go s at context r)
  passing_fine go ih (Constant to' k) at context r c g = g
  passing_fine go ih (Itself to') at context r c g = g
  passing_fine go ih (Copy to' x) at context r c g = g
  passing_fine go ih (Add to' x y) at context r c g = g
  passing_fine go ih (Subtract to' x y) at context r c g = g
  passing_fine go ih (Less to' x y) at context r c g = g
  passing_fine go ih (Branch x first second) at context r c g =
      when (Stopped Good) (ltb scene.from (at + 1 + first)) _ _ (λ _. ih _ _ _ _ c g)
      (λ _. when (Stopped Good) (ltb scene.from (at + 1 + first + second)) _ _ (λ _. ih _ _ _ _ c g) (λ _. g))
  passing_fine go ih (Invoke to' x method xs) at context r c g = g
  passing_fine go ih (Get to' x) at context r c g = g
  passing_fine go ih (Create to' class lv) at context r c g = g
  passing_fine go ih (Return x) at context r c g = g

  pub step_fine : (go : Run) → Keeps go → (at context : ℕ) (r : Running) → Inside o program scene context → Good r
      → Stopped Good (step o program scene go (get_or scene.body at idle) at context r)
  step_fine go ih at context r c g =
      when (Stopped Good) (ltb at scene.from) _ _ (λ _. passing_fine go ih (get_or scene.body at idle) at context r c g)
      (λ _. act_fine go ih (get_or scene.body at idle) at context r (ok.fits at) c g)

  stopped_done : (s : Step) (r : Running) → s ≡ done r → Stopped Good s → Good r
  stopped_done s r e h = rw e at h

  stopped_held : (s : Step) (at : ℕ) (r : Running) → s ≡ held at r → Stopped Good s → Good r
  stopped_held s at r e h = rw e at h

  pub exec_fine : (f : ℕ) → Keeps (exec o program scene f)
  exec_fine zero at end context r c g = rw (exec-zero o program scene at end context r) g
  exec_fine (suc f) at end context r c g =
      elim (either (ltb at end)) [
        | inl e ↦
            let first = step_fine (exec o program scene f) (exec_fine f) at context r c g in
            rw (exec_more o program scene f at end context r e)
            (bind_any (Stopped Good) _ _ (λ q d. exec_fine f _ end context q c (stopped_done _ q d first)) (λ k q d. stopped_held _ k q d first))
        | inr e ↦ rw (exec_done o program scene f at end context r e) g
      ]
