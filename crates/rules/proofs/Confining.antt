-- What is done in a context that the reader does not see, or with an operand that it does not see, changes nothing that it sees.
use Rattle.std.proofs.Common.{◌≡◌, ℕ, zero, suc, ◌+◌, ◌<◌, Bool, true, not, ◌&&◌, ltb, ◌⊎◌, List, [], ◌∷◌, map, length, get_or, ℤ, Some, None, Option, refl, ◌∙◌, inl, inr, arith, ltb-true}
use Rattle.order.specs.Levels.{Levels, Laws}
use Rattle.script.specs.declared.class.Variable.{Variable}
use Rattle.script.specs.declared.class.Variable.TheVariants.{Local, Field}
use Rattle.script.specs.declared.class.Statement.{Statement}
use Rattle.script.specs.declared.class.Statement.TheVariants.{Constant, Itself, Copy, Add, Subtract, Less, Branch, Invoke, Get, Create, Return}
use Rattle.script.specs.Classes.{Program}
use Rattle.script.specs.Bodies.{idle, branch_rows, branches_fit, nested}
use Rattle.rules.specs.declared.values.Mark.TheVariants.{WrongKind}
use Rattle.rules.specs.declared.values.Name.{Name}
use Rattle.rules.specs.declared.values.Value.{Value}
use Rattle.rules.specs.declared.values.Value.TheVariants.{Number, ObjectName, FutureName, Marked}
use Rattle.rules.specs.declared.values.Labelled.{Labelled}
use Rattle.rules.specs.declared.tables.Layer.{Layer}
use Rattle.rules.specs.declared.tables.Layer.TheVariants.{AtObject, AtStatement}
use Rattle.rules.specs.declared.tables.Note.{Note}
use Rattle.rules.specs.declared.tables.Future.{Future}
use Rattle.rules.specs.declared.tables.Future.TheVariants.{Open, Holding}
use Rattle.rules.specs.declared.calls.Refusal.{Refusal}
use Rattle.rules.specs.declared.calls.Refusal.TheVariants.{NotALevel, Unknown, NotMade, NoFlow, Full, Nothing}
use Rattle.rules.specs.Values.{labelled, Made, plain, fresh, given, plus, minus, less, worked}
use Rattle.rules.specs.Tables.{Object, State, Place, filed, all_filed}
use Rattle.rules.specs.Wrapper.{target, assigns, assigned, same_variable, with_object, Verdict, admitted, refused, verdict, shown, sent}
use Rattle.rules.specs.Statements.{Scene, Running, Step, done, held, Run, read, with_tables, passed, call_mark, object_mark, given_to, Fetched, gives, waits, branch, settled, put, with_result, raised, raise, asked, invoked, opened, fetched, received, created, operated, act}
use Rattle.rules.specs.Turns.{bind, passing, exec}
use Rattle.rules.proofs.Listing.{either, both_right, pick_one, get_or_cases}
use Rattle.rules.proofs.Ranges.{Hit, wider, assigned_hit, nested_parts, branch_fits}
use Rattle.rules.proofs.Invariant.{Stopped, Homed, FutureFine, Sound, SceneFine, RunningFine, Inside}
use Rattle.rules.proofs.Keeping.{verdict_admits}
use Rattle.rules.proofs.Turning.{when, exec-zero, exec_more, exec_done, branch_any, read_fine, raise_fine, inner_inside, Keeps, step_fine, exec_fine}
use Rattle.rules.proofs.Relation.{Seen, Hidden, Quiet, Wrote, Dimmed, Kept, same, over, Confined, read-stored, quiet_refl, elsewhere, dimmed_confined, confined_refl, confined_trans, hide_up, hide_left, hide_right}

pub call_mark_label : (why : Refusal) (s : ℕ) → (given (call_mark why s)).label ≡ s
call_mark_label NotALevel s = refl
call_mark_label Unknown s = refl
call_mark_label NotMade s = refl
call_mark_label NoFlow s = refl
call_mark_label Full s = refl
call_mark_label Nothing s = refl

object_mark_label : (why : Refusal) (s : ℕ) → (given (object_mark why s)).label ≡ s
object_mark_label NotALevel s = refl
object_mark_label Unknown s = refl
object_mark_label NotMade s = refl
object_mark_label NoFlow s = refl
object_mark_label Full s = refl
object_mark_label Nothing s = refl

pub worked-label : (f : ℤ → ℤ → ℤ) (x y : Value) (lb : ℕ) → (given (worked f x y lb)).label ≡ lb
worked-label f (Number x) (Number y) lb = refl
worked-label f (Number x) (ObjectName n) lb = refl
worked-label f (Number x) (FutureName n) lb = refl
worked-label f (Number x) (Marked k) lb = refl
worked-label f (ObjectName n) y lb = refl
worked-label f (FutureName n) y lb = refl
worked-label f (Marked k) y lb = refl

module _ (o : Levels) (l : Laws o) (reader : ℕ) where
  open l use {from, to, itself, through, bottom, level, left, right, least}

  -- of two labels one is hidden
  pub hide_one : (a b : ℕ) → a < o.count → b < o.count → (Hidden o reader a ⊎ Hidden o reader b) → Hidden o reader (o.join a b)
  hide_one a b p q (inl h) = hide_left o l reader a b p q h
  hide_one a b p q (inr h) = hide_right o l reader a b p q h

  pub swap : {A B : Type 0} → (A ⊎ B) → (B ⊎ A)
  swap (inl h) = inr h
  swap (inr h) = inl h

  pub filed_quiet : (context : ℕ) (w : Place) (m : Made) (notes : ℕ → List Note) (k : ℕ) → Hidden o reader (o.join (given m).label context) → Seen o reader k
      → filed o.join context w m notes k ≡ notes k
  filed_quiet context w (plain x) notes k h s = refl
  filed_quiet context w (fresh mark layer lb) notes k h s = elsewhere o reader notes (o.join lb context) _ k h s

  -- an argument goes as it is, without a note, or its note goes to a level that is hidden
  shown_quiet : (program : Program) (lv s context : ℕ) (w : Place) (layer : Layer) (x : Labelled) (notes : ℕ → List Note) (k : ℕ)
      → Hidden o reader (o.join lv context) → Seen o reader k
      → filed o.join context w (shown o program lv s layer x) notes k ≡ notes k
  shown_quiet program lv s context w layer x notes k h t =
      pick_one (λ (m : Made). filed o.join context w m notes k ≡ notes k) (o.flow (o.join x.label s) lv) _ _ (λ _. refl)
      (λ _. elsewhere o reader notes (o.join lv context) _ k h t)

  all_shown_quiet : (program : Program) (lv s context : ℕ) (w : Place) (layer : Layer) (xs : List Labelled) (notes : ℕ → List Note) (k : ℕ)
      → Hidden o reader (o.join lv context) → Seen o reader k
      → all_filed o.join context w (map (shown o program lv s layer) xs) notes k ≡ notes k
  all_shown_quiet program lv s context w layer [] notes k h t = refl
  all_shown_quiet program lv s context w layer (x ∷ xs) notes k h t =
      all_shown_quiet program lv s context w layer xs (filed o.join context w (shown o program lv s layer x) notes) k h t
      ∙ shown_quiet program lv s context w layer x notes k h t

  -- a call at a hidden level is sent
  pub sent_quiet : (program : Program) (σ : State) (s context : ℕ) (w : Place) (layer : Layer)
      (n : Name) (b : Object) (method : ℕ) (xs : List Labelled) (answered : Bool) → Hidden o reader s
      → o.flow s b.level ≡ true → context < o.count → Quiet o reader σ (sent o program σ s context w layer n b method xs answered)
  sent_quiet program σ s context w layer n b method xs answered h f c =
      let d = hide_left o l reader b.level context (to s _ f) c (hide_up o l reader s _ f h) in
      record {
        objects = λ k t. refl;
        futures = λ k t. pick_one (λ (f : ℕ → List Future). f k ≡ σ.futures k) answered _ _ (λ _. elsewhere o reader σ.futures s _ k h t) (λ _. refl);
        calls = λ k t. elsewhere o reader σ.calls s _ k h t;
        notes = λ k t. all_shown_quiet program b.level s context w layer xs σ.notes k d t;
      }

  -- an object is made at a hidden home
  pub made_quiet : (program : Program) (σ : State) (home class lv : ℕ) → Hidden o reader home → Quiet o reader σ (with_object o program σ home class lv)
  made_quiet program σ home class lv h =
      record { objects = λ k t. elsewhere o reader σ.objects home _ k h t; futures = λ k t. refl; calls = λ k t. refl; notes = λ k t. refl }

module _ (o : Levels) (program : Program) (l : Laws o) (scene : Scene) (ok : SceneFine o program scene) (σ : State) (reader : ℕ) where
  open l use {from, to, itself, through, bottom, level, left, right, least}

  abbrev Good : Running → Type 0
  Good r = RunningFine o program scene σ r

  -- ONE STATEMENT

  settled_hidden : (context : ℕ) (to' : Variable) (lb : ℕ) → Hidden o reader (o.join lb context) → Hidden o reader (settled o program scene context to' lb)
  settled_hidden context (Local k) lb h = h
  settled_hidden context (Field k) lb h = hide_left o l reader _ _ (level _ _) (level _ _) h

  -- a hidden value goes into a variable, and the tables are quiet
  pub put_dim : (context : ℕ) (to' : Option Variable) (x : Labelled) (q : Running) (τ : State) → Hidden o reader (o.join x.label context)
      → Quiet o reader q.tables τ
      → Dimmed o reader to' q (put o program scene context to' x (with_tables q τ))
  put_dim context None x q τ h t = record { vars = λ y. refl; tables = t }
  put_dim context (Some (Local i)) x q τ h t =
      record {
        vars = λ y. read-stored (Wrote o reader (same_variable (Local i) y) (read q y)) (with_tables q τ) (Local i) y _ (λ e. rw e h)
            (λ e. rw e refl);
        tables = t;
      }
  put_dim context (Some (Field i)) x q τ h t =
      let d = settled_hidden context (Field i) x.label h in
      record {
        vars = λ y. read-stored (Wrote o reader (same_variable (Field i) y) (read q y)) (with_tables q τ) (Field i) y _ (λ e. rw e d)
            (λ e. rw e refl);
        tables = t;
      }

  pub result_dim : (context at : ℕ) (to' : Option Variable) (m : Made) (q : Running) → Hidden o reader (o.join (given m).label context)
      → Dimmed o reader to' q (with_result o program scene context at to' m q)
  result_dim context at to' m q h =
      put_dim context to' (given m) q _ h
      (record { objects = λ k t. refl; futures = λ k t. refl; calls = λ k t. refl; notes = λ k t. filed_quiet o l reader context _ m q.tables.notes k h t })

  asked_dim : (context at : ℕ) (to' : Option Variable) (s : ℕ) (n : Name) (method : ℕ) (xs : List Labelled) (q : Running) (v : Verdict) → context < o.count
      → s < o.count → Hidden o reader s
      → verdict o program q.tables s n (Some method) (length xs) (given_to to') ≡ v
      → Dimmed o reader to' q (asked o program scene context at to' s n method xs q v)
  asked_dim context at to' s n method xs q (refused why) c p h e =
      result_dim context at to' (call_mark why s) q (rw (call_mark_label why s) (hide_left o l reader s context p c h))
  asked_dim context at to' s n method xs q (admitted b) c p h e =
      let a = verdict_admits o program q.tables s n (given_to to') (Some method) (length xs) b e in
      put_dim context to' _ q _ (hide_left o l reader s context p c h)
      (sent_quiet o l reader program q.tables s context _ AtObject n b method xs (given_to to') h a.below c)

  pub invoked_dim : (context at : ℕ) (to' : Option Variable) (v : Value) (lb method : ℕ) (xs : List Labelled) (q : Running) → context < o.count → lb < o.count
      → Homed o v lb
      → (Hidden o reader context ⊎ Hidden o reader lb) → Dimmed o reader to' q (invoked o program scene context at to' v lb method xs q)
  invoked_dim context at to' (Number k) lb method xs q c p h d =
      result_dim context at to' (fresh WrongKind AtStatement lb) q (hide_one o l reader lb context p c (swap o l reader d))
  invoked_dim context at to' (ObjectName n) lb method xs q c p h d =
      asked_dim context at to' _ n method xs q _ c (level _ _) (hide_left o l reader _ _ (level _ _) (from _ _ h) (hide_one o l reader context lb c p d)) refl
  invoked_dim context at to' (FutureName n) lb method xs q c p h d =
      result_dim context at to' (fresh WrongKind AtStatement lb) q (hide_one o l reader lb context p c (swap o l reader d))
  invoked_dim context at to' (Marked k) lb method xs q c p h d =
      result_dim context at to' (fresh WrongKind AtStatement lb) q (hide_one o l reader lb context p c (swap o l reader d))

  -- what G gives is hidden, and it waits only in a call that is hidden itself
  abbrev pub FetchedDark : ℕ → Fetched → Type 0
  FetchedDark context (gives m) = Hidden o reader (o.join (given m).label context)
  FetchedDark context waits = Hidden o reader scene.called_at

  opened_dark : (context t : ℕ) (f : Future) → context < o.count → o.flow t scene.level ≡ true → Hidden o reader t → FutureFine o f
      → FetchedDark context (opened o program scene t f)
  opened_dark context t Open c p h k =
      pick_one (FetchedDark context) (o.flow t scene.called_at) _ _ (λ e. hide_up o l reader t _ e h) (λ _. hide_left o l reader t context (from t _ p) c h)
  opened_dark context t (Holding x) c p h k =
      pick_one (λ (m : Made). Hidden o reader (o.join (given m).label context)) (o.flow (o.join x.label t) scene.level) _ _
      (λ _. hide_left o l reader _ context (level _ _) c (hide_right o l reader x.label t (from _ _ k.flows) (from t _ p) h))
      (λ _. hide_left o l reader _ context (to t _ p) c (hide_up o l reader t _ p h))

  pub fetched_dark : (τ : State) (context : ℕ) (v : Value) (lb : ℕ) → Inside o program scene context → Homed o v lb → o.flow lb scene.level ≡ true
      → Sound o program τ
      → (Hidden o reader context ⊎ Hidden o reader lb) → FetchedDark context (fetched o program scene τ context v lb)
  fetched_dark τ context (Number k) lb c h p s d = hide_one o l reader lb context (from lb _ p) (from _ _ c.down) (swap o l reader d)
  fetched_dark τ context (ObjectName n) lb c h p s d = hide_one o l reader lb context (from lb _ p) (from _ _ c.down) (swap o l reader d)
  fetched_dark τ context (FutureName n) lb c h p s d =
      opened_dark context _ _ (from _ _ c.down) (least _ _ _ (least _ _ _ c.down p) (through _ lb _ h p))
      (hide_left o l reader _ _ (level _ _) (from _ _ h) (hide_one o l reader context lb (from _ _ c.down) (from lb _ p) d))
      (get_or_cases (FutureFine o) (τ.futures n.home) n.number Open tt (s.futures n.home n.number))
  fetched_dark τ context (Marked k) lb c h p s d = hide_one o l reader lb context (from lb _ p) (from _ _ c.down) (swap o l reader d)

  created_dim : (context at : ℕ) (to' : Variable) (class lv : ℕ) (q : Running) (v : Option Refusal) → context < o.count → Hidden o reader context
      → Dimmed o reader (Some to') q (created o program scene context at to' class lv q v)
  created_dim context at to' class lv q (Some why) c h =
      result_dim context at (Some to') (object_mark why context) q (rw (object_mark_label why context) (hide_left o l reader context context c c h))
  created_dim context at to' class lv q None c h =
      put_dim context (Some to') _ q _ (hide_left o l reader context context c c h) (made_quiet o l reader program q.tables context class lv h)

  pub read-raise : (g context at n : ℕ) (q : Running) (x : Variable)
      → read (raise o program scene g context at n q) x ≡ raised o program scene g context (assigned scene.body at n x) (read q x)
  read-raise g context at n q (Local k) = refl
  read-raise g context at n q (Field k) = refl

  raise_confined : (P : Variable → Type 0) (g context at n : ℕ) (q : Running) → Hidden o reader (o.join g context) → Good q
      → ((x : Variable) → assigned scene.body at n x ≡ true → P x)
      → Confined o reader P q (raise o program scene g context at n q)
  raise_confined P g context at n q h f hit =
      record {
        vars = λ x.
            rw (read-raise g context at n q x)
            (pick_one (Kept o reader (P x) (read q x)) (not (o.flow g context) && assigned scene.body at n x) _ _
            (λ e. over (hit x (both_right _ _ e)) (hide_right o l reader _ _ (from _ _ (read_fine o program l scene ok σ q x f).flows) (level _ _) h))
            (λ _. same refl));
        tables = quiet_refl o reader q.tables;
      }

  -- IN A HIDDEN CONTEXT

  -- contexts, the label 0 and the labels of variables are levels
  context_level : {context : ℕ} → Inside o program scene context → context < o.count
  context_level c = from _ _ c.down

  zero_level : {context : ℕ} → Inside o program scene context → 0 < o.count
  zero_level c = from _ _ (bottom _ (context_level c))

  variable_level : (q : Running) (x : Variable) → Good q → (read q x).label < o.count
  variable_level q x g = from _ _ (read_fine o program l scene ok σ q x g).flows

  -- every result is hidden
  dark_result : (context at : ℕ) (to' : Option Variable) (m : Made) (q : Running) → Inside o program scene context → Hidden o reader context
      → (given m).label < o.count
      → Dimmed o reader to' q (with_result o program scene context at to' m q)
  dark_result context at to' m q c h p = result_dim context at to' m q (hide_right o l reader _ context p (context_level c) h)

  dark_sum : (f : ℤ → ℤ → ℤ) (context at : ℕ) (to' x y : Variable) (q : Running) → Inside o program scene context → Hidden o reader context
      → Dimmed o reader (Some to') q (with_result o program scene context at (Some to') (operated o program scene f (read q x) (read q y)) q)
  dark_sum f context at to' x y q c h =
      let e = worked-label f (read q x).value (read q y).value (o.join (read q x).label (read q y).label) in
      dark_result context at (Some to') (operated o program scene f (read q x) (read q y)) q c h (rw e (level _ _))

  -- what one statement of a range assigns, the range assigns
  hit_dim : (s : Statement) (at end : ℕ) (q p : Running) → get_or scene.body at idle ≡ s → at < end → Dimmed o reader (target s) q p
      → Confined o reader (Hit scene.body at end) q p
  hit_dim s at end q p e lt d = dimmed_confined o reader _ (target s) q p (λ x t. (at, omega arith, lt, rw e t)) d

  -- A RANGE

  -- confined so far; and only a call that is hidden itself is held
  abbrev pub DarkStep : (Variable → Type 0) → Running → Step → Type 0
  DarkStep P q (done p) = Confined o reader P q p
  DarkStep P q (held at p) = Confined o reader P q p × Hidden o reader scene.called_at

  pub dark_after : {P Q : Variable → Type 0} {q p : Running} → ((x : Variable) → Q x → P x) → Confined o reader P q p → (s : Step) → DarkStep Q p s
      → DarkStep P q s
  dark_after w c (done r) d = confined_trans o reader w c d
  dark_after w c (held at r) d = (confined_trans o reader w c d.0, d.1)

  pub dark_wider : {P Q : Variable → Type 0} (q : Running) → ((x : Variable) → Q x → P x) → (s : Step) → DarkStep Q q s → DarkStep P q s
  dark_wider {P = P} q w s d = dark_after w (confined_refl o reader P q) s d

  abbrev pub Hides : ℕ → Run → Type 0
  Hides f go =
      (at end context depth : ℕ) (q : Running) → Inside o program scene context → Hidden o reader context → Good q → nested f scene.body depth at end ≡ true
      → DarkStep (Hit scene.body at end) q (go at end context q)

  received_dark : (context at : ℕ) (to' : Variable) (q : Running) (f : Fetched) (P : Variable → Type 0) → ((x : Variable) → assigns (Some to') x ≡ true → P x)
      → FetchedDark context f
      → DarkStep P q (received o program scene context at to' q f)
  received_dark context at to' q (gives m) P h d = dimmed_confined o reader P (Some to') q _ h (result_dim context at (Some to') m q d)
  received_dark context at to' q waits P h d = (confined_refl o reader P q, d)

  module _ (f : ℕ) (go : Run) (keeps : Keeps o program l scene ok σ go) (hides : Hides f go) where
    -- both branches of an I, after the raise
    pub branch_dark : (P : Variable → Type 0) (v : Value) (inner at first second depth : ℕ) (q p : Running) → Confined o reader P q p
        → ((x : Variable) → Hit scene.body (at + 1) (at + 1 + first + second) x → P x)
        → Inside o program scene inner → Hidden o reader inner → Good p → nested f scene.body depth (at + 1) (at + 1 + first) ≡ true
        → nested f scene.body depth (at + 1 + first) (at + 1 + first + second) ≡ true
        → DarkStep P q (branch v (go (at + 1) (at + 1 + first) inner) (go (at + 1 + first) (at + 1 + first + second) inner) p)
    branch_dark P v inner at first second depth q p c w i h g m n =
        branch_any (DarkStep P q) v _ _ p
        (dark_after (λ x k. w x (wider scene.body _ _ _ _ x (omega arith) (omega arith) k)) c _ (hides _ _ inner depth p i h g m))
        (dark_after (λ x k. w x (wider scene.body _ _ _ _ x (omega arith) (omega arith) k)) c _ (hides _ _ inner depth p i h g n))
        c

    pub guard_dark : (x : Variable) (first second at context depth : ℕ) (q : Running) (P : Variable → Type 0)
        → ((y : Variable) → Hit scene.body (at + 1) (at + 1 + first + second) y → P y)
        → Inside o program scene context → (Hidden o reader (read q x).label ⊎ Hidden o reader context) → Good q
        → nested f scene.body depth (at + 1) (at + 1 + first) ≡ true → nested f scene.body depth (at + 1 + first) (at + 1 + first + second) ≡ true
        → DarkStep P q (act o program scene go (Branch x first second) at context q)
    guard_dark x first second at context depth q P w c d g m n =
        let p = (read_fine o program l scene ok σ q x g).flows in
        let h = hide_one o l reader (read q x).label context (from _ _ p) (from _ _ c.down) d in
        branch_dark P (read q x).value (o.join (read q x).label context) at first second depth q
        (raise o program scene (read q x).label context (at + 1) (first + second) q)
        (raise_confined P (read q x).label context (at + 1) (first + second) q h g
        (λ y e. w y (wider scene.body (at + 1) (at + 1 + first + second) (at + 1) (at + 1 + (first + second)) y (omega arith) (omega arith)
        (assigned_hit scene.body (at + 1) (first + second) y e))))
        w (inner_inside o program l scene ok σ _ context p c) h (raise_fine o program l scene ok σ _ context (at + 1) (first + second) q p c g) m n

    act_dark : (s : Statement) (at end context depth : ℕ) (q : Running) → get_or scene.body at idle ≡ s → at < end → Inside o program scene context
        → Hidden o reader context → Good q
        → branches_fit (nested f scene.body) depth s at end ≡ true → DarkStep (Hit scene.body at end) q (act o program scene go s at context q)
    act_dark (Constant to' k) at end context depth q e lt c h g n =
        hit_dim (Constant to' k) at end q _ e lt (dark_result context at (Some to') (plain (labelled (Number k) 0)) q c h (zero_level c))
    act_dark (Itself to') at end context depth q e lt c h g n =
        hit_dim (Itself to') at end q _ e lt (dark_result context at (Some to') (plain (labelled (ObjectName scene.self) 0)) q c h (zero_level c))
    act_dark (Copy to' x) at end context depth q e lt c h g n =
        hit_dim (Copy to' x) at end q _ e lt (dark_result context at (Some to') (plain (read q x)) q c h (variable_level q x g))
    act_dark (Add to' x y) at end context depth q e lt c h g n = hit_dim (Add to' x y) at end q _ e lt (dark_sum plus context at to' x y q c h)
    act_dark (Subtract to' x y) at end context depth q e lt c h g n = hit_dim (Subtract to' x y) at end q _ e lt (dark_sum minus context at to' x y q c h)
    act_dark (Less to' x y) at end context depth q e lt c h g n = hit_dim (Less to' x y) at end q _ e lt (dark_sum less context at to' x y q c h)
    act_dark (Branch x first second) at end context depth q e lt c h g n =
        branch_fits scene.body f x first second at end depth _
        (λ d a m k. guard_dark x first second at context d q (Hit scene.body at end) (λ y. wider scene.body _ _ _ _ y (omega arith) a) c (inr h) g m k) n
    act_dark (Invoke to' x method xs) at end context depth q e lt c h g n =
        let p = read_fine o program l scene ok σ q x g in
        hit_dim (Invoke to' x method xs) at end q _ e lt
        (invoked_dim context at to' (read q x).value (read q x).label method (passed q xs) q (context_level c) (variable_level q x g) p.homed (inl h))
    act_dark (Get to' x) at end context depth q e lt c h g n =
        let p = read_fine o program l scene ok σ q x g in
        received_dark context at to' q _ _ (λ x t. (at, omega arith, lt, rw e t))
        (fetched_dark q.tables context (read q x).value (read q x).label c p.homed p.flows g.tables (inl h))
    act_dark (Create to' class lv) at end context depth q e lt c h g n =
        hit_dim (Create to' class lv) at end q _ e lt (created_dim context at to' class lv q _ (context_level c) h)
    act_dark (Return x) at end context depth q e lt c h g n = confined_refl o reader _ q

    passing_dark : (s : Statement) (at end context depth : ℕ) (q : Running) → Inside o program scene context → Hidden o reader context → Good q
        → branches_fit (nested f scene.body) depth s at end ≡ true → DarkStep (Hit scene.body at end) q (passing o program scene go s at context q)
    passing_dark (Constant to' k) at end context depth q c h g n = confined_refl o reader _ q
    passing_dark (Itself to') at end context depth q c h g n = confined_refl o reader _ q
    passing_dark (Copy to' x) at end context depth q c h g n = confined_refl o reader _ q
    passing_dark (Add to' x y) at end context depth q c h g n = confined_refl o reader _ q
    passing_dark (Subtract to' x y) at end context depth q c h g n = confined_refl o reader _ q
    passing_dark (Less to' x y) at end context depth q c h g n = confined_refl o reader _ q
    passing_dark (Branch x first second) at end context depth q c h g n =
        branch_fits scene.body f x first second at end depth _
        (λ d a m k.
        when (DarkStep (Hit scene.body at end) q) (ltb scene.from (at + 1 + first)) _ _
        (λ _. dark_wider q (λ y. wider scene.body _ _ _ _ y (omega arith) (omega arith)) _ (hides _ _ context d q c h g m))
        (λ _. when (DarkStep (Hit scene.body at end) q) (ltb scene.from (at + 1 + first + second)) _ _
        (λ _. dark_wider q (λ y. wider scene.body _ _ _ _ y (omega arith) (omega arith)) _ (hides _ _ context d q c h g k))
        (λ _. confined_refl o reader _ q))) n
    passing_dark (Invoke to' x method xs) at end context depth q c h g n = confined_refl o reader _ q
    passing_dark (Get to' x) at end context depth q c h g n = confined_refl o reader _ q
    passing_dark (Create to' class lv) at end context depth q c h g n = confined_refl o reader _ q
    passing_dark (Return x) at end context depth q c h g n = confined_refl o reader _ q

  bind_dark : {P Q : Variable → Type 0} (q : Running) (s : Step) (next : Running → Step) → ((x : Variable) → Q x → P x) → DarkStep P q s → Stopped Good s
      → ((p : Running) → Good p → DarkStep Q p (next p)) → DarkStep P q (bind s next)
  bind_dark q (done p) next w d g k = dark_after w d (next p) (k p g)
  bind_dark q (held at p) next w d g k = d

  pub exec_dark : (f : ℕ) → Hides f (exec o program scene f)
  exec_dark zero at end context depth q c h g n = rw (exec-zero o program scene at end context q) (confined_refl o reader _ q)
  exec_dark (suc f) at end context depth q c h g n =
      elim (either (ltb at end)) [
        | inl e ↦
            let lt = ltb-true at end e in
            let parts = nested_parts f depth at end scene.body n e in
            let go = exec o program scene f in
            let keeps = exec_fine o program l scene ok σ f in
            rw (exec_more o program scene f at end context q e)
            (bind_dark q _ _ (λ x. wider scene.body at end (at + 1 + branch_rows (get_or scene.body at idle)) end x (omega arith) (omega arith))
            (when (DarkStep (Hit scene.body at end) q) (ltb at scene.from) _ _
            (λ _. passing_dark f go keeps (exec_dark f) (get_or scene.body at idle) at end context depth q c h g parts.0)
            (λ _. act_dark f go keeps (exec_dark f) (get_or scene.body at idle) at end context depth q refl lt c h g parts.0))
            (step_fine o program l scene ok σ go keeps at context q c g)
            (λ p k. exec_dark f _ end context depth p c h k parts.1))
        | inr e ↦ rw (exec_done o program scene f at end context q e) (confined_refl o reader _ q)
      ]
