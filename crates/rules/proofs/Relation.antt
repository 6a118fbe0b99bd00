-- What a reader at a level can tell apart: values, tables, turns.
use Rattle.std.proofs.Common.{◌≡◌, ℕ, zero, suc, ◌<◌, Bool, true, false, eqb, List, [], ◌∷◌, map, length, get_or, set, Some, None, Option, sym, refl, ap, ◌∙◌, inl, inr, arith}
use Rattle.order.specs.Levels.{Levels, Laws}
use Rattle.script.specs.declared.class.Variable.{Variable}
use Rattle.script.specs.declared.class.Variable.TheVariants.{Local, Field}
use Rattle.rules.specs.declared.values.Labelled.{Labelled}
use Rattle.rules.specs.declared.tables.Future.{Future}
use Rattle.rules.specs.declared.tables.Future.TheVariants.{Open, Holding}
use Rattle.rules.specs.Lists.{update, nth, snoc, Placed, later, oldest, without, Pairs, none, more}
use Rattle.rules.specs.Tables.{Object, Call, State}
use Rattle.rules.specs.Wrapper.{same_variable, assigns}
use Rattle.rules.specs.Statements.{Running, Step, done, held, read, stored}
use Rattle.rules.proofs.Listing.{either, clash, update_one}

-- PAIRS OF LISTS

pub pairs-length : {X Y : Type 0} {R : X → Y → Type 0} {xs : List X} {ys : List Y} → Pairs R xs ys → length xs ≡ length ys
pairs-length none = refl
pairs-length (more h t) = ap suc (pairs-length t)

pub pairs-snoc : {X Y : Type 0} {R : X → Y → Type 0} {xs : List X} {ys : List Y} {x : X} {y : Y} → Pairs R xs ys → R x y → Pairs R (snoc xs x) (snoc ys y)
pairs-snoc none k = more k none
pairs-snoc (more h t) k = more h (pairs-snoc t k)

pub pairs_set : {X Y : Type 0} {R : X → Y → Type 0} {xs : List X} {ys : List Y} {x : X} {y : Y} (i : ℕ) → Pairs R xs ys → R x y → Pairs R (set xs i x) (set ys i y)
pairs_set i none k = none
pairs_set zero (more h t) k = more k t
pairs_set (suc i) (more h t) k = more h (pairs_set i t k)

pub pairs-without : {X Y : Type 0} {R : X → Y → Type 0} {xs : List X} {ys : List Y} (i : ℕ) → Pairs R xs ys → Pairs R (without i xs) (without i ys)
pairs-without i none = none
pairs-without zero (more h t) = t
pairs-without (suc i) (more h t) = more h (pairs-without i t)

pub pairs_at : {X Y : Type 0} {R : X → Y → Type 0} {xs : List X} {ys : List Y} (i : ℕ) (d : X) (e : Y) → R d e → Pairs R xs ys → R (get_or xs i d) (get_or ys i e)
pairs_at i d e h none = h
pairs_at zero d e h (more k t) = k
pairs_at (suc i) d e h (more k t) = pairs_at i d e h t

pub pairs-map : {X Y Z W : Type 0} {R : X → Y → Type 0} {xs : List X} {ys : List Y} (S : Z → W → Type 0) (f : X → Z) (g : Y → W)
    → ((x : X) (y : Y) → R x y → S (f x) (g y)) → Pairs R xs ys → Pairs S (map f xs) (map g ys)
pairs-map S f g h none = none
pairs-map S f g h (more k t) = more (h _ _ k) (pairs-map S f g h t)

pub pairs-refl : {X : Type 0} (R : X → X → Type 0) → ((x : X) → R x x) → (xs : List X) → Pairs R xs xs
pairs-refl R h [] = none
pairs-refl R h (x ∷ xs) = more (h x) (pairs-refl R h xs)

-- one element altered, and the rest as it was
pub pairs_altered : {X : Type 0} (R : X → X → Type 0) → ((x : X) → R x x) → (xs : List X) (i : ℕ) (y : X) → ((x : X) → nth xs i ≡ Some x → R x y)
    → Pairs R xs (set xs i y)
pairs_altered R h [] i y k = none
pairs_altered R h (x ∷ xs) zero y k = more (k x refl) (pairs-refl R h xs)
pairs_altered R h (x ∷ xs) (suc i) y k = more (h x) (pairs_altered R h xs i y k)

pub pairs-trans : {X : Type 0} (R : X → X → Type 0) → ((x y z : X) → R x y → R y z → R x z) → {xs ys zs : List X} → Pairs R xs ys → Pairs R ys zs → Pairs R xs zs
pairs-trans R h none q = q
pairs-trans R h (more k t) (more l u) = more (h _ _ _ k l) (pairs-trans R h t u)

pub pairs-sym : {X : Type 0} (R : X → X → Type 0) → ((x y : X) → R x y → R y x) → {xs ys : List X} → Pairs R xs ys → Pairs R ys xs
pairs-sym R h none = none
pairs-sym R h (more k t) = more (h _ _ k) (pairs-sym R h t)

-- two things that are both there, or both not
pub data Both {X Y : Type 0} (R : X → Y → Type 0) : Option X → Option Y → Type 0 where
  absent : Both R None None
  present : {x : X} {y : Y} → R x y → Both R (Some x) (Some y)

pub pairs-nth : {X Y : Type 0} {R : X → Y → Type 0} {xs : List X} {ys : List Y} (i : ℕ) → Pairs R xs ys → Both R (nth xs i) (nth ys i)
pairs-nth i none = absent
pairs-nth zero (more k t) = present k
pairs-nth (suc i) (more k t) = pairs-nth i t

pub record PlacedPair {X Y : Type 0} (R : X → Y → Type 0) (p : Placed X) (q : Placed Y) : Type 0 where
  pub place_is : p.place ≡ q.place
  pub element : R p.element q.element

later-pair : {X Y : Type 0} {R : X → Y → Type 0} {p : Option (Placed X)} {q : Option (Placed Y)} → Both (PlacedPair R) p q
    → Both (PlacedPair R) (later p) (later q)
later-pair absent = absent
later-pair (present k) = present (record { place_is = ap suc k.place_is; element = k.element })

pub pairs-oldest : {X Y : Type 0} {R : X → Y → Type 0} {xs : List X} {ys : List Y} (test : X → Bool) (check : Y → Bool)
    → ((x : X) (y : Y) → R x y → test x ≡ check y) → Pairs R xs ys
    → Both (PlacedPair R) (oldest test xs) (oldest check ys)
pairs-oldest test check h none = absent
pairs-oldest test check h (more {x = x} {y = y} k t) =
    let e = h x y k in
    elim (either (check y)) [
      | inl c ↦ rw (e, c) (present (record { place_is = refl; element = k }))
      | inr c ↦ rw (e, c) (later-pair (pairs-oldest test check h t))
    ]

-- VARIABLES

pub read-stored : (P : Labelled → Type 0) (r : Running) (to x : Variable) (v : Labelled) → (same_variable to x ≡ true → P v)
    → (same_variable to x ≡ false → P (read r x)) → P (read (stored r to v) x)
read-stored P r (Local i) (Local j) v h k = elim (either (eqb i j)) [ inl e ↦ rw e (h e) | inr e ↦ rw e (k e) ]
read-stored P r (Local i) (Field j) v h k = k refl
read-stored P r (Field i) (Local j) v h k = k refl
read-stored P r (Field i) (Field j) v h k = elim (either (eqb i j)) [ inl e ↦ rw e (h e) | inr e ↦ rw e (k e) ]

module _ (o : Levels) (reader : ℕ) where
  abbrev pub Seen : ℕ → Type 0
  Seen k = o.flow k reader ≡ true

  abbrev pub Hidden : ℕ → Type 0
  Hidden k = o.flow k reader ≡ false

  -- two values that the reader cannot tell apart
  pub data Blurred (x y : Labelled) : Type 0 where
    both : Seen x.label → x ≡ y → Blurred x y
    neither : Hidden x.label → Hidden y.label → Blurred x y

  pub record ObjectPair (b d : Object) : Type 0 where
    pub class_is : b.class ≡ d.class
    pub level_is : b.level ≡ d.level
    pub fields : (k : ℕ) → Blurred (b.fields k) (d.fields k)

  pub data FuturePair (f g : Future) : Type 0 where
    opens : f ≡ Open → g ≡ Open → FuturePair f g
    holds : (x y : Labelled) → f ≡ Holding x → g ≡ Holding y → Blurred x y → FuturePair f g

  pub record CallPair (c d : Call) : Type 0 where
    pub receiver_is : c.receiver ≡ d.receiver
    pub method_is : c.method ≡ d.method
    pub next_is : c.next ≡ d.next
    pub owed_is : c.owed ≡ d.owed
    pub locals : (k : ℕ) → Blurred (c.locals k) (d.locals k)

  -- two states that the reader cannot tell apart: at the levels that flow to it, all is the same but for values with hidden labels
  pub record Low (σ τ : State) : Type 0 where
    pub objects : (k : ℕ) → Seen k → Pairs ObjectPair (σ.objects k) (τ.objects k)
    pub futures : (k : ℕ) → Seen k → Pairs FuturePair (σ.futures k) (τ.futures k)
    pub calls : (k : ℕ) → Seen k → Pairs CallPair (σ.calls k) (τ.calls k)
    pub notes : (k : ℕ) → Seen k → σ.notes k ≡ τ.notes k

  pub record LowRun (q p : Running) : Type 0 where
    pub vars : (x : Variable) → Blurred (read q x) (read p x)
    pub tables : Low q.tables p.tables

  pub data LowStep : Step → Step → Type 0 where
    both_done : {q p : Running} → LowRun q p → LowStep (done q) (done p)
    both_held : {at : ℕ} {q p : Running} → LowRun q p → LowStep (held at q) (held at p)

  -- nothing that the reader sees has changed
  pub record Quiet (σ τ : State) : Type 0 where
    pub objects : (k : ℕ) → Seen k → τ.objects k ≡ σ.objects k
    pub futures : (k : ℕ) → Seen k → τ.futures k ≡ σ.futures k
    pub calls : (k : ℕ) → Seen k → τ.calls k ≡ σ.calls k
    pub notes : (k : ℕ) → Seen k → τ.notes k ≡ σ.notes k

  -- y stands where x stood: hidden now if it was written, else the same
  abbrev pub Wrote : Bool → Labelled → Labelled → Type 0
  Wrote true x y = Hidden y.label
  Wrote false x y = y ≡ x

  -- one variable, if any, holds something hidden now; the rest is quiet
  pub record Dimmed (to : Option Variable) (q p : Running) : Type 0 where
    pub vars : (x : Variable) → Wrote (assigns to x) (read q x) (read p x)
    pub tables : Quiet q.tables p.tables

  -- y stands where x stood: the same, or written under P with a hidden label
  pub data Kept (P : Type 0) (x y : Labelled) : Type 0 where
    same : y ≡ x → Kept P x y
    over : P → Hidden y.label → Kept P x y

  pub record Confined (P : Variable → Type 0) (q p : Running) : Type 0 where
    pub vars : (x : Variable) → Kept (P x) (read q x) (read p x)
    pub tables : Quiet q.tables p.tables

  -- BLURRED IS AN EQUIVALENCE

  pub blurred_refl : (x : Labelled) → Blurred x x
  blurred_refl x = elim (either (o.flow x.label reader)) [ inl s ↦ both s refl | inr h ↦ neither h h ]

  pub blurred_sym : (x y : Labelled) → Blurred x y → Blurred y x
  blurred_sym x y (both s e) = both (rw e at s) (sym e)
  blurred_sym x y (neither h k) = neither k h

  pub blurred_trans : (x y z : Labelled) → Blurred x y → Blurred y z → Blurred x z
  blurred_trans x y z (both s e) q = rw e q
  blurred_trans x y z (neither h k) (both s e) = clash s k
  blurred_trans x y z (neither h k) (neither i j) = neither h j

  pub object_refl : (b : Object) → ObjectPair b b
  object_refl b = record { class_is = refl; level_is = refl; fields = λ k. blurred_refl (b.fields k) }

  object_sym : (b d : Object) → ObjectPair b d → ObjectPair d b
  object_sym b d p = record { class_is = sym p.class_is; level_is = sym p.level_is; fields = λ k. blurred_sym _ _ (p.fields k) }

  object_trans : (a b c : Object) → ObjectPair a b → ObjectPair b c → ObjectPair a c
  object_trans a b c p q =
      record { class_is = p.class_is ∙ q.class_is; level_is = p.level_is ∙ q.level_is; fields = λ k. blurred_trans _ _ _ (p.fields k) (q.fields k) }

  future-refl : (f : Future) → FuturePair f f
  future-refl Open = opens refl refl
  future-refl (Holding x) = holds x x refl refl (blurred_refl x)

  future-sym : (f g : Future) → FuturePair f g → FuturePair g f
  future-sym f g (opens p q) = opens q p
  future-sym f g (holds x y p q h) = holds y x q p (blurred_sym x y h)

  same_held : (x y : Labelled) (f : Future) → f ≡ Holding x → f ≡ Holding y → x ≡ y
  same_held x y f p q = cc

  open_not_held : {A : Type 0} (x : Labelled) (f : Future) → f ≡ Open → f ≡ Holding x → A
  open_not_held x f p q = let z : ◌≡◌ {A = ℕ} 0 1 = cc in absurd (omega arith)

  future-trans : (f g h : Future) → FuturePair f g → FuturePair g h → FuturePair f h
  future-trans f g h (opens a b) (opens c d) = opens a d
  future-trans f g h (opens a b) (holds x y c d i) = open_not_held x g b c
  future-trans f g h (holds x y a b i) (opens c d) = open_not_held y g c b
  future-trans f g h (holds x y a b i) (holds z w c d j) = holds x w a d (blurred_trans x y w i (let e = same_held y z g b c in rw e j))

  call_refl : (c : Call) → CallPair c c
  call_refl c = record { receiver_is = refl; method_is = refl; next_is = refl; owed_is = refl; locals = λ k. blurred_refl (c.locals k) }

  call_sym : (c d : Call) → CallPair c d → CallPair d c
  call_sym c d p =
      record {
        receiver_is = sym p.receiver_is;
        method_is = sym p.method_is;
        next_is = sym p.next_is;
        owed_is = sym
            p.owed_is;
        locals = λ k. blurred_sym _ _ (p.locals k);
      }

  call_trans : (a b c : Call) → CallPair a b → CallPair b c → CallPair a c
  call_trans a b c p q =
      record {
        receiver_is = p.receiver_is ∙ q.receiver_is;
        method_is = p.method_is ∙ q.method_is;
        next_is = p.next_is ∙ q.next_is;
        owed_is = p.owed_is ∙ q.owed_is;
        locals = λ k. blurred_trans _ _ _ (p.locals k) (q.locals k);
      }

  pub low_sym : (σ τ : State) → Low σ τ → Low τ σ
  low_sym σ τ h =
      record {
        objects = λ k s. pairs-sym ObjectPair object_sym (h.objects k s);
        futures = λ k s. pairs-sym FuturePair future-sym (h.futures k s);
        calls = λ k s. pairs-sym CallPair call_sym (h.calls k s);
        notes = λ k s. sym (h.notes k s);
      }

  pub low_trans : (σ τ υ : State) → Low σ τ → Low τ υ → Low σ υ
  low_trans σ τ υ h g =
      record {
        objects = λ k s. pairs-trans ObjectPair object_trans (h.objects k s) (g.objects k s);
        futures = λ k s. pairs-trans FuturePair future-trans (h.futures k s) (g.futures k s);
        calls = λ k s. pairs-trans CallPair call_trans (h.calls k s) (g.calls k s);
        notes = λ k s. h.notes k s ∙ g.notes k s;
      }

  pub low_refl : (σ : State) → Low σ σ
  low_refl σ =
      record {
        objects = λ k s. pairs-refl ObjectPair object_refl (σ.objects k);
        futures = λ k s. pairs-refl FuturePair future-refl (σ.futures k);
        calls = λ k s. pairs-refl CallPair call_refl (σ.calls k);
        notes = λ k s. refl;
      }

  -- QUIET STATES

  pub quiet_refl : (σ : State) → Quiet σ σ
  quiet_refl σ = record { objects = λ k s. refl; futures = λ k s. refl; calls = λ k s. refl; notes = λ k s. refl }

  pub quiet_trans : (σ τ υ : State) → Quiet σ τ → Quiet τ υ → Quiet σ υ
  quiet_trans σ τ υ g h =
      record {
        objects = λ k s. h.objects k s ∙ g.objects k s;
        futures = λ k s. h.futures k s ∙ g.futures k s;
        calls = λ k s. h.calls k s ∙ g.calls k s;
        notes = λ k s. h.notes k s ∙ g.notes k s;
      }

  -- two states stay related while each is quiet
  pub quiet_low : (σ τ σ' τ' : State) → Quiet σ σ' → Quiet τ τ' → Low σ τ → Low σ' τ'
  quiet_low σ τ σ' τ' g h q =
      record {
        objects = λ k s. rw (g.objects k s, h.objects k s) (q.objects k s);
        futures = λ k s. rw (g.futures k s, h.futures k s) (q.futures k s);
        calls = λ k s. rw (g.calls k s, h.calls k s) (q.calls k s);
        notes = λ k s. rw (g.notes k s, h.notes k s) (q.notes k s);
      }

  -- a level that is written and hidden is no level that is seen
  pub elsewhere : {A : Type 0} (f : ℕ → A) (s : ℕ) (x : A) (k : ℕ) → Hidden s → Seen k → update f s x k ≡ f k
  elsewhere f s x k h t = update_one (λ y. y ≡ f k) f s k x (λ e. clash (rw (← e) at t) h) refl

  -- FROM ONE STATEMENT TO A RANGE

  wrote_kept : (P : Type 0) (b : Bool) (x y : Labelled) → (b ≡ true → P) → Wrote b x y → Kept P x y
  wrote_kept P true x y h w = over (h refl) w
  wrote_kept P false x y h w = same w

  pub dimmed_confined : (P : Variable → Type 0) (to : Option Variable) (q p : Running) → ((x : Variable) → assigns to x ≡ true → P x) → Dimmed to q p
      → Confined P q p
  dimmed_confined P to q p h d = record { vars = λ x. wrote_kept (P x) (assigns to x) _ _ (h x) (d.vars x); tables = d.tables }

  wrote_blurred : (b : Bool) (x y z w : Labelled) → Wrote b x z → Wrote b y w → Blurred x y → Blurred z w
  wrote_blurred true x y z w g h q = neither g h
  wrote_blurred false x y z w g h q = rw (g, h) q

  pub dimmed_low : (to : Option Variable) (q p q' p' : Running) → Dimmed to q q' → Dimmed to p p' → LowRun q p → LowRun q' p'
  dimmed_low to q p q' p' g h k =
      record {
        vars = λ x. wrote_blurred (assigns to x) _ _ _ _ (g.vars x) (h.vars x) (k.vars x);
        tables = quiet_low _ _ _ _ g.tables h.tables k.tables;
      }

  pub confined_refl : (P : Variable → Type 0) (q : Running) → Confined P q q
  confined_refl P q = record { vars = λ x. same refl; tables = quiet_refl q.tables }

  kept_trans : {P Q : Type 0} {x y z : Labelled} → (Q → P) → Kept P x y → Kept Q y z → Kept P x z
  kept_trans w (same d) (same e) = same (e ∙ d)
  kept_trans w (same d) (over q h) = over (w q) h
  kept_trans w (over p h) (same e) = over p (rw e h)
  kept_trans w (over p k) (over q h) = over (w q) h

  pub confined_trans : {P Q : Variable → Type 0} {q p s : Running} → ((x : Variable) → Q x → P x) → Confined P q p → Confined Q p s → Confined P q s
  confined_trans w c d = record { vars = λ x. kept_trans (w x) (c.vars x) (d.vars x); tables = quiet_trans _ _ _ c.tables d.tables }

  -- two runs that are confined to what was hidden before
  merge_kept : {P : Type 0} {x y z w : Labelled} → Kept P x z → Kept P y w → Blurred x y → (P → Hidden x.label × Hidden y.label) → Blurred z w
  merge_kept (same d) (same e) a f = rw (d, e) a
  merge_kept (same d) (over q h) a f = neither (rw d (f q).0) h
  merge_kept (over p h) (same e) a f = neither h (rw e (f p).1)
  merge_kept (over p h) (over q k) a f = neither h k

  pub confined_low : (P : Variable → Type 0) (q p q' p' : Running) → Confined P q q' → Confined P p p'
      → ((x : Variable) → P x → Hidden (read q x).label × Hidden (read p x).label) → LowRun q p → LowRun q' p'
  confined_low P q p q' p' g h f k =
      record { vars = λ x. merge_kept (g.vars x) (h.vars x) (k.vars x) (f x); tables = quiet_low _ _ _ _ g.tables h.tables k.tables }

module _ (o : Levels) (l : Laws o) (reader : ℕ) where
  open l use {from, to, itself, through, bottom, level, left, right, least}

  -- WHAT THE LAWS OF THE ORDER SAY OF A READER

  pub hide_up : (a b : ℕ) → o.flow a b ≡ true → Hidden o reader a → Hidden o reader b
  hide_up a b f h = elim (either (o.flow b reader)) [ inl s ↦ clash (through a b reader f s) h | inr k ↦ k ]

  pub see_down : (a b : ℕ) → o.flow a b ≡ true → Seen o reader b → Seen o reader a
  see_down a b f s = through a b reader f s

  pub hide_left : (a b : ℕ) → a < o.count → b < o.count → Hidden o reader a → Hidden o reader (o.join a b)
  hide_left a b p q h = hide_up a _ (left a b p q) h

  pub hide_right : (a b : ℕ) → a < o.count → b < o.count → Hidden o reader b → Hidden o reader (o.join a b)
  hide_right a b p q h = hide_up b _ (right a b p q) h

  pub see_both : (a b : ℕ) → Seen o reader a → Seen o reader b → Seen o reader (o.join a b)
  see_both a b s t = least a b reader s t

  pub no_flow : (a b : ℕ) → Hidden o reader a → Seen o reader b → o.flow a b ≡ false
  no_flow a b h s = elim (either (o.flow a b)) [ inl f ↦ clash (through a b reader f s) h | inr f ↦ f ]
