-- Labels flow, futures are owed, values stay, refusals alter nothing.
use Rattle.std.proofs.Common.{◌≡◌, ℕ, ◌≤◌, true, ltb, List, [], ◌∷◌, ◌++◌, length, Some, None, Option, refl, arith}
use Rattle.order.specs.Levels.{Levels, Laws}
use Rattle.script.specs.Classes.{Program}
use Rattle.rules.specs.declared.values.Name.{Name}
use Rattle.rules.specs.declared.tables.Future.{Future}
use Rattle.rules.specs.declared.tables.Future.TheVariants.{Open, Holding}
use Rattle.rules.specs.declared.calls.Argument.{Argument}
use Rattle.rules.specs.declared.calls.Refusal.{Refusal}
use Rattle.rules.specs.Lists.{oldest, Placed}
use Rattle.rules.specs.Values.{name}
use Rattle.rules.specs.Tables.{Object, Call, State, new}
use Rattle.rules.specs.Wrapper.{unmakeable, object_for, Verdict, admitted, refused as denied, verdict}
use Rattle.rules.specs.Statements.{Step, done, held}
use Rattle.rules.specs.Turns.{turned}
use Rattle.rules.specs.Calling.{Request, make, post, turn, collect, note, natural, size, level_of, labels_stand, Served, made, posted, is_for, stopped, future_for, collected, is_of, answer, run_from, run}
use Rattle.rules.specs.Answers.{number_of}
use Rattle.rules.specs.Laws.{LabelsFlow, LabelsAlwaysFlow, LabelsAreLevels, LabelsAlwaysLevels, FuturesOwed, ValuesStay, RefusalsAlterNothing}
use Rattle.rules.proofs.Invariant.{Sound}
use Rattle.rules.proofs.Serving.{found_any, require_any, new_sound, list_sound, list_stays}

-- a call's receiver is the object of that name, whose level its locals flow to
flows_of : (o : Levels) (program : Program) (σ : State) → Sound o program σ → LabelsFlow o σ
flows_of o program σ s =
    record {
      fields = λ home n b e k. ((s.objects home n b e).fields k).flows;
      locals = λ m i c e.
          let f = s.calls m i c e in
          record { object = f.stands.object; stands = f.stands.at; flows = λ k. rw f.stands.level_is (f.locals k).flows };
    }

pub labels_flow : LabelsAlwaysFlow
labels_flow o l program ok xs = flows_of o program _ (list_sound o program l ok new xs (new_sound o program l ok))

levels_of : (o : Levels) (program : Program) (l : Laws o) (σ : State) → Sound o program σ → LabelsAreLevels o σ
levels_of o program l σ s =
    record {
      fields = λ home n b e k. l.from _ _ ((s.objects home n b e).fields k).flows;
      locals = λ m i c e k. l.from _ _ ((s.calls m i c e).locals k).flows;
      futures = λ home n x e. l.from _ _ (s.futures home n (Holding x) e).flows;
    }

pub labels_levels : LabelsAlwaysLevels
labels_levels o l program ok xs = levels_of o program l _ (list_sound o program l ok new xs (new_sound o program l ok))

pub futures_owed : FuturesOwed
futures_owed o l program ok xs m = (list_sound o program l ok new xs (new_sound o program l ok)).owed m

-- a longer list goes on from where the shorter ended
from_there : (o : Levels) (program : Program) (σ : State) (xs ys : List Request)
    → (run_from o program σ (xs ++ ys)).state ≡ (run_from o program (run_from o program σ xs).state ys).state
from_there o program σ [] ys = refl
from_there o program σ (x ∷ xs) ys = from_there o program (answer o program σ x).state xs ys

pub values_stay : ValuesStay
values_stay o l program ok xs more home n x e =
    let s = list_sound o program l ok new xs (new_sound o program l ok) in
    rw (from_there o program new xs more) (list_stays o program l ok (run o program xs).state more s home n x e)

-- REFUSALS

-- whatever returns 1 to 9 has left the state as it was
abbrev Unaltered : State → Served → Type 0
Unaltered σ x = 1 ≤ number_of x.answer → number_of x.answer ≤ 9 → x.state ≡ σ

module _ (o : Levels) (program : Program) (σ : State) where
  made_same : (a class lv : ℕ) (v : Option Refusal) → Unaltered σ (made o program σ a class lv v)
  made_same a class lv (Some why) h k = refl
  made_same a class lv None h k = absurd (omega arith)

  posted_same : (s : ℕ) (n : Name) (method : ℕ) (xs : List Argument) (v : Verdict) → Unaltered σ (posted o program σ s n method xs v)
  posted_same s n method xs (denied why) h k = refl
  posted_same s n method xs (admitted b) h k = absurd (omega arith)

  stopped_same : (s : ℕ) (n : Name) (b : Object) (c : Placed Call) (x : Step) → Unaltered σ (stopped o program s n b c x)
  stopped_same s n b c (done r) h k = absurd (omega arith)
  stopped_same s n b c (held at r) h k = absurd (omega arith)

  collected_same : (s : ℕ) (f : Future) → Unaltered σ (collected o program σ s f)
  collected_same s Open h k = refl
  collected_same s (Holding x) h k = refl

  answer_same : (x : Request) → Unaltered σ (answer o program σ x)
  answer_same (make a class lv) =
      found_any (Unaltered σ) σ (level_of o a) _ _ (λ h k. refl) λ home _.
      found_any (Unaltered σ) σ (level_of o lv) _ _ (λ h k. refl) λ v _.
      found_any (Unaltered σ) σ (natural class) _ _ (λ h k. refl) λ c _.
      made_same home c v (unmakeable o program σ home c v)
  answer_same (post a home number method xs) =
      found_any (Unaltered σ) σ (level_of o a) _ _ (λ h k. refl) λ s _.
      found_any (Unaltered σ) σ (level_of o home) _ _ (λ h k. refl) λ v _.
      require_any (Unaltered σ) σ (labels_stand o xs) _ _ (λ h k. refl) λ _.
      found_any (Unaltered σ) σ (natural number) _ _ (λ h k. refl) λ n _.
      posted_same s (name v n) (size method) xs (verdict o program σ s (name v n) (natural method) (length xs) true)
  answer_same (turn a home number) =
      found_any (Unaltered σ) σ (level_of o a) _ _ (λ h k. refl) λ s _.
      found_any (Unaltered σ) σ (level_of o home) _ _ (λ h k. refl) λ v _.
      found_any (Unaltered σ) σ (natural number) _ _ (λ h k. refl) λ n _.
      found_any (Unaltered σ) σ (object_for o program σ s (name v n)) _ _ (λ h k. refl) λ b _.
      found_any (Unaltered σ) σ (oldest (is_for (name v n)) (σ.calls s)) _ _ (λ h k. refl) λ c _.
      stopped_same s (name v n) b c (turned o program σ s (name v n) b c.element)
  answer_same (collect a home number) =
      found_any (Unaltered σ) σ (level_of o a) _ _ (λ h k. refl) λ s _.
      found_any (Unaltered σ) σ (level_of o home) _ _ (λ h k. refl) λ v _.
      found_any (Unaltered σ) σ (natural number) _ _ (λ h k. refl) λ n _.
      found_any (Unaltered σ) σ (future_for o program σ s (name v n)) _ _ (λ h k. refl) λ f _.
      collected_same s f
  answer_same (note a class) =
      found_any (Unaltered σ) σ (level_of o a) _ _ (λ h k. refl) λ s _.
      found_any (Unaltered σ) σ (natural class) _ _ (λ h k. refl) λ c _.
      require_any (Unaltered σ) σ (ltb c (length program)) _ _ (λ h k. refl) λ _.
      found_any (Unaltered σ) σ (oldest (is_of c) (σ.notes s)) _ _ (λ h k. refl) λ x _.
      λ h k. absurd (omega arith)

pub refusals_alter_nothing : RefusalsAlterNothing
refusals_alter_nothing o program σ x = answer_same o program σ x
