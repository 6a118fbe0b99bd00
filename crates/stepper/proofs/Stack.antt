-- What is still to be done: the range at hand, and the ranges that wait for its end, the innermost last.
use Rattle.std.proofs.Common.{◌≡◌, ℕ, ◌+◌, ◌-◌, ◌*◌, ◌<◌, ◌≤◌, true, List, [], ◌∷◌, ◌++◌, length, get_or, sym, refl, ap, ◌∙◌, subst, inl, inr, arith}
use Rattle.std.proofs.lemmas.List.{length_push}
use Rattle.order.specs.Levels.{Levels, Laws}
use Rattle.script.specs.declared.class.Statement.{Statement}
use Rattle.script.specs.Classes.{Program}
use Rattle.script.specs.Bodies.{idle, branch_rows}
use Rattle.script.proofs.Nesting.{range as nests}
use Rattle.rules.specs.Statements.{Scene, Running, Step, done, held, Run}
use Rattle.rules.specs.Turns.{bind, exec}
use Rattle.stepper.specs.declared.machine.Next.{Next}
use Rattle.stepper.specs.declared.machine.Next.TheVariants.{On, Enter, Hold}
use Rattle.stepper.specs.declared.turn.Range.{Range}
use Rattle.stepper.specs.Halves.{after, changed, leads}
use Rattle.stepper.proofs.Entering.{Entered, enters}
use Rattle.stepper.proofs.Fuel.{First, split, first, exec-none}

abbrev pub range : ℕ → ℕ → ℕ → Range
range at end context = record { at = at; end = end; context = context }

-- the statements that the waiting ranges have left
abbrev pub left : List Range → ℕ
left [] = 0
left (q ∷ qs) = (q.end - q.at) + left qs

pub left-push : (st : List Range) (q : Range) → left (st ++ q ∷ []) ≡ left st + (q.end - q.at)
left-push [] q = omega arith
left-push (p ∷ st) q = let h = left-push st q in omega arith

-- a turn over a body of `size` statements
module _ (o : Levels) (program : Program) (scene : Scene) (size : ℕ) where
  abbrev pub goes : Run
  goes = exec o program scene size

  abbrev here : ℕ → Statement
  here at = get_or scene.body at idle

  -- the work on the waiting ranges, after some work at hand
  abbrev pub rest : List Range → Step → Step
  rest [] s = s
  rest (q ∷ qs) s = bind (rest qs s) (goes q.at q.end q.context)

  rest_held : (at : ℕ) (st : List Range) (r : Running) → rest st (held at r) ≡ held at r
  rest_held at [] r = refl
  rest_held at (q ∷ qs) r = ap (λ s. bind s (goes q.at q.end q.context)) (rest_held at qs r)

  -- what was to follow the work at hand waits, innermost
  rest-push : (st : List Range) (q : Range) (s : Step) → rest (st ++ q ∷ []) s ≡ rest st (bind s (goes q.at q.end q.context))
  rest-push [] q s = refl
  rest-push (p ∷ st) q s = ap (λ t. bind t (goes p.at p.end p.context)) (rest-push st q s)

  rest-none : (st : List Range) (s : Step) → (0 < length st → ⊥) → rest st s ≡ s
  rest-none [] s h = refl
  rest-none (q ∷ qs) s h = absurd (h (omega arith))

  -- a range that can be carried out, with branches at most d deep
  pub record Fits (d : ℕ) (q : Range) : Type 0 where
    pub nested : nests scene.body d q.at q.end ≡ true
    pub within : q.end ≤ size
    pub level : q.context < o.count

  -- ranges that wait: the outermost at most d deep, and each other one less than the one around it
  abbrev pub Waiting : ℕ → List Range → Type 0
  Waiting d [] = Unit {0}
  Waiting d (q ∷ qs) = Fits d q × Waiting (d - 1) qs

  waiting-push : (d : ℕ) (st : List Range) (q : Range) → Waiting d st → Fits (d - length st) q → Waiting d (st ++ q ∷ [])
  waiting-push d [] q w h = let e : d - 0 ≡ d = omega arith in (subst (λ k. Fits k q) e h, tt)
  waiting-push d (p ∷ st) q w h =
      let e : d - length (p ∷ st) ≡ d - 1 - length st = omega arith in (w.0, waiting-push (d - 1) st q w.1 (subst (λ k. Fits k q) e h))

  -- the innermost of the waiting ranges, and the others
  waiting_pop : (d : ℕ) (st : List Range) (q : Range) → Waiting d (st ++ q ∷ []) → Waiting d st × Fits (d - length st) q
  waiting_pop d [] q w = let e : d ≡ d - 0 = omega arith in (tt, subst (λ k. Fits k q) e w.0)
  waiting_pop d (p ∷ st) q w =
      let e : d - 1 - length st ≡ d - length (p ∷ st) = omega arith in
      let inner = waiting_pop (d - 1) st q w.1 in ((w.0, inner.0), subst (λ k. Fits k q) e inner.1)

  -- where a turn stands that began at `start` in the context `level`: the work that is left, done by the rules, gives the whole turn's result
  pub record Going (level : ℕ) (start : Running) (st : List Range) (q : Range) (r : Running) : Type 0 where
    pub same : rest st (goes q.at q.end q.context r) ≡ goes 0 size level start
    pub deep : length st ≤ 4
    pub here : Fits (4 - length st) q
    pub each : Waiting 4 st

  module _ {level : ℕ} {start : Running} {st : List Range} {q : Range} {r : Running} (going : Going level start st q r) where
    abbrev whole : Step
    whole = goes 0 size level start

    -- the range at hand has statements left
    module _ (more : q.at < q.end) (body : List Statement) (body_is : body ≡ scene.body) (n : ℕ) (n_is : n ≡ branch_rows (get_or body q.at idle)) where
      cut : First scene.body (4 - length st) q.at q.end
      cut = split scene.body (4 - length st) q.at q.end more going.here.nested

      n_here : n ≡ branch_rows (here q.at)
      n_here = n_is ∙ ap (λ (b : List Statement). branch_rows (get_or b q.at idle)) body_is

      pub ending : q.at + 1 + n ≤ q.end
      ending = omega (arith, n_here, cut.ending)

      -- the statement and its branches stand in the body, also as the machine has it
      pub fits_now : (scene' : Scene) → scene' ≡ scene → size ≡ length scene.body → q.at + 1 + branch_rows (get_or scene'.body q.at idle) ≤ length scene'.body
      fits_now scene' p size_is = rw p (omega (arith, cut.ending, going.here.within))

      -- what follows the statement and its branches
      abbrev pub others : Range
      others = range (q.at + 1 + n) q.end q.context

      behind : Fits (4 - length st) others
      behind =
          record {
            nested = subst (λ (k : ℕ). nests scene.body (4 - length st) (q.at + 1 + k) q.end ≡ true) (sym n_here) cut.others;
            within = going.here.within;
            level = going.here.level;
          }

      -- the statement is carried out, by a machine whose program and scene are still the same
      module _ (program' : Program) (scene' : Scene) (p : program' ≡ program) (i : scene' ≡ scene) (r' : Running)
          (does : r' ≡ changed o program' scene' (get_or scene'.body q.at idle) q.at q.context r) where
        turned : (next : Next) → next ≡ leads o program' scene' (get_or scene'.body q.at idle) q.at q.context r
            → rest st (bind (after goes q.at next r') (goes (q.at + 1 + n) q.end q.context)) ≡ whole
        turned next e =
            let few : q.end - q.at ≤ size = omega (arith, going.here.within) in
            let to : next ≡ leads o program scene (here q.at) q.at q.context r = e ∙ (λ k. leads o (p k) (i k) (get_or (i k).body q.at idle) q.at q.context r) in
            let now : r' ≡ changed o program scene (here q.at) q.at q.context r = does ∙ (λ k. changed o (p k) (i k) (get_or (i k).body q.at idle) q.at q.context r) in
            (λ k. rest st (bind (after goes q.at (to k) (now k)) (goes (q.at + 1 + n_here k) q.end q.context)))
            ∙ ap (rest st) (sym (first o program scene size (4 - length st) q.at q.end q.context r few more going.here.nested)) ∙ going.same

        pub going_on : On ≡ leads o program' scene' (get_or scene'.body q.at idle) q.at q.context r → Going level start st others r'
        going_on e = record { same = turned On e; deep = going.deep; here = behind; each = going.each }

        pub held_here : Hold ≡ leads o program' scene' (get_or scene'.body q.at idle) q.at q.context r → held q.at r' ≡ whole
        held_here e = sym (rest_held q.at st r') ∙ turned Hold e

        module _ (from to inner : ℕ) (e : Enter from to inner ≡ leads o program' scene' (get_or scene'.body q.at idle) q.at q.context r) where
          entered : Entered o program scene (4 - length st) (here q.at) q.at q.context from to inner
          entered =
              enters o program scene (4 - length st) q.at q.end q.context from to inner r (here q.at) cut.fit
              (e ∙ (λ k. leads o (p k) (i k) (get_or (i k).body q.at idle) q.at q.context r))

          pub room : length st < 4
          room = omega (arith, entered.room)

          module _ (deeper : List Range) (pushed : deeper ≡ st ++ others ∷ []) where
            one_more : length deeper ≡ length st + 1
            one_more = ap length pushed ∙ length_push st others

            pub less_in : 2 * (left deeper + (to - from)) + length deeper < 2 * (left st + (q.end - q.at)) + length st
            less_in =
                let l : left deeper ≡ left st + (q.end - (q.at + 1 + n)) = ap left pushed ∙ left-push st others in
                omega (arith, entered.after, entered.before, n_here, ending, one_more)

            pub going_in : Laws o → Going level start deeper (range from to inner) r'
            going_in laws =
                let depth : 4 - length st - 1 ≡ 4 - length deeper = omega (arith, one_more) in
                record {
                  same =
                      ap (λ s. rest s (goes from to inner r')) pushed ∙ rest-push st others (goes from to inner r') ∙ turned (Enter from to inner) e;
                  deep = omega (arith, room, one_more);
                  here = record {
                    nested = subst (λ (k : ℕ). nests scene.body k from to ≡ true) depth entered.nested;
                    within = omega (arith, entered.before, cut.ending, going.here.within);
                    level = elim entered.level [ inl l ↦ omega (arith, l, going.here.level) | inr l ↦ rw l.1 (laws.level l.0 q.context) ];
                  };
                  each = subst (Waiting 4) (sym pushed) (waiting-push 4 st others going.each behind);
                }

    -- the range at hand is at its end
    module _ (none : q.end ≤ q.at) where
      at_end : rest st (done r) ≡ whole
      at_end = ap (rest st) (sym (exec-none o program scene size q.at q.end q.context r none)) ∙ going.same

      pub ended : (0 < length st → ⊥) → done r ≡ whole
      ended e = sym (rest-none st (done r) e) ∙ at_end

      module _ (outer : List Range) (next : Range) (popped : st ≡ outer ++ next ∷ []) where
        one_less : length st ≡ length outer + 1
        one_less = ap length popped ∙ length_push outer next

        pub less_out : 2 * (left outer + (next.end - next.at)) + length outer < 2 * (left st + (q.end - q.at)) + length st
        less_out = let l : left st ≡ left outer + (next.end - next.at) = ap left popped ∙ left-push outer next in omega (arith, one_less)

        pub going_out : Going level start outer next r
        going_out =
            let waits = waiting_pop 4 outer next (subst (Waiting 4) popped going.each) in
            record {
              same = sym (rest-push outer next (done r)) ∙ ap (λ s. rest s (done r)) (sym popped) ∙ at_end;
              deep = omega (arith, one_less, going.deep);
              here = waits.1;
              each = waits.0;
            }
