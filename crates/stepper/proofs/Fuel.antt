-- More fuel than statements changes nothing, so a range is its first statement, by its halves, and then the rest.
use Rattle.std.proofs.Common.{◌≡◌, ℕ, zero, suc, ◌+◌, ◌-◌, ◌<◌, ◌≤◌, true, List, get_or, sym, refl, ap, ◌∙◌, inl, inr, arith}
use mathlib.Core.Path.{fun_ext}
use Rattle.std.proofs.lemmas.Bool.Decides.{nat_tests}
use Rattle.std.proofs.lemmas.Bool.{cases_lt}
use Rattle.order.specs.Levels.{Levels}
use Rattle.script.specs.declared.class.Statement.{Statement}
use Rattle.script.specs.Classes.{Program}
use Rattle.script.specs.Bodies.{idle, branch_rows, branches_fit}
use Rattle.script.proofs.Nesting.{range, first_of}
use Rattle.rules.specs.Statements.{Scene, Running, Step, done, Run}
use Rattle.rules.specs.Turns.{bind, exec}
use Rattle.rules.proofs.Turning.{exec-zero, exec_more, exec_done}
use Rattle.rules.proofs.Listing.{both_left, both_right}
use Rattle.stepper.specs.declared.machine.Next.{Next}
use Rattle.stepper.specs.declared.machine.Next.TheVariants.{On, Enter, Hold}
use Rattle.stepper.specs.Halves.{after, changed, leads}
use Rattle.stepper.proofs.Halving.{two_halves}
use Rattle.stepper.proofs.Entering.{enters, inside}

-- the first statement of a range: its branches, the rest, and where both end
pub record First (body : List Statement) (d at end : ℕ) : Type 0 where
  pub fit : branches_fit (range body) d (get_or body at idle) at end ≡ true
  pub others : range body d (at + 1 + branch_rows (get_or body at idle)) end ≡ true
  pub ending : at + 1 + branch_rows (get_or body at idle) ≤ end

pub split : (body : List Statement) (d at end : ℕ) → at < end → range body d at end ≡ true → First body d at end
split body d at end more n =
    let both = sym (first_of body d at end more) ∙ n in
    let fit = both_left _ _ both in
    record { fit = fit; others = both_right _ _ both; ending = inside body d at end (get_or body at idle) more fit }

module _ (o : Levels) (program : Program) (scene : Scene) where
  abbrev here : ℕ → Statement
  here at = get_or scene.body at idle

  abbrev over : ℕ → Run
  over = exec o program scene

  -- a range with nothing in it
  pub exec-none : (f at end context : ℕ) (r : Running) → end ≤ at → over f at end context r ≡ done r
  exec-none zero at end context r h = exec-zero o program scene at end context r
  exec-none (suc f) at end context r h = exec_done o program scene f at end context r (grind (arith, nat_tests))

  -- one more, by the halves of its first statement
  exec-some : (f at end context : ℕ) (r : Running) → at < end
      → over (suc f) at end context r
      ≡ bind (after (over f) at (leads o program scene (here at) at context r) (changed o program scene (here at) at context r)) (over f (at + 1 + branch_rows (here at)) end context)
  exec-some f at end context r h =
      exec_more o program scene f at end context r (grind (arith, nat_tests))
      ∙ ap (λ (s : Step). bind s (over f (at + 1 + branch_rows (here at)) end context)) (two_halves o program scene (over f) (here at) at context r)

  -- where a statement leads, over two runs that agree on shorter ranges that nest
  after_same : (go go' : Run) (d at end context : ℕ) (r q : Running) (n : Next) → branches_fit (range scene.body) d (here at) at end ≡ true → at + 1 + branch_rows (here at) ≤ end
      → ((e from to inner : ℕ) (q : Running) → to - from < end - at → range scene.body e from to ≡ true → go from to inner q ≡ go' from to inner q)
      → n ≡ leads o program scene (here at) at context r → after go at n q ≡ after go' at n q
  after_same go go' d at end context r q On fit ending same e = refl
  after_same go go' d at end context r q (Enter from to inner) fit ending same e =
      let i = enters o program scene d at end context from to inner r (here at) fit e in
      let a = i.after in
      let b = i.before in
      same (d - 1) from to inner q (omega arith) i.nested
  after_same go go' d at end context r q Hold fit ending same e = refl

  -- enough fuel is as good as any other
  pub enough : (f g d at end context : ℕ) (r : Running) → end - at ≤ f → end - at ≤ g → range scene.body d at end ≡ true → over f at end context r ≡ over g at end context r
  enough zero g d at end context r h k n = exec-none zero at end context r (omega arith) ∙ sym (exec-none g at end context r (omega arith))
  enough (suc f) zero d at end context r h k n = exec-none (suc f) at end context r (omega arith) ∙ sym (exec-none zero at end context r (omega arith))
  enough (suc f) (suc g) d at end context r h k n =
      elim (cases_lt at end) [
        | inl lt ↦
            let w = split scene.body d at end lt n in
            let one =
            after_same (over f) (over g) d at end context r (changed o program scene (here at) at context r) _ w.fit w.ending
            (λ e from to inner q l m. enough f g e from to inner q (omega arith) (omega arith) m) refl in
            let rest = fun_ext (λ q. enough f g d (at + 1 + branch_rows (here at)) end context q (omega arith) (omega arith) w.others) in
            exec-some f at end context r lt ∙ (λ i. bind (one i) (rest i)) ∙ sym (exec-some g at end context r lt)
        | inr ge ↦ exec-none (suc f) at end context r ge ∙ sym (exec-none (suc g) at end context r ge)
      ]

  -- a range is its first statement and then the rest, all with the same fuel
  pub first : (f d at end context : ℕ) (r : Running) → end - at ≤ f → at < end → range scene.body d at end ≡ true
      → over f at end context r
      ≡ bind (after (over f) at (leads o program scene (here at) at context r) (changed o program scene (here at) at context r)) (over f (at + 1 + branch_rows (here at)) end context)
  first zero d at end context r h lt n = absurd (omega arith)
  first (suc f) d at end context r h lt n =
      let w = split scene.body d at end lt n in
      let one =
      after_same (over f) (over (suc f)) d at end context r (changed o program scene (here at) at context r) _ w.fit w.ending
      (λ e from to inner q l m. enough f (suc f) e from to inner q (omega arith) (omega arith) m) refl in
      let rest = fun_ext (λ q. enough f (suc f) d (at + 1 + branch_rows (here at)) end context q (omega arith) (omega arith) w.others) in
      exec-some f at end context r lt ∙ (λ i. bind (one i) (rest i))
