-- More fuel than there are statements changes nothing.
use Rattle.std.proofs.Common.{◌≡◌, ℕ, zero, suc, ◌+◌, ◌≤◌, true, ltb, get_or, sym, refl, ◌∙◌, inl, inr, arith, ltb-true}
use Rattle.order.specs.Levels.{Levels}
use Rattle.script.specs.declared.class.Statement.{Statement}
use Rattle.script.specs.declared.class.Statement.TheVariants.{Constant, Itself, Copy, Add, Subtract, Less, Branch, Invoke, Get, Create, Return}
use Rattle.script.specs.Classes.{Program}
use Rattle.script.specs.Bodies.{idle, branch_rows, branches_fit, nested}
use Rattle.rules.specs.Statements.{Scene, Running, Step, done, held, Run, read, act}
use Rattle.rules.specs.Turns.{bind, passing, exec}
use Rattle.rules.proofs.Listing.{either}
use Rattle.rules.proofs.Ranges.{nested_parts, branch_fits}
use Rattle.rules.proofs.Turning.{when_two, branch_two, exec-zero, exec_more, exec_done}

bind_same : (s t : Step) (f g : Running → Step) → s ≡ t → ((r : Running) → f r ≡ g r) → bind s f ≡ bind t g
bind_same s t f g e h = rw e (go t)
  where
    go : (t : Step) → bind t f ≡ bind t g
    go (done r) = h r
    go (held at r) = refl

module _ (o : Levels) (program : Program) (scene : Scene) where
  -- two ways to carry out ranges that agree on ranges of at most f statements
  abbrev Same : ℕ → Run → Run → Type 0
  Same f go go' =
      (at end context depth : ℕ) (r : Running) → end ≤ at + f → nested (suc f) scene.body depth at end ≡ true → go at end context r ≡ go' at end context r

  act_same : (f : ℕ) (go go' : Run) (s : Statement) (at end context depth : ℕ) (r : Running) → end ≤ at + suc f
      → branches_fit (nested (suc f) scene.body) depth s at end ≡ true → Same f go go' → act o program scene go s at context r ≡ act o program scene go' s at context r
  act_same f go go' (Constant to k) at end context depth r b n h = refl
  act_same f go go' (Itself to) at end context depth r b n h = refl
  act_same f go go' (Copy to x) at end context depth r b n h = refl
  act_same f go go' (Add to x y) at end context depth r b n h = refl
  act_same f go go' (Subtract to x y) at end context depth r b n h = refl
  act_same f go go' (Less to x y) at end context depth r b n h = refl
  act_same f go go' (Branch x first second) at end context depth r b n h =
      branch_fits scene.body (suc f) x first second at end depth _
      (λ d a m k. branch_two ◌≡◌ (read r x).value _ _ _ _ _ _ (h _ _ _ d _ (omega arith) m) (h _ _ _ d _ (omega arith) k) refl) n
  act_same f go go' (Invoke to x method xs) at end context depth r b n h = refl
  act_same f go go' (Get to x) at end context depth r b n h = refl
  act_same f go go' (Create to class lv) at end context depth r b n h = refl
  act_same f go go' (Return x) at end context depth r b n h = refl

  passing_same : (f : ℕ) (go go' : Run) (s : Statement) (at end context depth : ℕ) (r : Running) → end ≤ at + suc f
      → branches_fit (nested (suc f) scene.body) depth s at end ≡ true → Same f go go' → passing o program scene go s at context r ≡ passing o program scene go' s at context r
  passing_same f go go' (Constant to k) at end context depth r b n h = refl
  passing_same f go go' (Itself to) at end context depth r b n h = refl
  passing_same f go go' (Copy to x) at end context depth r b n h = refl
  passing_same f go go' (Add to x y) at end context depth r b n h = refl
  passing_same f go go' (Subtract to x y) at end context depth r b n h = refl
  passing_same f go go' (Less to x y) at end context depth r b n h = refl
  passing_same f go go' (Branch x first second) at end context depth r b n h =
      branch_fits scene.body (suc f) x first second at end depth _
      (λ d a m k.
      when_two ◌≡◌ (ltb scene.from (at + 1 + first)) _ _ _ _ (h _ _ context d r (omega arith) m)
      (when_two ◌≡◌ (ltb scene.from (at + 1 + first + second)) _ _ _ _ (h _ _ context d r (omega arith) k) refl)) n
  passing_same f go go' (Invoke to x method xs) at end context depth r b n h = refl
  passing_same f go go' (Get to x) at end context depth r b n h = refl
  passing_same f go go' (Create to class lv) at end context depth r b n h = refl
  passing_same f go go' (Return x) at end context depth r b n h = refl

  pub enough : (f : ℕ) → Same f (exec o program scene (suc f)) (exec o program scene f)
  enough zero at end context depth r b n =
      elim (either (ltb at end))
      [ inl e ↦ absurd (omega (arith, ltb-true at end e)) | inr e ↦ exec_done o program scene 0 at end context r e ∙ sym (exec-zero o program scene at end context r) ]
  enough (suc f) at end context depth r b n =
      elim (either (ltb at end)) [
        | inl e ↦
            let lt = ltb-true at end e in
            let s = get_or scene.body at idle in
            let parts = nested_parts (suc f) depth at end scene.body n e in
            rw (exec_more o program scene (suc f) at end context r e, exec_more o program scene f at end context r e)
            (bind_same _ _ _ _
            (when_two ◌≡◌ (ltb at scene.from) _ _ _ _ (passing_same f _ _ s at end context depth r b parts.0 (enough f)) (act_same f _ _ s at end context depth r b parts.0 (enough f)))
            (λ q. enough f (at + 1 + branch_rows s) end context depth q (omega arith) parts.1))
        | inr e ↦ rw (exec_done o program scene (suc f) at end context r e, exec_done o program scene f at end context r e)
      ]
