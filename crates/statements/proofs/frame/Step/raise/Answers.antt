use Rattle.std.proofs.Common.{◌≡◌, ◌+◌, ◌≤◌, length, ap, subst, ◌∙◌, arith}
use Rattle.rules.specs.Wrapper.{target}
use Rattle.rules.specs.Statements.{raise}
use Rattle.statements.specs.Turning.{running_of, program_of, scene_of_frame}
use Rattle.statements.proofs.Ranges.{assigned_fits}
use Rattle.statements.proofs.Raising.{slice_item, with_raised, with_raised_some, with_raised_none, raise_next}
use Rattle.statements.proofs.frame.Step.raise.Goals as goal
use Rattle.statements.proofs.frame.Step.raise.Goals.{in-Some, in_default}

pub store-requires : goal.store-requires
store-requires g c =
    let f = c.args.self.now.frame in
    let start = c.args.self.now.at + 1 in
    let i = c.loop-statement.statement-index in
    let short : start + c.args.count ≤ length f.body.now = c.requires in
    let e = c.assigned_by.ensures ∙ ap target (slice_item f.body.now start c.args.count i (omega arith)) in
    assigned_fits (length f.fields.now) f.body.now (start + i) c.assigned_by.result e f.ranges c.in-Some.to c.in-Some.is

pub loop-statement-preserved : goal.loop-statement-preserved
loop-statement-preserved g c = λ σ.
    let o = g.O.Order.levels c.args.order.now in
    let s = c.args.self.now in
    let by = c.join-by.result in
    let to = c.assigned_by.result in
    let i = c.loop-statement.statement-index in
    let before = running_of c.args.variables.now σ in
    let now = running_of c.loop-statement.variables σ in
    let after = running_of c.match-assigned_by.variables σ in
    raise_next o (program_of s.frame) (scene_of_frame s.frame) c.args.guard s.context by c.if-flows.ensures c.join-by.ensures (s.at + 1) i to
    (c.assigned_by.ensures ∙ ap target (slice_item s.frame.body.now (s.at + 1) c.args.count i (omega arith)))
    before now after (c.loop-statement.invariant σ) (elim c.match-assigned_by.branch as (λ _. after ≡ with_raised o by to before now) [
      | in-Some w ↦
          with_raised_some o by to before now after w.in-Some.to w.raised.result w.in-Some.is (w.raised.ensures σ) (ap (λ v. running_of v σ) w.variables-is ∙ w.store.ensures σ)
      | in_default w ↦ ap (λ v. running_of v σ) w.variables-is ∙ with_raised_none o by to before now w.in_default.not-Some
    ])

pub returns : goal.returns
returns g c = λ σ.
    let s = c.args.self.now in
    let all : c.loop-statement.statement-index ≡ c.args.count = let short : s.at + 1 + c.args.count ≤ length s.frame.body.now = c.requires in omega arith in
    subst (λ n. running_of c.loop-statement.variables σ ≡ raise (g.O.Order.levels c.args.order.now) (program_of s.frame) (scene_of_frame s.frame) c.args.guard s.context (s.at + 1) n (running_of c.args.variables.now σ))
    all (c.loop-statement.invariant σ)
