use Rattle.std.proofs.Common.{◌≡◌, Some, rules}
use Rattle.std.proofs.lemmas.Bool.{cond-true, cond-false}
use Rattle.line.specs.Slots.{elements, oldest}
use Rattle.line.proofs.Lines.{rest-none, rest_some, rest_all}
use Rattle.line.proofs.Oldest.{found_within, found_holds}
use Rattle.line.proofs.slots.look.Goals as goal

pub returns-in_err-e-clause-found : goal.returns-in_err-e-clause-found
returns-in_err-e-clause-found g c = search (rules, rest-none)

pub returns-then-eq : goal.returns-then-eq
returns-then-eq g c =
    let s = rest_some _ _ _ _ c.loop-i-test.true c.index-slots-i.is c.in_ok-e.was in
    let t = g.met.E.Element.tells _ _ _ c.eq.ensures in
    let found : Some (c.loop-i.i, c.in_ok-e.e) ≡ oldest (λ x. g.E.Element.same (g.E.Element.key_of x) c.args.key) (elements c.args.slots.now) = search (rules, cond-true) in
    record { found = found; within = found_within _ _ _ found; holds = found_holds _ _ _ found }

pub loop-i-preserved : goal.loop-i-preserved
loop-i-preserved g c =
    let s = rest_some _ _ _ _ c.loop-i-test.true c.index-slots-i.is c.in_ok-e.was in
    let t = g.met.E.Element.tells _ _ _ c.eq.ensures in
    search (rules, cond-false)

pub returns : goal.returns
returns g c = record { found = search (rules, rest_all); within = tt; holds = tt }
