use Rattle.std.proofs.Common.{length, ap, ◌∙◌, lit<}
use Rattle.stepper.proofs.Stack.{going_on, going_in, going_out, room, less_in, less_out, held_here, ended, fits_now}
use Rattle.stepper.proofs.turn.run.Goals as goal

pub step-requires-clause-within : goal.step-requires-clause-within
step-requires-clause-within g c =
    let v = c.loop-range.invariant in
    fits_now _ _ _ _ v.0 c.if-range.true _ c.requires.body _ c.rows_of.ensures _ v.2 (ap length c.requires.body)

pub loop-range-preserved-in-On : goal.loop-range-preserved-in-On
loop-range-preserved-in-On g c =
    let v = c.loop-range.invariant in
    let e = c.in-On.ensures in (
      going_on _ _ _ _ v.0 c.if-range.true _ c.requires.body _ c.rows_of.ensures _ _ v.1 v.2 _ e.does e.next,
      e.same ∙ v.1,
      e.stays ∙ v.2,
      e.still,
      e.lent ∙ v.4,
    )

pub push-requires : goal.push-requires
push-requires g c =
    let v = c.loop-range.invariant in
    let e = c.in-Enter.ensures in
    (lit< tt, room _ _ _ _ v.0 c.if-range.true _ c.requires.body _ c.rows_of.ensures _ _ v.1 v.2 _ e.does _ _ _ e.next)

pub loop-range-smaller-in-Enter : goal.loop-range-smaller-in-Enter
loop-range-smaller-in-Enter g c =
    let v = c.loop-range.invariant in
    let e = c.in-Enter.ensures in
    less_in _ _ _ _ v.0 c.if-range.true _ c.requires.body _ c.rows_of.ensures _ _ v.1 v.2 _ e.does _ _ _ e.next c.push.new.self.items c.push.ensures.items

pub loop-range-preserved-in-Enter : goal.loop-range-preserved-in-Enter
loop-range-preserved-in-Enter g c =
    let v = c.loop-range.invariant in
    let e = c.in-Enter.ensures in (
      going_in _ _ _ _ v.0 c.if-range.true _ c.requires.body _ c.rows_of.ensures _ _ v.1 v.2 _ e.does _ _ _ e.next c.push.new.self.items c.push.ensures.items
          (g.met.O.Order.lawful c.args.order.now),
      e.same ∙ v.1,
      e.stays ∙ v.2,
      e.still,
      e.lent ∙ v.4,
    )

pub loop-range-smaller : goal.loop-range-smaller
loop-range-smaller g c = less_out _ _ _ _ c.loop-range.invariant.0 c.if-range.false c.pop.new.self.items c.in-Some.outer c.in-Some.ensures.items

pub loop-range-preserved : goal.loop-range-preserved
loop-range-preserved g c =
    let v = c.loop-range.invariant in
    (going_out _ _ _ _ v.0 c.if-range.false c.pop.new.self.items c.in-Some.outer c.in-Some.ensures.items, v.1, v.2, v.3, v.4)

pub returns-in-Hold-clause-does : goal.returns-in-Hold-clause-does
returns-in-Hold-clause-does g c =
    let v = c.loop-range.invariant in
    let e = c.in-Hold.ensures in
    held_here _ _ _ _ v.0 c.if-range.true _ c.requires.body _ c.rows_of.ensures _ _ v.1 v.2 _ e.does e.next

pub returns-in_default-clause-does : goal.returns-in_default-clause-does
returns-in_default-clause-does g c =
    ended _ _ _ _ c.loop-range.invariant.0 c.if-range.false (λ some. let absent = c.in_default.ensures.variant.1 some in cc)
