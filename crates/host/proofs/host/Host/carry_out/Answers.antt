use Rattle.std.proofs.Common.{◌≡◌, ◌≤◌, List, length, sym, refl, ap, ◌∙◌, subst}
use Rattle.script.specs.declared.class.Statement.{Statement}
use Rattle.script.specs.Bodies.{nested}
use Rattle.script.specs.Classes.{classes_of}
use Rattle.script.specs.Layout.{every, in_range}
use Rattle.rules.specs.Tables.{object_of, call_of}
use Rattle.rules.specs.Turns.{before_last}
use Rattle.rules.proofs.Formed.{body_ranges, body_short, body_nests}
use Rattle.host.specs.Hosts.{classes_in, state_in}
use Rattle.host.proofs.Turns.{body_in, turned-is, stops_short}
use Rattle.host.proofs.host.Host.carry_out.Goals as goal

pub invariant_of-frame : goal.invariant_of-frame
invariant_of-frame g c =
    let cs = c.classes_of-classes.result.now in
    let ok = c.classes_of-classes.ensures.formed in
    let class = c.args.taken.now.object.class in
    let method = c.args.taken.now.call.method in
    let body : c.before_last.result.now ≡ body_in cs class method = c.before_last.ensures ∙ ap before_last c.statements_of.ensures in
    let fields = c.fields_of.ensures in
    record {
      declared = fields;
      ranges = (λ i. every (in_range 8 (length (fields i))) (body i)) ∙ body_ranges 8 (classes_of cs) ok class method;
      short = subst (λ (b : List Statement). length b ≤ 32) (sym body) (body_short 8 (classes_of cs) ok class method);
    }

pub take_turn-outcome-requires-clause-nested : goal.take_turn-outcome-requires-clause-nested
take_turn-outcome-requires-clause-nested g c =
    let cs = c.classes_of-classes.result.now in
    let body : c.before_last.result.now ≡ body_in cs c.args.taken.now.object.class c.args.taken.now.call.method = c.before_last.ensures ∙ ap before_last c.statements_of.ensures in
    ap (λ b. nested (length b) b 4 0 (length b)) body
    ∙ body_nests 8 (classes_of cs) c.classes_of-classes.ensures.formed c.args.taken.now.object.class c.args.taken.now.call.method

pub returns : goal.returns
returns g c =
    let o = g.O.Order.levels c.args.order.now in
    let h = c.args.self.now in
    let cs = c.classes_of-classes.result.now in
    let ok = c.classes_of-classes.ensures.formed in
    let class = c.args.taken.now.object.class in
    let method = c.args.taken.now.call.method in
    let body : c.before_last.result.now ≡ body_in cs class method = c.before_last.ensures ∙ ap before_last c.statements_of.ensures in
    let short : length c.before_last.result.now ≤ 32 = subst (λ (b : List Statement). length b ≤ 32) (sym body) (body_short 8 (classes_of cs) ok class method) in
    record {
      does =
          (rw c.from.ensures at c.take_turn-outcome.ensures.does)
          ∙ turned-is o cs (classes_in h.program) (state_in h) c.args.taken.now.level c.args.taken.now.name (object_of c.args.taken.now.object) (call_of c.args.taken.now.call) c.before_last.result.now
          c.classes_of-classes.ensures.is body;
      place = stops_short (length c.before_last.result.now) c.take_turn-outcome.result short c.take_turn-outcome.ensures.place;
      program = refl;
    }
