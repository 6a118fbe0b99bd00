use Rattle.std.proofs.Common.{◌≡◌, ◌-◌, length, take, sym, refl, ap, ◌∙◌, arith, rules}
use Rattle.rules.specs.Tables.{object_of}
use Rattle.rules.specs.Wrapper.{next_future}
use Rattle.host.specs.Hosts.{classes_in, program_in, state_in}
use Rattle.host.specs.Numbers.{byte_of}
use Rattle.host.proofs.Sent.{as_sent}
use Rattle.host.proofs.Verdicts.{judged-by, refused_post, granted_post}
use Rattle.host.proofs.host.Host.deliver.Goals as goal

pub returns-in_err-object : goal.returns-in_err-object
returns-in_err-object g c =
    let o = g.O.Order.levels c.args.order.now in
    let h = c.args.self.now in
    let m = as_sent byte_of c.args.method _ c.ranges.method c.byte-method.ensures in
    let j = judged-by o (classes_in h.program) (state_in h) c.args.level c.args.receiver c.args.method (length c.args.arguments.now) _
    c.classes_of.ensures.is c.classes_of.ensures.formed m c.in_err-object.ensures in
    let refused = refused_post o (program_in h) (state_in h) (state_in h) c.args.level c.args.receiver c.args.method c.args.arguments.now j.formed c.in_err-object.field-0.0 j.is in
    search rules

pub slice_bounds-send-end : goal.slice_bounds-send-end
slice_bounds-send-end g c =
    let o = g.O.Order.levels c.args.order.now in
    let h = c.args.self.now in
    let m = as_sent byte_of c.args.method _ c.ranges.method c.byte-method.ensures in
    let j = judged-by o (classes_in h.program) (state_in h) c.args.level c.args.receiver c.args.method (length c.args.arguments.now) _
    c.classes_of.ensures.is c.classes_of.ensures.formed m c.in_ok-object.ensures in
    let few = j.few (object_of c.in_ok-object.object) refl in search rules

pub returns : goal.returns
returns g c =
    let o = g.O.Order.levels c.args.order.now in
    let h = c.args.self.now in
    let m = as_sent byte_of c.args.method _ c.ranges.method c.byte-method.ensures in
    let j = judged-by o (classes_in h.program) (state_in h) c.args.level c.args.receiver c.args.method (length c.args.arguments.now) _
    c.classes_of.ensures.is c.classes_of.ensures.formed m c.in_ok-object.ensures in
    let few = j.few (object_of c.in_ok-object.object) refl in
    let none-less : length c.args.arguments.now - 0 ≡ length c.args.arguments.now = omega arith in
    let number : c.unwrap.result ≡ next_future (state_in h) c.args.level = (let a = c.send-owed.ensures.owed in let b = c.unwrap.ensures in cc) in
    record {
      served =
          granted_post o (program_in h) (state_in h) (state_in (record { program = h.program; tables = c.send-owed.new.tables })) c.args.level c.args.receiver c.args.method c.args.arguments.now j.formed
          (object_of c.in_ok-object.object) c.unwrap-method.result c.unwrap.result _ j.is (sym c.unwrap-method.ensures ∙ m) number
          (ap (λ n. take n c.args.values.now) none-less ∙ c.requires.values few) c.send-owed.ensures.state;
      program = refl;
    }
