use Rattle.std.proofs.Common.{vec_items, rules}
use Rattle.script.specs.Classes.{classes_of}
use Rattle.script.proofs.Exactly.{only, reads_exactly, one_text}
use Rattle.script.proofs.Depth.{nests_four_deep}
use Rattle.script.proofs.Wider.{formed_more}
use Rattle.script.proofs.loading.load.Goals as goal

pub returns-in_err-classes : goal.returns-in_err-classes
returns-in_err-classes g c =
    let l = g.met.O.Order.lawful c.args.order.now in
    record { reads = search rules; exactly = reads_exactly _ l.few; once = one_text _; depth = nests_four_deep _ }

pub invariant_of-result : goal.invariant_of-result
invariant_of-result g c =
    let o = g.O.Order.levels c.args.order.now in
    let l = g.met.O.Order.lawful c.args.order.now in
    let classes = classes_of (vec_items c.in_ok-classes.classes) in
    record { formed = formed_more o.count 8 l.few classes (only o.count c.args.text.now classes c.in_ok-classes.ensures).1 }

pub returns : goal.returns
returns g c =
    let l = g.met.O.Order.lawful c.args.order.now in
    record { reads = search rules; exactly = reads_exactly _ l.few; once = one_text _; depth = nests_four_deep _ }
