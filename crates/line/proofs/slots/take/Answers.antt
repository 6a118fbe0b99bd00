use Rattle.std.proofs.Common.{◌<◌, length, is_some, ap, ◌∙◌, arith, rules}
use Rattle.line.proofs.Lines.{count_within, moved_up, slot_some, slot_holds, take-elements, take-compact}
use Rattle.line.proofs.slots.take.Goals as goal

pub slice_bounds-rotate_left-count : goal.slice_bounds-rotate_left-count
slice_bounds-rotate_left-count g c = search (rules, count_within)

pub slice_bounds-rotate_left-start : goal.slice_bounds-rotate_left-start
slice_bounds-rotate_left-start g c = search (rules, count_within)

pub rotate_left-requires : goal.rotate_left-requires
rotate_left-requires g c = search (rules, count_within)

pub unwrap-requires : goal.unwrap-requires
unwrap-requires g c = ap is_some c.take-taken.ensures.value ∙ slot_some c.args.slots.now _ _ c.requires.within

pub returns : goal.returns
returns g c =
    let slots = c.args.slots.now in
    let i = c.args.place in
    let h : i < length slots = omega (arith, count_within slots) in
    let up = moved_up slots i c.take-taken.new.self h c.rotate_left.new.self c.rotate_left.ensures.after in
    let held = slot_holds slots i c.index-slots-place.result c.unwrap.result c.requires.within in
    record {
      taken = cc;
      elements = rw (up, c.take-taken.ensures.after) (take-elements slots i c.requires.within);
      compact = rw (up, c.take-taken.ensures.after) (take-compact slots i c.requires.within c.requires.compact);
    }
