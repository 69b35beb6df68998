use Rattle.std.proofs.Common.{◌∙◌, sym, ap}
use Rattle.fringe.proofs.Greatest.{raised_slots, dropped_all, greatest_opened}
use Rattle.fringe.proofs.bounding.best_of.Goals as goal

pub returns : goal.returns
returns c =
    let slots = c.args.slots.now in
    ap (raised_slots c.loop-one.most) (sym (dropped_all slots c.loop-one.one-index c.loop-one-test.false)) ∙ (c.loop-one.invariant ∙ greatest_opened slots)
