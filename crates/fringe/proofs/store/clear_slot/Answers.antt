use Rattle.std.proofs.Common.{◌∙◌, ap}
use Rattle.row_region.specs.Region.{RegionView}
use Rattle.fringe.proofs.Keys.{some_of, live_of, keyed_less}
use Rattle.fringe.proofs.store.clear_slot.Goals as goal

pub give-requires : goal.give-requires
give-requires c =
    let o = some_of _ c.requires.there in
    live_of c.args.store.now.slots.items c.args.store.now.keys c.args.slot o.0 c.requires.keyed o.1

pub returns-clause-keyed : goal.returns-clause-keyed
returns-clause-keyed c =
    let s = c.args.store.now in
    ap (λ (v : RegionView). v.rows) c.give.ensures ∙ keyed_less s.slots.items s.keys.rows c.args.slot c.take.new.self c.requires.keyed c.take.ensures.after
