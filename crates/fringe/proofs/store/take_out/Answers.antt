use Rattle.std.proofs.Common.{◌∙◌, ap}
use Rattle.fringe.specs.declared.store.Store.{Store}
use Rattle.fringe.specs.Slots.{opened}
use Rattle.fringe.proofs.Openeds.{opened_taken}
use Rattle.fringe.proofs.store.take_out.Goals as goal

pub returns-clause-listed : goal.returns-clause-listed
returns-clause-listed c =
    let s = c.args.store.now in
    let out = c.clear_slot-one in
    ap (λ (t : Store). opened t.slots.items) c.trim_ranks.ensures.kept
    ∙ opened_taken s.slots.items out.new.store.slots.items c.args.slot out.result out.ensures.slots out.ensures.one c.requires.stored.held.apart
