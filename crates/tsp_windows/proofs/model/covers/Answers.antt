use Rattle.std.proofs.Common.{sym}
use Rattle.node_sets.specs.Sets.{words_for}
use Rattle.tsp_windows.specs.States.{shown}
use Rattle.tsp_windows.proofs.StateLemmas.{pending_no, positions_cover}
use Rattle.tsp_windows.proofs.model.covers.Goals as goal

pub returns-then-not-pending : goal.returns-then-not-pending
returns-then-not-pending c =
    sym (pending_no c.args.nodes (shown (words_for c.args.nodes) c.args.a.now) (shown (words_for c.args.nodes) c.args.s.now) _ _ c.covers-pending.ensures c.pending_of.ensures.shown c.pending_of-2.ensures.shown c.if-not-pending.true)

pub returns : goal.returns
returns c =
    positions_cover c.args.nodes (words_for c.args.nodes) c.args.a.now c.args.s.now _ _ _ _ c.positions_of-part.ensures.row c.positions_of-wide.ensures.row c.positions_of-part.ensures.set
    c.covers-pending.ensures c.pending_of.ensures.shown c.pending_of-2.ensures.shown c.if-not-pending.false c.is_subset.ensures.0 c.is_subset.ensures.1
