use Rattle.std.proofs.Common.{ℕ, ◌*◌, ◌≤◌, [], length, sym, ap, subst}
use Rattle.layer_candidates.specs.HeldRows.{held_row}
use Rattle.layer_candidates.specs.Ways.{rows_of}
use Rattle.layer_candidates.proofs.HeldRows.{exchange-then}
use Rattle.layer_nodes.specs.Expanding.{IsExpanded}
use Rattle.layer_nodes.specs.Routing.{routed_arcs}
use Rattle.layer_nodes.specs.Sifting.{expanded_by}
use Rattle.layer_nodes.specs.Stored.{Room, rows_in}
use Rattle.layer_nodes.proofs.Expanded.{whole, nodes-unmerged}
use Rattle.layer_nodes.proofs.KeyRows.{arranged-exchanged}
use Rattle.layer_nodes.proofs.SiftedLayers.{whole-sifted}
use Rattle.layer_candidates.proofs.WayTables.{room-kept, keeps-self}
use Rattle.layer_nodes.proofs.expanding.expand_nodes.Goals as goal

pub extend_layer-requires-clause-room : goal.extend_layer-requires-clause-room
extend_layer-requires-clause-room g c κs within =
    let dp = g.M.DpModel.meaning (g.M.DpModel.numbers c.args.model.now) in
    let e = c.expansion.inside in
    let count = length c.args.above.now * dp.choices c.args.descent.k in
    let most = subst (λ (m : ℕ). count ≤ m) (sym (ap (λ (r : Room). r.most) c.expansion.view_is)) c.requires.room in
    room-kept count e.room e.ways.found.table e.ways.found.table (keeps-self e.ways.found.table) most c.expansion.invariant.table_room

pub returns-in-AtMost-clause-expanded : goal.returns-in-AtMost-clause-expanded
returns-in-AtMost-clause-expanded g c =
    let dp = g.M.DpModel.meaning (g.M.DpModel.numbers c.args.model.now) in
    let a = c.args in
    let k = a.descent.k in
    let e = c.extend_layer in
    let f = c.arrange_unstruck in
    let t = c.in-AtMost.threshold in
    subst (λ s. IsExpanded (expanded_by s dp k) dp k (held_row a.region.now) a.above.now e.new.nodes (routed_arcs f.new.routes.items e.new.arcs.items) (held_row f.new.region) f.new.nodes.items) (sym c.in-AtMost.is)
    (whole-sifted dp k t c.requires.layer a.region.now a.above.now e.new.region f.new.region e.new.found.table.ways.items e.new.found.marks.items e.new.arcs.items f.new.routes.items e.new.nodes f.new.nodes.items
    e.ensures.distinct e.ensures.list e.ensures.tried e.ensures.nodes e.ensures.few e.ensures.arcs_few f.ensures.arranged f.ensures.left)

pub returns-in-AtMost-clause-unmerged : goal.returns-in-AtMost-clause-unmerged
returns-in-AtMost-clause-unmerged g c =
    let e = c.extend_layer in
    let f = c.arrange_unstruck in
    nodes-unmerged e.new.found.table.ways.items e.new.found.marks.items f.ensures.arranged.keys f.new.nodes.items f.ensures.arranged.nodes_are

pub returns-in-AtMost-clause-exchanged : goal.returns-in-AtMost-clause-exchanged
returns-in-AtMost-clause-exchanged g c =
    let e = c.extend_layer in
    let f = c.arrange_unstruck in
    exchange-then c.args.region.now e.new.region f.new.region [] (rows_of e.new.found.table.ways.items) (rows_in f.new.nodes.items) e.ensures.exchanged f.ensures.left.exchanged

pub returns-in-Nothing-clause-expanded : goal.returns-in-Nothing-clause-expanded
returns-in-Nothing-clause-expanded g c =
    let dp = g.M.DpModel.meaning (g.M.DpModel.numbers c.args.model.now) in
    let a = c.args in
    let k = a.descent.k in
    let e = c.extend_layer in
    let f = c.arrange in
    subst (λ s. IsExpanded (expanded_by s dp k) dp k (held_row a.region.now) a.above.now e.new.nodes (routed_arcs f.new.routes.items e.new.arcs.items) (held_row e.new.region) f.new.nodes.items) (sym c.in-Nothing.is)
    (whole dp k c.requires.layer a.region.now a.above.now e.new.region e.new.found.table.ways.items e.new.found.marks.items e.new.arcs.items f.new.routes.items e.new.nodes f.new.nodes.items
    e.ensures.distinct e.ensures.list e.ensures.tried e.ensures.nodes e.ensures.few e.ensures.arcs_few f.ensures.arranged)

pub returns-in-Nothing-clause-unmerged : goal.returns-in-Nothing-clause-unmerged
returns-in-Nothing-clause-unmerged g c =
    let e = c.extend_layer in
    let f = c.arrange in
    nodes-unmerged e.new.found.table.ways.items e.new.found.marks.items f.ensures.arranged.keys f.new.nodes.items f.ensures.arranged.nodes_are

pub returns-in-Nothing-clause-exchanged : goal.returns-in-Nothing-clause-exchanged
returns-in-Nothing-clause-exchanged g c =
    let e = c.extend_layer in
    arranged-exchanged c.args.region.now e.new.region [] e.new.found.table.ways.items _ _ c.arrange.new.nodes.items c.arrange.ensures.arranged e.ensures.exchanged
