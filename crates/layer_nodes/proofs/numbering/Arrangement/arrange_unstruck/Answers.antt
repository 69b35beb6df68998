use Rattle.std.proofs.Common.{sym, ap, subst}
use Rattle.layer_candidates.specs.HeldRows.{held_row}
use Rattle.layer_nodes.specs.declared.extending.MarkedWays.{MarkedWays}
use Rattle.layer_nodes.specs.Expanding.{HaveParents}
use Rattle.layer_nodes.proofs.SiftedLayers.{ordered-by, ordered-sifted, ordered-left}
use Rattle.layer_nodes.proofs.numbering.Arrangement.arrange_unstruck.Goals as goal

pub order-requires-clause-parents : goal.order-requires-clause-parents
order-requires-clause-parents g c κs within = subst HaveParents (sym (ap (λ (f : MarkedWays). f.table.ways.items) c.list.ensures.found)) c.requires.parents

pub returns-clause-arranged : goal.returns-clause-arranged
returns-clause-arranged g c =
    let dp = g.M.DpModel.meaning (g.M.DpModel.numbers c.args.model.now) in
    let a = c.args in
    let found = a.self.now.found in
    let listed = c.list.new.self.keys.items in
    let ordered = ordered-by (held_row c.list.new.region) listed c.list.new.self.found.table.ways.items found.table.ways.items c.list.new.self.found.marks.items found.marks.items c.order.new.routes.items c.order.new.nodes.items
    c.order.ensures.ordered (ap (λ (f : MarkedWays). f.table.ways.items) c.list.ensures.found) (ap (λ (f : MarkedWays). f.marks.items) c.list.ensures.found) in
    ordered-sifted dp a.k a.threshold a.region.now c.list.new.region found.table.ways.items found.marks.items c.order.new.routes.items c.order.new.nodes.items listed c.requires.held c.list.ensures.keys c.list.ensures.left ordered

pub returns-clause-left : goal.returns-clause-left
returns-clause-left g c =
    let dp = g.M.DpModel.meaning (g.M.DpModel.numbers c.args.model.now) in
    let a = c.args in
    let found = a.self.now.found in
    let listed = c.list.new.self.keys.items in
    let ordered = ordered-by (held_row c.list.new.region) listed c.list.new.self.found.table.ways.items found.table.ways.items c.list.new.self.found.marks.items found.marks.items c.order.new.routes.items c.order.new.nodes.items
    c.order.ensures.ordered (ap (λ (f : MarkedWays). f.table.ways.items) c.list.ensures.found) (ap (λ (f : MarkedWays). f.marks.items) c.list.ensures.found) in
    ordered-left dp a.k a.threshold a.region.now c.list.new.region found.table.ways.items found.marks.items c.order.new.routes.items c.order.new.nodes.items listed c.requires.held c.list.ensures.keys c.list.ensures.left ordered
