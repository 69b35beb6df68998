use Rattle.std.proofs.Common.{◌+◌}
use Rattle.dp_model.specs.Laws.{IsLawful}
use Rattle.layer_nodes.proofs.Reordering.{whole-within, exchanged-within, within-wide, within-inexact, sifted-unmerged}
use Rattle.layer_nodes.proofs.expanding.expand_nodes_within.Given as given
use Rattle.layer_nodes.proofs.expanding.expand_nodes_within.Goals as goal

laws_of : (g : given.Over) (m : g.row.M.Denot) → IsLawful (g.M.DpModel.meaning (g.M.DpModel.numbers m))
laws_of g m = (g.met.M.DpModel g.world.𝓛 g.world.𝓜 g.world.𝓡 ((λ s x. x), (λ x. x), (λ x. x), λ x. x)).lawful m

pub returns-clause-expanded : goal.returns-clause-expanded
returns-clause-expanded g c =
    let dp = g.M.DpModel.meaning (g.M.DpModel.numbers c.args.model.now) in
    let a = c.args in
    let e = c.extend_layer in
    let f = c.arrange_within in
    whole-within dp (laws_of g a.model.now) a.k a.threshold c.requires.layer a.region.now a.above.now e.new.region f.new.region e.new.found.table.ways.items e.new.found.marks.items e.new.arcs.items f.new.routes.items e.new.nodes f.new.nodes.items
    e.ensures.distinct e.ensures.list e.ensures.tried e.ensures.nodes e.ensures.few e.ensures.arcs_few a.width e.ensures.exchanged.live f.result c.requires.positive f.ensures.arranged f.ensures.left f.ensures.reduced

pub returns-clause-wide : goal.returns-clause-wide
returns-clause-wide g c = λ merged.
    let dp = g.M.DpModel.meaning (g.M.DpModel.numbers c.args.model.now) in
    let a = c.args in
    let e = c.extend_layer in
    let f = c.arrange_within in
    within-wide dp (laws_of g a.model.now) a.k a.threshold c.requires.layer a.region.now a.above.now e.new.region f.new.region e.new.found.table.ways.items e.new.found.marks.items e.new.arcs.items f.new.routes.items e.new.nodes f.new.nodes.items
    e.ensures.distinct e.ensures.list e.ensures.tried e.ensures.nodes e.ensures.few e.ensures.arcs_few a.width e.ensures.exchanged.live (f.ensures.reduced merged)

pub returns-clause-inexact : goal.returns-clause-inexact
returns-clause-inexact g c = λ merged.
    let dp = g.M.DpModel.meaning (g.M.DpModel.numbers c.args.model.now) in
    let a = c.args in
    let e = c.extend_layer in
    let f = c.arrange_within in
    within-inexact dp (laws_of g a.model.now) a.k a.threshold c.requires.layer a.region.now a.above.now e.new.region f.new.region e.new.found.table.ways.items e.new.found.marks.items e.new.arcs.items f.new.routes.items e.new.nodes f.new.nodes.items
    e.ensures.distinct e.ensures.list e.ensures.tried e.ensures.nodes e.ensures.few e.ensures.arcs_few a.width e.ensures.exchanged.live (f.ensures.reduced merged)

pub returns-clause-unmerged : goal.returns-clause-unmerged
returns-clause-unmerged g c = λ alone.
    let dp = g.M.DpModel.meaning (g.M.DpModel.numbers c.args.model.now) in
    let a = c.args in
    let e = c.extend_layer in
    let f = c.arrange_within in
    sifted-unmerged dp (a.k + 1) a.threshold e.new.region e.new.found.table.ways.items e.new.found.marks.items f.new.routes.items f.new.nodes.items (f.ensures.arranged alone)

pub returns-clause-exchanged : goal.returns-clause-exchanged
returns-clause-exchanged g c =
    let dp = g.M.DpModel.meaning (g.M.DpModel.numbers c.args.model.now) in
    let a = c.args in
    let e = c.extend_layer in
    let f = c.arrange_within in
    exchanged-within dp (laws_of g a.model.now) a.k a.threshold c.requires.layer a.region.now a.above.now e.new.region f.new.region e.new.found.table.ways.items e.new.found.marks.items e.new.arcs.items f.new.routes.items e.new.nodes f.new.nodes.items
    e.ensures.distinct e.ensures.list e.ensures.tried e.ensures.nodes e.ensures.few e.ensures.arcs_few a.width e.ensures.exchanged.live f.result e.ensures.exchanged f.ensures.left f.ensures.reduced
