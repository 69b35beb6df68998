use Rattle.std.proofs.Common.{length, ◌<◌, arith}
use Rattle.bound_cover.specs.Exploring.{row_for}
use Rattle.relaxed_dd.specs.Shown.{layer_in}
use Rattle.cover_book.proofs.Layers.{node-more}
use Rattle.cover_book.proofs.adding.add_nodes.Goals as goal

pub nodes-preserved : goal.nodes-preserved
nodes-preserved g c =
    let d = (g.D.ShownDiagram.layers c.args.diagram.now) in
    let less : c.nodes.node < length (layer_in d c.args.depth) = (let t = c.nodes-test.true in let e = c.nodes-nodes.ensures in omega arith) in
    node-more (row_for (g.M.DpModel.meaning (g.M.DpModel.numbers c.args.model.now)) c.args.claim d.first_reduced c.args.depth c.args.before) d c.args.depth c.nodes.node c.args.layer.now c.nodes.layer c.push.new.self c.in_ok-row.row less c.nodes.invariant c.in_ok-row.ensures c.in_ok-push.ensures
