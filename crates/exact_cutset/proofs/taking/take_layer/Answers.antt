use Rattle.std.proofs.Common.{◌<◌, length, arith}
use Rattle.layer_build.specs.Layers.{diagram_of}
use Rattle.relaxed_dd.specs.Shown.{layer_in}
use Rattle.exact_cutset.proofs.Taken.{takes-further}
use Rattle.exact_cutset.proofs.taking.take_layer.Goals as goal

pub nodes-preserved : goal.nodes-preserved
nodes-preserved g c =
    let dp = g.M.DpModel.meaning (g.M.DpModel.numbers c.args.model.now) in
    let d = diagram_of c.args.space.now in
    let less : c.nodes.node < length (layer_in d c.args.depth) = (let t = c.nodes-test.true in let e = c.nodes-nodes.ensures in omega arith) in
    takes-further dp d c.args.depth c.nodes.node c.args.out.now c.nodes.out c.offer.new.out less c.nodes.invariant c.offer.ensures.kept
