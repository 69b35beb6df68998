use Rattle.std.proofs.Common.{◌<◌, true, false, length, ap, arith}
use Rattle.layer_build.specs.Layers.{diagram_of}
use Rattle.relaxed_dd.specs.Shown.{last_of, layer_in}
use Rattle.exact_cutset.proofs.Searched.{is-first, first-further}
use Rattle.exact_cutset.proofs.Taken.{exact-here}
use Rattle.exact_cutset.proofs.finding.first_exact.Goals as goal

pub returns-then-exact : goal.returns-then-exact
returns-then-exact c =
    let d = diagram_of c.args.space.now in
    let less : c.nodes.node < length (layer_in d (last_of d)) = (let t = c.nodes-test.true in let e = c.nodes-nodes.ensures in let f = c.last_depth-last.ensures in let g = ap (λ k. length (layer_in d k)) f in omega arith) in
    is-first (layer_in d (last_of d)) c.nodes.node less (exact-here d c.last_depth-last.result c.nodes.node c.exact.result true c.last_depth-last.ensures c.exact.ensures c.if-exact.true) c.nodes.invariant

pub nodes-preserved : goal.nodes-preserved
nodes-preserved c =
    let d = diagram_of c.args.space.now in
    let less : c.nodes.node < length (layer_in d (last_of d)) = (let t = c.nodes-test.true in let e = c.nodes-nodes.ensures in let f = c.last_depth-last.ensures in let g = ap (λ k. length (layer_in d k)) f in omega arith) in
    first-further (layer_in d (last_of d)) c.nodes.node less (exact-here d c.last_depth-last.result c.nodes.node c.exact.result false c.last_depth-last.ensures c.exact.ensures c.if-exact.false) c.nodes.invariant
