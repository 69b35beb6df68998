use Rattle.std.proofs.Common.{◌<◌, length, Bool, true, false, Some, sym, ap, ◌∙◌, arith}
use Rattle.layer_nodes.specs.Nodes.{NodeView}
use Rattle.layer_build.proofs.Walked.{read-is, none-more, exact-at, none-exact}
use Rattle.layer_build.proofs.walking.exact_place.Goals as goal

pub returns-then-exact : goal.returns-then-exact
returns-then-exact c =
    let nodes = c.args.layer.now.nodes in
    let more = c.nodes-test.true in
    let count = c.len-i-end.ensures.count in
    let less : c.nodes.i < length nodes = omega arith in
    sym (exact-at nodes c.nodes.i c.nodes.invariant less (read-is (λ (n : NodeView). n.exact) nodes c.nodes.i true less (c.exact.ensures ∙ ap (λ (b : Bool). Some b) c.if-exact.true)))

pub nodes-preserved : goal.nodes-preserved
nodes-preserved c =
    let nodes = c.args.layer.now.nodes in
    let more = c.nodes-test.true in
    let count = c.len-i-end.ensures.count in
    let less : c.nodes.i < length nodes = omega arith in
    none-more nodes c.nodes.i c.nodes.invariant (read-is (λ (n : NodeView). n.exact) nodes c.nodes.i false less (c.exact.ensures ∙ ap (λ (b : Bool). Some b) c.if-exact.false))

pub returns : goal.returns
returns c =
    let nodes = c.args.layer.now.nodes in
    let end = c.nodes-test.false in
    let count = c.len-i-end.ensures.count in
    sym (none-exact nodes (λ k less. c.nodes.invariant k (omega arith)))
