use Rattle.std.proofs.Common.{Some, None, sym, subst}
use Rattle.relaxed_dd.specs.Shown.{layers_of, layer_in}
use Rattle.cover_pages.specs.Sizes.{Leaves, node_words, layer_words}
use Rattle.cover_pages.proofs.Sized.{leaves-of, leaves-more, leaves-none}
use Rattle.cover_pages.proofs.sizing.layer_leaves.Goals as goal

pub returns-in_err-rest : goal.returns-in_err-rest
returns-in_err-rest c =
    let a = c.args in
    let d = layers_of a.diagram.now in
    let layer = layer_in d a.depth in
    let x = leaves-of a.words c.nodes.rest d a.depth c.nodes.node None c.in_err-rest.ensures in
    subst (Leaves a.left (layer_words a.words layer)) (sym c.from_residual.ensures) (leaves-none (node_words a.words) layer c.nodes.node x.0 a.left c.nodes.rest x.1 x.2 c.nodes.invariant)

pub nodes-preserved : goal.nodes-preserved
nodes-preserved c =
    let a = c.args in
    let d = layers_of a.diagram.now in
    let x = leaves-of a.words c.nodes.rest d a.depth c.nodes.node (Some c.in_ok-rest.rest) c.in_ok-rest.ensures in
    leaves-more (node_words a.words) (layer_in d a.depth) c.nodes.node x.0 a.left c.nodes.rest c.in_ok-rest.rest x.1 x.2 c.nodes.invariant
