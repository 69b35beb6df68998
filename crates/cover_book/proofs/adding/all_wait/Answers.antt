use Rattle.std.proofs.Common.{Some, ◌∙◌, ap, arith}
use Rattle.cover_book.proofs.Layers.{one-does-not, waits-so-far, all-do}
use Rattle.cover_book.proofs.adding.all_wait.Goals as goal

pub returns-then-not-leads_at : goal.returns-then-not-leads_at
returns-then-not-leads_at g c =
    one-does-not c.args.claim (g.D.ShownDiagram.layers c.args.diagram.now) c.args.depth c.nodes.node (let t = c.nodes-test.true in let e = c.nodes-node-end.ensures in omega arith) (c.leads_at.ensures ∙ ap Some c.if-not-leads_at.true) c.nodes.invariant

pub nodes-preserved : goal.nodes-preserved
nodes-preserved g c =
    waits-so-far c.args.claim (g.D.ShownDiagram.layers c.args.diagram.now) c.args.depth c.nodes.node (let t = c.nodes-test.true in let e = c.nodes-node-end.ensures in omega arith) (c.leads_at.ensures ∙ ap Some c.if-not-leads_at.false) c.nodes.invariant

pub returns : goal.returns
returns g c =
    all-do c.args.claim (g.D.ShownDiagram.layers c.args.diagram.now) c.args.depth c.nodes.node (let t = c.nodes-test.false in let e = c.nodes-node-end.ensures in let f = c.nodes.auto.node-end in omega arith) c.nodes.invariant
