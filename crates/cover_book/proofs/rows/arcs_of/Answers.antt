use Rattle.std.proofs.Common.{◌∙◌, arith}
use Rattle.dp_laws.specs.Diagrams.Nodes.{node_at}
use Rattle.cover_book.proofs.Nodes.{next-moved}
use Rattle.cover_book.proofs.rows.arcs_of.Goals as goal

pub arcs-preserved : goal.arcs-preserved
arcs-preserved g c = record {
  items = next-moved c.args.before (node_at (g.D.ShownDiagram.layers c.args.diagram.now) c.args.depth c.args.node) c.arcs.i c.arc-arc.result c.in_ok-moved.field-0 c.arcs.arcs.items c.push_reserved.new.self.items c.arc-arc.ensures c.in_ok-moved.ensures c.arcs.invariant.items c.push_reserved.ensures.items;
  room = c.push_reserved.ensures.capacity ∙ c.arcs.invariant.room;
  many = (let e = c.push_reserved.ensures.len in let m = c.arcs.invariant.many in omega arith);
}
