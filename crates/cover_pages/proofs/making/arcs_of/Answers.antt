use Rattle.std.proofs.Common.{◌∙◌, arith}
use Rattle.dp_laws.specs.Diagrams.Nodes.{node_at}
use Rattle.relaxed_dd.specs.Shown.{layers_of}
use Rattle.cover_pages.proofs.Made.{arcs-more}
use Rattle.cover_pages.proofs.making.arcs_of.Goals as goal

pub arcs-preserved : goal.arcs-preserved
arcs-preserved c = record {
  items = arcs-more (node_at (layers_of c.args.diagram.now) c.args.depth c.args.node) c.arcs.i c.arc-arc.result c.bare.result c.arcs.arcs.items c.push_reserved.new.self.items c.arc-arc.ensures c.bare.ensures c.arcs.invariant.items c.push_reserved.ensures.items;
  room = c.push_reserved.ensures.capacity ∙ c.arcs.invariant.room;
  many = (let e = c.push_reserved.ensures.len in let m = c.arcs.invariant.many in omega arith);
}
