use Rattle.std.proofs.Common.{◌∙◌, arith}
use Rattle.relaxed_dd.specs.Shown.{layers_of}
use Rattle.cover_pages.specs.Stored.{body_of}
use Rattle.cover_pages.proofs.Lists.{node-more}
use Rattle.cover_pages.proofs.making.make_nodes.Goals as goal

pub nodes-preserved : goal.nodes-preserved
nodes-preserved c = record {
  items = node-more body_of (layers_of c.args.diagram.now) c.args.depth c.nodes.node c.in_ok-make_node.field-0 c.nodes.nodes.items c.push_reserved.new.self.items c.in_ok-make_node.ensures c.nodes.invariant.items c.push_reserved.ensures.items;
  room = c.push_reserved.ensures.capacity ∙ c.nodes.invariant.room;
  many = (let e = c.push_reserved.ensures.len in let m = c.nodes.invariant.many in omega arith);
}
