use Rattle.std.proofs.Common.{◌∙◌, arith}
use Rattle.search_workers.proofs.Collected.{places-more}
use Rattle.search_workers.proofs.collecting.places_of.Goals as goal

pub children-preserved : goal.children-preserved
children-preserved c = record {
  items = places-more c.args.cutset.now.places c.children.child _ c.children.places.items c.push_reserved.new.self.items c.node-depth.ensures c.children.invariant.items c.push_reserved.ensures.items;
  room = c.push_reserved.ensures.capacity ∙ c.children.invariant.room;
  many = (let e = c.push_reserved.ensures.len in let m = c.children.invariant.many in omega arith);
}
