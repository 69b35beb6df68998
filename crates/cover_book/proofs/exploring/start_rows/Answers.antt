use Rattle.std.proofs.Common.{◌∙◌, arith}
use Rattle.cover_book.proofs.Layers.{start-more, start-all}
use Rattle.cover_book.proofs.exploring.start_rows.Goals as goal

pub push_reserved-requires-in-layers : goal.push_reserved-requires-in-layers
push_reserved-requires-in-layers g c = let m = c.layers.invariant.many in let r = c.layers.invariant.room in let t = c.layers-test.true in omega arith

pub layers-preserved : goal.layers-preserved
layers-preserved g c = record {
  items = start-more _ c.layers.counter c.layers.rows.items c.push_reserved-in-layers.new.self.items c.new.result c.new.ensures c.layers.invariant.items c.push_reserved-in-layers.ensures.items;
  room = c.push_reserved-in-layers.ensures.capacity ∙ c.layers.invariant.room;
  many = (let e = c.push_reserved-in-layers.ensures.len in let m = c.layers.invariant.many in omega arith);
}

pub returns : goal.returns
returns g c = start-all _ c.layers.counter _ c.layers.rows.items (let t = c.layers-test.false in let e = c.vars-vars.ensures in let f = c.layers.auto.counter-end in omega arith) c.layers.invariant.items
