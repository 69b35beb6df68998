use Rattle.std.proofs.Common.{◌≡◌, ◌+◌, ◌<◌, ℕ, List, length, slice_get, Some, refl, sym, ap, ◌∙◌, arith}
use Rattle.relaxed_dd.specs.Shown.{layers_of, layer_in}
use Rattle.std.proofs.lemmas.List.{length-map}
use Rattle.cover_pages.specs.Stored.{NodeBody, body_of}
use Rattle.cover_pages.proofs.Lists.{layer-here}
use Rattle.cover_pages.proofs.Made.{numbered-more, nodes-next}
use Rattle.cover_pages.proofs.making.make_layers.Goals as goal

pub layers-preserved : goal.layers-preserved
layers-preserved c =
    let d = layers_of c.args.diagram.now in
    let i = c.layers.i in
    let k = c.first_depth-first.result + i in
    let less : i < length d.layers = (let t = c.layers-test.true in let f = c.first_depth-first.ensures in let e = c.last_depth.ensures in let s = c.requires.some in omega arith) in
    let at : slice_get d.layers i ≡ Some (layer_in d k) = layer-here d i less ∙ ap (λ (n : ℕ). Some (layer_in d (n + i))) (sym c.first_depth-first.ensures) in
    record {
      items = numbered-more d.layers i c.layers.start (layer_in d k) c.in_ok-nodes.nodes.items _ c.layers.layers.items c.push_reserved.new.self.items at c.in_ok-nodes.ensures c.layers.invariant.start refl c.layers.invariant.items c.push_reserved.ensures.items;
      start = (let next = nodes-next d.layers i (layer_in d k) at in let s = c.layers.invariant.start in let n = ap (λ (l : List NodeBody). length l) c.in_ok-nodes.ensures in let m = length-map (layer_in d k) body_of in let e = c.in-Some.ensures in let v = c.len.ensures in let w = c.in_ok-nodes.nodes.ok.0 in omega arith);
      room = c.push_reserved.ensures.capacity ∙ c.layers.invariant.room;
      many = (let e = c.push_reserved.ensures.len in let m = c.layers.invariant.many in omega arith);
    }
