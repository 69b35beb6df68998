use Rattle.std.proofs.Common.{◌≡◌, ◌+◌, ◌<◌, ℕ, length, take, slice_get, Some, sym, ap, ◌∙◌, arith}
use Rattle.relaxed_dd.specs.Shown.{layers_of, layer_in}
use Rattle.cover_pages.proofs.Lists.{layer-here}
use Rattle.cover_pages.proofs.Rows.{nodes-most, rows-long, put-layer}
use Rattle.cover_pages.proofs.writing.put_layers.Goals as goal

pub put_layer-requires-clause-spare : goal.put_layer-requires-clause-spare
put_layer-requires-clause-spare c =
    let d = layers_of c.args.diagram.now in
    let i = c.layers.i in
    let less : i < length d.layers = (let t = c.layers-test.true in let f = c.first_depth-first.ensures in let e = c.last_depth.ensures in let s = c.requires.keep.some in omega arith) in
    let at : slice_get d.layers i ≡ Some (layer_in d (c.first_depth-first.result + i)) = layer-here d i less ∙ ap (λ (n : ℕ). Some (layer_in d (n + i))) (sym c.first_depth-first.ensures) in
    let most = nodes-most d.layers i (layer_in d (c.first_depth-first.result + i)) at in
    let long = rows-long (take i d.layers) in
    let left = c.layers.invariant.put.spare in
    let room = c.requires.spare in
    omega arith

pub put_layer-requires-clause-room : goal.put_layer-requires-clause-room
put_layer-requires-clause-room c =
    let d = layers_of c.args.diagram.now in
    let i = c.layers.i in
    let less : i < length d.layers = (let t = c.layers-test.true in let f = c.first_depth-first.ensures in let e = c.last_depth.ensures in let s = c.requires.keep.some in omega arith) in
    let at : slice_get d.layers i ≡ Some (layer_in d (c.first_depth-first.result + i)) = layer-here d i less ∙ ap (λ (n : ℕ). Some (layer_in d (n + i))) (sym c.first_depth-first.ensures) in
    let most = nodes-most d.layers i (layer_in d (c.first_depth-first.result + i)) at in
    let long = rows-long (take i d.layers) in
    let many = c.layers.invariant.put.many in
    let same = c.layers.invariant.room in
    let room = c.requires.room in
    omega arith

pub layers-preserved : goal.layers-preserved
layers-preserved c =
    let d = layers_of c.args.diagram.now in
    let i = c.layers.i in
    let less : i < length d.layers = (let t = c.layers-test.true in let f = c.first_depth-first.ensures in let e = c.last_depth.ensures in let s = c.requires.keep.some in omega arith) in
    let at : slice_get d.layers i ≡ Some (layer_in d (c.first_depth-first.result + i)) = layer-here d i less ∙ ap (λ (n : ℕ). Some (layer_in d (n + i))) (sym c.first_depth-first.ensures) in
    record {
      put = put-layer d.layers i (layer_in d (c.first_depth-first.result + i)) c.args.region.now c.layers.region c.put_layer.new.region c.args.ids.now.items c.layers.ids.items c.put_layer.new.ids.items at c.layers.invariant.put c.put_layer.ensures.put;
      room = c.put_layer.ensures.room ∙ c.layers.invariant.room;
    }
