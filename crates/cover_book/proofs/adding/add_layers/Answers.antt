use Rattle.std.proofs.Common.{◌≡◌, List, length, ◌+◌, ◌<◌, ◌++◌, map, sym, refl, ◌∙◌, ap, arith}
use Rattle.bound_cover.specs.Covers.{CoverRow}
use Rattle.bound_cover.specs.Exploring.{layer_of, row_for}
use Rattle.relaxed_dd.specs.Shown.{layer_in}
use Rattle.cover_book.proofs.Layers.{layer-get}
use Rattle.cover_book.proofs.Putting.{adds-more}
use Rattle.cover_book.proofs.adding.add_layers.Goals as goal

pub layers-preserved : goal.layers-preserved
layers-preserved g c =
    let dp = (g.M.DpModel.meaning (g.M.DpModel.numbers c.args.model.now)) in
    let d = (g.D.ShownDiagram.layers c.args.diagram.now) in
    let k = c.layers.depth in
    let deep : d.first < k = (let i = c.layers.invariant.deep in let e = c.first_depth-first.ensures in omega arith) in
    let low : k < length c.args.rows.now.items = (let t = c.layers-test.true in let l = c.requires.long in omega arith) in
    let long = c.layers.invariant.added.long in
    let inside : k < length c.layers.rows.items = omega arith in
    let at : c.index_mut.result.now ≡ layer_of c.layers.rows.items k = c.index_mut.ensures.value ∙ sym (layer-get c.layers.rows.items k c.index_mut.result.now inside) in
    record {
      added = adds-more dp c.args.claim d k c.in_ok-before.before c.args.rows.now.items c.layers.rows.items _ c.add_nodes.new.layer deep low c.layers.invariant.added
          (c.in_ok-before.ensures ∙ ap (λ (l : List (List CoverRow)). length (layer_of l (k + 1))) c.as_slice.ensures.value)
          (c.in_ok-add_nodes.ensures ∙ ap (λ l. l ++ map (row_for dp c.args.claim d.first_reduced k c.in_ok-before.before) (layer_in d k)) at)
          refl;
      deep = (let i = c.layers.invariant.deep in omega arith);
    }
