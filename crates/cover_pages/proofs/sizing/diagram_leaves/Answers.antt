use Rattle.std.proofs.Common.{◌≡◌, ◌+◌, ◌<◌, ℕ, length, slice_get, Some, sym, ap, subst, ◌∙◌, arith}
use Rattle.relaxed_dd.specs.Shown.{layers_of, layer_in}
use Rattle.cover_pages.specs.Sizes.{Leaves, layer_words, words_of}
use Rattle.cover_pages.proofs.Lists.{layer-here}
use Rattle.cover_pages.proofs.Sized.{leaves-more, leaves-none}
use Rattle.cover_pages.proofs.sizing.diagram_leaves.Goals as goal

pub returns-in_err-rest : goal.returns-in_err-rest
returns-in_err-rest c =
    let a = c.args in
    let d = layers_of a.diagram.now in
    let i = c.layers.i in
    let less : i < length d.layers = (let t = c.layers-test.true in let f = c.first_depth-first.ensures in let e = c.last_depth.ensures in let s = c.requires.some in omega arith) in
    let at : slice_get d.layers i ≡ Some (layer_in d (c.first_depth-first.result + i)) = layer-here d i less ∙ ap (λ (n : ℕ). Some (layer_in d (n + i))) (sym c.first_depth-first.ensures) in
    subst (Leaves a.left (words_of a.words d.layers)) (sym c.from_residual.ensures) (leaves-none (layer_words a.words) d.layers i (layer_in d (c.first_depth-first.result + i)) a.left c.layers.rest at c.in_err-rest.ensures c.layers.invariant)

pub layers-preserved : goal.layers-preserved
layers-preserved c =
    let a = c.args in
    let d = layers_of a.diagram.now in
    let i = c.layers.i in
    let less : i < length d.layers = (let t = c.layers-test.true in let f = c.first_depth-first.ensures in let e = c.last_depth.ensures in let s = c.requires.some in omega arith) in
    let at : slice_get d.layers i ≡ Some (layer_in d (c.first_depth-first.result + i)) = layer-here d i less ∙ ap (λ (n : ℕ). Some (layer_in d (n + i))) (sym c.first_depth-first.ensures) in
    leaves-more (layer_words a.words) d.layers i (layer_in d (c.first_depth-first.result + i)) a.left c.layers.rest c.in_ok-rest.rest at c.in_ok-rest.ensures c.layers.invariant
