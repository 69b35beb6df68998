use Rattle.std.proofs.Common.{List, length, ◌+◌, ◌∙◌, ap, arith}
use Rattle.bound_cover.specs.Covers.{CoverRow}
use Rattle.bound_cover.specs.Exploring.{layer_of}
use Rattle.cover_book.proofs.Putting.{root-put}
use Rattle.cover_book.proofs.adding.set_root_arcs.Goals as goal

pub returns : goal.returns
returns g c =
    root-put (g.D.ShownDiagram.layers c.args.diagram.now) c.args.place c.first_depth-first.result c.in_ok-before.before c.args.rows.now.items c.in_ok-arcs.arcs.items c.set_arcs.new.self c.index_mut.result.now c.first_depth-first.ensures (let l = c.requires.layer in omega arith)
    (c.in_ok-before.ensures ∙ ap (λ (l : List (List CoverRow)). length (layer_of l (c.first_depth-first.result + 1))) c.as_slice.ensures.value) c.in_ok-arcs.ensures c.index_mut.ensures.value c.set_arcs.ensures
