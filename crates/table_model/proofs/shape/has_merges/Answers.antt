use Rattle.std.proofs.Common.{rules, ◌≡◌, ℕ, ℤ, pos, List, Vec, Global, map, to_z, of_z, w64, ap, ap₂, ◌∙◌}
use Rattle.table_model.specs.Shape.{is_state_between, is_grid, has_merges}
use Rattle.table_model.specs.Table.{LayerTable}
use Rattle.table_model.proofs.shape.has_merges.Goals as goal

pub returns : goal.returns
returns c =
    let l = c.layer.inside in
    let last = c.last_of-last.result in
    let back : to_z w64 (of_z w64 last) ≡ last = search rules in
    c.is_grid.ensures
    ∙ ap₂ (λ (z : ℤ) (rows : List (Vec ℕ Global)). is_grid (is_state_between (pos 0) z) l.states l.states (map (λ r. r.items) rows)) (back ∙ c.last_of-last.ensures) c.as_slice.ensures.value
    ∙ ap (λ (t : LayerTable). has_merges t) c.layer.view_is
