use Rattle.std.proofs.Common.{◌≡◌, ℕ, suc, ◌+◌, ◌-◌, ◌++◌, [], ◌∷◌, ℤ, List, length, take, slice_get, Some, sym, ◌∙◌, ap, arith}
use Rattle.std.specs.Prelude.{option_map}
use Rattle.dp_laws.specs.Diagrams.Nodes.{DdNode}
use Rattle.layer_build.specs.Layers.{last_depth, layer_at}
use Rattle.relaxed_dd.specs.Cut.{CutView}
use Rattle.relaxed_dd.specs.Lean.{rows_above}
use Rattle.relaxed_dd.proofs.LeanRows.{node-in, rows-next}
use Rattle.relaxed_dd.proofs.lean.copy_above.Goals as goal

pub nodes-preserved : goal.nodes-preserved
nodes-preserved c =
    let s = c.args.space.now in
    let i = c.nodes.node in
    let r = c.row.result.now in
    let row : option_map (λ (n : DdNode). n.row) (slice_get (layer_at s (last_depth s - 1)) i) ≡ Some r =
    ap (λ (k : ℕ). option_map (λ (n : DdNode). n.row) (slice_get (layer_at s (k - 1)) i)) (sym c.last_depth-above.ensures)
    ∙ (ap (option_map (λ (n : DdNode). n.row)) (sym (node-in (slice_get s.layers (c.last_depth-above.result - 1 - length s.prefix)) i)) ∙ c.row.ensures) in
    let next = rows-next (layer_at s (last_depth s - 1)) i r row in
    let one : suc i ≡ i + 1 = omega arith in
    c.keep.ensures ∙ (ap (λ (v : CutView). record v { rows = v.rows ++ r ∷ [] }) c.nodes.invariant
    ∙ ap (λ (rows : List (List ℤ)). record c.args.cut.now { rows = rows }) (sym next ∙ ap (λ n. take n (rows_above s)) one))
