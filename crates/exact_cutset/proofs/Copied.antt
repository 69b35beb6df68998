-- The rows of a layer, which are held or copied.
use Rattle.std.proofs.Common.{◌≡◌, ℕ, suc, zero, ◌-◌, ◌<◌, ◌≤◌, ℤ, List, [], ◌∷◌, length, slice_get, Option, Some, None, IsSome, option_map, sym, ◌∙◌, ap, subst, arith}
use Rattle.std.proofs.lemmas.List.{length-map}
use Rattle.std.proofs.lemmas.Option.{slice_get-map, slice_get_past}
use Rattle.dp_laws.specs.Diagrams.Nodes.{DdNode, DdLayers, node_at}
use Rattle.layer_build.specs.Layers.{SpaceView}
use Rattle.relaxed_dd.specs.Cut.{rows_of}
use Rattle.relaxed_dd.specs.Shown.{layer_in}
use Rattle.exact_cutset.specs.declared.rows.Rows.{Rows}
use Rattle.exact_cutset.specs.declared.rows.Rows.TheVariants.{Held, Copied}
use Rattle.exact_cutset.specs.Rows.{HasRows, HasRowsAt}
use Rattle.exact_cutset.proofs.Taken.{node-here}

within : (layer : List DdNode) (i : ℕ) → IsSome (slice_get layer i) → i < length layer
within [] i some =
    let empty : List DdNode = [] in
    let none : IsSome {T = DdNode} None = subst (λ (o : Option DdNode). IsSome o) (slice_get_past empty i (omega arith)) some in
    absurd (cc)
within (x ∷ layer) zero some = omega arith
within (x ∷ layer) (suc i) some = let rest = within layer i some in omega arith

-- a node's row is among the copied ones
pub row-there : (d : DdLayers) (depth i : ℕ) (rows : List (List ℤ)) → rows ≡ rows_of (layer_in d depth) → IsSome (node_at d depth i) → i < length rows
row-there d depth i rows copied some =
    let less = within (layer_in d depth) i (subst IsSome (node-here d depth i) some) in
    let same : length rows ≡ length (layer_in d depth) = ap (λ rs. length rs) copied ∙ length-map (layer_in d depth) (λ (n : DdNode). n.row) in
    omega arith

pub row-copied : (d : DdLayers) (depth i : ℕ) (rows : List (List ℤ)) (row : List ℤ) → rows ≡ rows_of (layer_in d depth) → slice_get rows i ≡ Some row → option_map (λ (n : DdNode). n.row) (node_at d depth i) ≡ Some row
row-copied d depth i rows row copied at =
    ap (option_map (λ (n : DdNode). n.row)) (node-here d depth i) ∙ (sym (slice_get-map (λ (n : DdNode). n.row) (layer_in d depth) i) ∙ (ap (λ rs. slice_get rs i) (sym copied) ∙ at))

-- those of the last exact layer are there
pub rows-at : (s : SpaceView) (reduced : ℕ) (rows : Rows) → HasRows s rows → s.first_reduced ≡ Some reduced → length s.prefix ≤ reduced - 1 → HasRowsAt s (reduced - 1) rows
rows-at s reduced Held h is low = omega arith
rows-at s reduced (Copied cut) h is low = h reduced is
