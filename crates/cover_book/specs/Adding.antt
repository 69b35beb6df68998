-- A diagram is put into a cover under way.
use Rattle.std.specs.Prelude.{◌≡◌, ℕ, ◌+◌, ◌-◌, ◌≤◌, nat_lt, ◌&&◌, ℤ, cond, List, ◌++◌, length, map, set, Option, Some, None}
use Rattle.dp_model.specs.Dp.{Dp}
use Rattle.dp_laws.specs.Diagrams.Nodes.{DdLayers, node_at}
use Rattle.relaxed_dd.specs.Shown.{layer_in, last_of}
use Rattle.bound_cover.specs.Covers.{CoverRow}
use Rattle.bound_cover.specs.Exploring.{layer_of, moved, row_for, all_wait, with_arcs_at}
use Rattle.cover_book.specs.Nodes.{arcs_in}

-- the rows with the arcs of the diagram's root at the place of its layer
abbrev pub with_root_arcs : DdLayers → ℕ → List (List CoverRow) → List (List CoverRow)
with_root_arcs d place rows = set rows d.first (with_arcs_at place (map (moved (length (layer_of rows (d.first + 1)))) (arcs_in (node_at d d.first 0))) (layer_of rows d.first))

-- a layer, once the diagram's layers below its root and above the depth `end` stand in the cover
abbrev pub added_layer : Dp → Option ℤ → DdLayers → ℕ → List (List CoverRow) → ℕ → List CoverRow
added_layer dp claim d end rows j =
    cond (nat_lt d.first j && nat_lt j end) (layer_of rows j ++ map (row_for dp claim d.first_reduced j (length (layer_of rows (j + 1)))) (layer_in d j)) (layer_of rows j)

-- the rows after a diagram is put in, layer by layer
pub record AreAdded (dp : Dp) (claim : Option ℤ) (d : DdLayers) (end : ℕ) (old new : List (List CoverRow)) : Type 0 where
  pub long : length new ≡ length old
  pub layers : (j : ℕ) → layer_of new j ≡ added_layer dp claim d end old j

-- the depth of the last layer that gets rows: that of the last exact one, where all its nodes wait
abbrev pub last_needed : Option ℤ → DdLayers → Option ℕ → ℕ
last_needed claim d None = last_of d
last_needed claim d (Some depth) = cond (all_wait claim (layer_in d (depth - 1))) (depth - 1) (last_of d)

-- the first reduced layer stands below the layer under the root, and is not below the last one
abbrev pub IsCutWithin : DdLayers → Option ℕ → Type 0
IsCutWithin d None = Unit {0}
IsCutWithin d (Some depth) = (d.first + 2 ≤ depth) × (depth ≤ last_of d)
