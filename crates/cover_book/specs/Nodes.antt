-- The rows of nodes.
use Rattle.std.specs.Prelude.{ℕ, ℤ, Bool, List, [], Option, Some, None, map, option_map, unwrap_or, cond}
use Rattle.dp_laws.specs.declared.arc.DdArc.{DdArc}
use Rattle.dp_laws.specs.Diagrams.Nodes.{DdNode}
use Rattle.bound_cover.specs.declared.cover.CoverArc.{CoverArc}
use Rattle.bound_cover.specs.Covers.{CoverRow}
use Rattle.bound_cover.specs.Exploring.{claim_of, moved}

-- the row of a node, with or without its arcs
abbrev pub row_with : Option ℤ → Bool → Bool → ℕ → DdNode → CoverRow
row_with claim deep has_arcs before node = record {
  bound = claim_of claim deep node;
  words = node.row;
  arcs = cond has_arcs (Some (map (moved before) node.arcs)) None;
}

-- a row with arcs
abbrev pub with_arcs : List CoverArc → CoverRow → CoverRow
with_arcs arcs row = record { bound = row.bound; words = row.words; arcs = Some arcs }

-- the arcs of a node, and none where there is no node
abbrev pub arcs_in : Option DdNode → List DdArc
arcs_in o = unwrap_or (option_map (λ (n : DdNode). n.arcs) o) []
