-- Layers whose rows stand in a region.
use Rattle.std.specs.Prelude.{◌≡◌, ℕ, ℤ, true, List, [], ◌∷◌, map, None}
use Rattle.dp_model.specs.Lists.{Each}
use Rattle.row_region.specs.Region.{RegionView, IsRow, HasPut}
use Rattle.layer_nodes.specs.Nodes.{NodeView}

-- the region holds the rows of the nodes
abbrev pub AreHeld : RegionView → List NodeView → Type 0
AreHeld region nodes = Each (λ (node : NodeView). IsRow region node.place node.row) nodes

-- the places of the rows of the nodes
abbrev pub places_of : List NodeView → List ℕ
places_of nodes = map (λ (node : NodeView). node.place) nodes

-- the region has at these places the rows that are found there
abbrev pub HaveRows : RegionView → (ℕ → List ℤ) → List ℕ → Type 0
HaveRows region row places = Each (λ (place : ℕ). IsRow region place (row place)) places

-- the row was put into the region, and the one node has it, which is exact and has neither parent nor arcs
pub record HasStarted (row : List ℤ) (value rank : ℤ) (hash : ℕ) (old new : RegionView) (nodes : List NodeView) : Type 0 where
  pub place : ℕ
  pub nodes_are : nodes ≡ record { row = row; place = place; value = value; rank = rank; hash = hash; exact = true; parent = None; decision = 0; arcs = []; suffix = None } ∷ []
  pub put : HasPut old place row new
