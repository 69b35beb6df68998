-- Pages: the diagrams of a search, as far as a cover needs them.
use Rattle.std.specs.Prelude.{◌≡◌, ℕ, ◌+◌, ◌*◌, ◌^◌, ◌<◌, ◌≤◌, ℤ, Bool, true, List, [], ◌∷◌, length, map, sum_by, Option, Some, option_map, unwrap_or}
use Rattle.dp_model.specs.Lists.{Each}
use Rattle.dp_laws.specs.declared.arc.DdArc.{DdArc}
use Rattle.dp_laws.specs.Diagrams.Nodes.{DdNode, DdLayers, node_at}
use Rattle.relaxed_dd.specs.Shown.{last_of}
use Rattle.board_laws.specs.declared.fate.Fate.{Fate}
use Rattle.bound_cover.specs.declared.cover.CoverArc.{CoverArc}
use Rattle.cover_pages.specs.declared.pages.Place.{Place}
use Rattle.cover_pages.specs.declared.pages.PageHead.{PageHead}

-- a node: its row, the greatest length of a path to it and of one from it to the last layer, whether it stands for one state exactly,
-- and its arcs
pub record NodeView : Type 0 where
  pub row : List ℤ
  pub value : ℤ
  pub suffix : Option ℤ
  pub exact : Bool
  pub arcs : List CoverArc

-- a child: where its node stands, its decisions from the root, and its fate
pub record ChildView : Type 0 where
  pub place : Place
  pub decisions : List ℕ
  pub fate : Fate

-- a page: the ticket with the depths of the first layer and of the first reduced one, the layers, and the children
pub record PageView : Type 0 where
  pub head : PageHead
  pub layers : List (List NodeView)
  pub children : List ChildView

-- an arc without its gain and its lengthening
abbrev pub bare_arc : DdArc → CoverArc
bare_arc arc = record { decision = arc.decision; target = arc.target }

-- a node of a diagram in a page
abbrev pub node_of : DdNode → NodeView
node_of n = record { row = n.row; value = n.value; suffix = n.suffix; exact = n.exact; arcs = map bare_arc n.arcs }

-- its row
abbrev pub row_of : DdNode → List ℤ
row_of n = n.row

-- the kept decisions of the node at a place
abbrev pub path_in : DdLayers → Place → List ℕ
path_in d place = unwrap_or (option_map (λ (n : DdNode). n.path) (node_at d place.depth place.node)) []

-- the children at these places, with their fates
abbrev pub children_of : DdLayers → List Place → List Fate → List ChildView
children_of d [] fates = []
children_of d (place ∷ places) [] = []
children_of d (place ∷ places) (fate ∷ fates) = record { place = place; decisions = path_in d place; fate = fate } ∷ children_of d places fates

-- the page of a diagram
abbrev pub page_of : ℕ → DdLayers → List Place → List Fate → PageView
page_of ticket d places fates = record {
  head = record { ticket = ticket; first = d.first; first_reduced = d.first_reduced };
  layers = map (map node_of) d.layers;
  children = children_of d places fates;
}

-- how many words a node counts for, where rows have this many cells: those of its row and two more, and two for each arc
abbrev pub node_size : ℕ → NodeView → ℕ
node_size words n = words + 2 + 2 * length n.arcs

-- and a page: the sum of its nodes
abbrev pub size_of : ℕ → PageView → ℕ
size_of words page = sum_by (λ (layer : List NodeView). sum_by (node_size words) layer) page.layers

-- the layers can be put into a book: there is one, the depth of the last one has 32 bits, and each row has this many cells
pub record CanKeep (words : ℕ) (d : DdLayers) : Type 0 where
  pub some : 0 < length d.layers
  pub low : last_of d < 2 ^ 32
  pub cells : Each (Each (λ (n : DdNode). length n.row ≡ words)) d.layers

-- the place is that of an exact node
pub record IsExactPlace (d : DdLayers) (place : Place) : Type 0 where
  pub node : DdNode
  pub is : node_at d place.depth place.node ≡ Some node
  pub exact : node.exact ≡ true
  pub first : d.first ≤ place.depth
