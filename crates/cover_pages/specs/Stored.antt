-- How pages lie in memory.
use Rattle.std.specs.Prelude.{◌≡◌, ℕ, ◌+◌, ◌≤◌, ℤ, Bool, List, [], ◌∷◌, ◌++◌, length, map, drop, slice_get, slice_index_or, Option, Some, None}
use Rattle.dp_model.specs.Lists.{Each}
use Rattle.dp_laws.specs.Diagrams.Nodes.{DdNode}
use Rattle.row_region.specs.Region.{RegionView, IsLive, row_or}
use Rattle.row_region.specs.declared.region.RowId.{RowId}
use Rattle.bound_cover.specs.declared.cover.CoverArc.{CoverArc}
use Rattle.cover_pages.specs.declared.pages.PageHead.{PageHead}
use Rattle.cover_pages.specs.Pages.{NodeView, ChildView, PageView, bare_arc, row_of}
use Rattle.cover_pages.specs.Books.{BookView, kept_in}

-- a node without its row
pub record NodeBody : Type 0 where
  pub value : ℤ
  pub suffix : Option ℤ
  pub exact : Bool
  pub arcs : List CoverArc

-- a layer, and how many nodes of its page stand above it
pub record LayerBody : Type 0 where
  pub start : ℕ
  pub nodes : List NodeBody

-- a page, with the names of its rows
pub record PageBody : Type 0 where
  pub head : PageHead
  pub layers : List LayerBody
  pub children : List ChildView
  pub rows : List RowId

-- a node of a diagram without its row
abbrev pub body_of : DdNode → NodeBody
body_of n = record { value = n.value; suffix = n.suffix; exact = n.exact; arcs = map bare_arc n.arcs }

-- the layers of a diagram, where this many nodes stand above them
abbrev pub numbered : ℕ → List (List DdNode) → List LayerBody
numbered start [] = []
numbered start (layer ∷ layers) = record { start = start; nodes = map body_of layer } ∷ numbered (start + length layer) layers

-- the rows of the layers, one layer after another
abbrev pub rows_of : List (List DdNode) → List (List ℤ)
rows_of [] = []
rows_of (layer ∷ layers) = map row_of layer ++ rows_of layers

-- the row of a name, and none where there is no name
abbrev pub row_in : RegionView → Option RowId → List ℤ
row_in r None = []
row_in r (Some id) = row_or (slice_index_or r.rows id.place None)

-- a node with its row
abbrev pub with_row : List ℤ → NodeBody → NodeView
with_row row n = record { row = row; value = n.value; suffix = n.suffix; exact = n.exact; arcs = n.arcs }

-- nodes with the rows of these names, in order
abbrev pub shown_nodes : RegionView → List RowId → List NodeBody → List NodeView
shown_nodes r ids [] = []
shown_nodes r ids (n ∷ ns) = with_row (row_in r (slice_get ids 0)) n ∷ shown_nodes r (drop 1 ids) ns

-- a layer with its rows
abbrev pub shown_layer : RegionView → List RowId → LayerBody → List NodeView
shown_layer r ids layer = shown_nodes r (drop layer.start ids) layer.nodes

-- a page with its rows
abbrev pub shown_page : RegionView → PageBody → PageView
shown_page r p = record { head = p.head; layers = map (shown_layer r p.rows) p.layers; children = p.children }

-- the names are those of these rows, in order
abbrev pub HoldRows : RegionView → List RowId → List (List ℤ) → Type 0
HoldRows r [] [] = Unit {0}
HoldRows r (id ∷ ids) (row ∷ rows) = (slice_get r.rows id.place ≡ Some (Some row)) × HoldRows r ids rows
HoldRows r ids rows = ⊥

-- each row of the old region stands in the new one
abbrev pub Keeps : RegionView → RegionView → Type 0
Keeps old new = (place : ℕ) (row : List ℤ) → slice_get old.rows place ≡ Some (Some row) → slice_get new.rows place ≡ Some (Some row)

-- rows were put into a region that have the further names
pub record HasPutRows (old : RegionView) (was : List RowId) (rows : List (List ℤ)) (new : RegionView) (ids : List RowId) : Type 0 where
  pub words : new.words ≡ old.words
  pub keeps : Keeps old new
  pub spare : old.spare ≡ new.spare + length rows
  pub many : length ids ≡ length was + length rows
  pub holds : (before : List (List ℤ)) → HoldRows old was before → HoldRows new ids (before ++ rows)

-- each name of the page is that of a row, and each node has a name
pub record IsStored (r : RegionView) (p : PageBody) : Type 0 where
  pub live : Each (λ (id : RowId). IsLive r id.place) p.rows
  pub named : Each (λ (l : LayerBody). l.start + length l.nodes ≤ length p.rows) p.layers

-- the book as it is seen
abbrev pub shown_book : ℕ → RegionView → List PageBody → BookView
shown_book limit r pages = record { words = r.words; limit = limit; pages = map (shown_page r) pages }

-- the pages are stored, and their words are counted and are at most the limit
pub record IsSound (limit kept : ℕ) (r : RegionView) (pages : List PageBody) : Type 0 where
  pub stored : Each (IsStored r) pages
  pub counted : kept ≡ kept_in (shown_book limit r pages)
  pub within : kept ≤ limit
