-- What the readers of a book tell.
use Rattle.std.specs.Prelude.{◌≡◌, ℕ, List, [], slice_get, Option, Some, None, option_map, unwrap_or}
use Rattle.cover_pages.specs.declared.pages.PageHead.{PageHead}
use Rattle.cover_pages.specs.declared.pages.PageNode.{PageNode}
use Rattle.cover_pages.specs.declared.pages.PageChild.{PageChild}
use Rattle.cover_pages.specs.Pages.{NodeView, ChildView, PageView}
use Rattle.cover_pages.specs.Books.{BookView}

-- what a page tells beside its nodes
abbrev pub head_in : BookView → ℕ → Option PageHead
head_in book page = option_map (λ (p : PageView). p.head) (slice_get book.pages page)

-- its layers; none if there is no such page
abbrev pub layers_in : BookView → ℕ → List (List NodeView)
layers_in book page = unwrap_or (option_map (λ (p : PageView). p.layers) (slice_get book.pages page)) []

-- the nodes of a layer of it, counted from 0
abbrev pub nodes_in : BookView → ℕ → ℕ → List NodeView
nodes_in book page layer = unwrap_or (slice_get (layers_in book page) layer) []

-- its children
abbrev pub children_in : BookView → ℕ → List ChildView
children_in book page = unwrap_or (option_map (λ (p : PageView). p.children) (slice_get book.pages page)) []

-- the node with its row and its arcs
pub record IsShownNode (n : NodeView) (shown : PageNode) : Type 0 where
  pub row : shown.row.now ≡ n.row
  pub value : shown.value ≡ n.value
  pub suffix : shown.suffix ≡ n.suffix
  pub exact : shown.exact ≡ n.exact
  pub arcs : shown.arcs.now ≡ n.arcs

-- what is shown is the node, or none where there is none
abbrev pub ShowsNode : Option NodeView → Option PageNode → Type 0
ShowsNode None None = Unit {0}
ShowsNode None (Some shown) = ⊥
ShowsNode (Some n) None = ⊥
ShowsNode (Some n) (Some shown) = IsShownNode n shown

-- the child with its decisions
pub record IsShownChild (c : ChildView) (shown : PageChild) : Type 0 where
  pub place : shown.place ≡ c.place
  pub decisions : shown.decisions.now ≡ c.decisions
  pub fate : shown.fate ≡ c.fate

-- what is shown is the child, or none where there is none
abbrev pub ShowsChild : Option ChildView → Option PageChild → Type 0
ShowsChild None None = Unit {0}
ShowsChild None (Some shown) = ⊥
ShowsChild (Some c) None = ⊥
ShowsChild (Some c) (Some shown) = IsShownChild c shown
