-- The nodes of a stored page, one by one.
use Rattle.std.proofs.Common.{◌≡◌, ℕ, zero, suc, ◌+◌, ◌<◌, ◌≤◌, ℤ, List, [], ◌∷◌, length, map, drop, slice_get, get_or, Option, Some, None, option_map, unwrap_or, refl, sym, ◌∙◌, ap, subst, arith}
use Rattle.std.specs.Slice.{IsItemAt}
use Rattle.std.proofs.lemmas.Option.{none-some, same_Some, slice_get_within, slice_get-get_or, get_or_from_slice_get}
use Rattle.dp_model.specs.Lists.{Each}
use denote.Ref.{Bor}
use Rattle.row_region.specs.Region.{RegionView, row_or}
use Rattle.row_region.specs.declared.region.RowId.{RowId}
use Rattle.cover_pages.specs.Pages.{NodeView, PageView}
use Rattle.cover_pages.specs.declared.pages.PageNode.{PageNode}
use Rattle.cover_pages.specs.Readers.{layers_in, nodes_in, IsShownNode, ShowsNode}
use Rattle.cover_pages.specs.Stored.{NodeBody, LayerBody, PageBody, row_in, with_row, shown_nodes, shown_layer, shown_page, shown_book, IsStored}

pub map-get : {X Y : Type 0} (f : X → Y) (xs : List X) (i : ℕ) → slice_get (map f xs) i ≡ option_map f (slice_get xs i)
map-get f [] i = refl
map-get f (x ∷ xs) zero = refl
map-get f (x ∷ xs) (suc i) = map-get f xs i

get-drop : {X : Type 0} (xs : List X) (k i : ℕ) → slice_get (drop k xs) i ≡ slice_get xs (k + i)
get-drop xs zero i = ap (slice_get xs) (let e : i ≡ 0 + i = omega arith in e)
get-drop [] (suc k) i = refl
get-drop (x ∷ xs) (suc k) i = let e : suc (k + i) ≡ suc k + i = omega arith in get-drop xs k i ∙ ap (slice_get (x ∷ xs)) e

-- a node with its row
node-get : (r : RegionView) (ids : List RowId) (ns : List NodeBody) (i : ℕ) (n : NodeBody) → slice_get ns i ≡ Some n → slice_get (shown_nodes r ids ns) i ≡ Some (with_row (row_in r (slice_get ids i)) n)
node-get r ids [] i n e = absurd (none-some n e)
node-get r ids (m ∷ ms) zero n e = ap (λ (x : NodeBody). Some (with_row (row_in r (slice_get ids 0)) x)) (same_Some m n e)
node-get r [] (m ∷ ms) (suc i) n e = node-get r [] ms i n e
node-get r (id ∷ ids) (m ∷ ms) (suc i) n e = node-get r ids ms i n e

pub each-get : {X : Type 0} (P : X → Type 0) (xs : List X) (i : ℕ) (x : X) → slice_get xs i ≡ Some x → Each P xs → P x
each-get P [] i x e h = absurd (none-some x e)
each-get P (y ∷ ys) zero x e h = subst P (same_Some y x e) h.0
each-get P (y ∷ ys) (suc i) x e h = each-get P ys i x e h.1

shown-long : (r : RegionView) (ids : List RowId) (ns : List NodeBody) → length (shown_nodes r ids ns) ≡ length ns
shown-long r ids [] = refl
shown-long r ids (n ∷ ns) = ap suc (shown-long r (drop 1 ids) ns)

none-get : (r : RegionView) (ids : List RowId) (ns : List NodeBody) (i : ℕ) → slice_get ns i ≡ None → slice_get (shown_nodes r ids ns) i ≡ None
none-get r ids [] i e = refl
none-get r ids (n ∷ ns) zero e = absurd (none-some n (sym e))
none-get r ids (n ∷ ns) (suc i) e = none-get r (drop 1 ids) ns i e

-- the name of a node's row is there
pub name-there : (r : RegionView) (p : PageBody) (layer : ℕ) (l : LayerBody) (i : ℕ) (n : NodeBody) → slice_get p.layers layer ≡ Some l → slice_get l.nodes i ≡ Some n → IsStored r p → l.start + i < length p.rows
name-there r p layer l i n at here stored =
    let within = slice_get_within l.nodes i n here in
    let most : l.start + length l.nodes ≤ length p.rows = each-get (λ (x : LayerBody). x.start + length x.nodes ≤ length p.rows) p.layers layer l at stored.named in
    omega arith

-- the pages of a book, as they are seen
module _ (limit : ℕ) (r : RegionView) (pages : List PageBody) where
  layers-at : (i : ℕ) (p : PageBody) → slice_get pages i ≡ Some p → layers_in (shown_book limit r pages) i ≡ map (shown_layer r p.rows) p.layers
  layers-at i p e = ap (λ (o : Option PageView). unwrap_or (option_map (λ (v : PageView). v.layers) o) []) (map-get (shown_page r) pages i ∙ ap (option_map (shown_page r)) e)

  nodes-at : (i layer : ℕ) (p : PageBody) → slice_get pages i ≡ Some p → nodes_in (shown_book limit r pages) i layer ≡ unwrap_or (option_map (shown_layer r p.rows) (slice_get p.layers layer)) []
  nodes-at i layer p e =
      ap (λ (ls : List (List NodeView)). unwrap_or (slice_get ls layer) []) (layers-at i p e) ∙ ap (λ (o : Option (List NodeView)). unwrap_or o []) (map-get (shown_layer r p.rows) p.layers layer)

  -- how many nodes a layer has
  pub nodes-many : (i layer : ℕ) (p : PageBody) (l : LayerBody) → slice_get pages i ≡ Some p → slice_get p.layers layer ≡ Some l → length (nodes_in (shown_book limit r pages) i layer) ≡ length l.nodes
  nodes-many i layer p l e at =
      ap (λ (ns : List NodeView). length ns) (nodes-at i layer p e ∙ ap (λ (o : Option LayerBody). unwrap_or (option_map (shown_layer r p.rows) o) []) at) ∙ shown-long r (drop l.start p.rows) l.nodes

  pub nodes-none : (i layer : ℕ) (p : PageBody) → slice_get pages i ≡ Some p → slice_get p.layers layer ≡ None → length (nodes_in (shown_book limit r pages) i layer) ≡ 0
  nodes-none i layer p e at =
      ap (λ (ns : List NodeView). length ns) (nodes-at i layer p e ∙ ap (λ (o : Option LayerBody). unwrap_or (option_map (shown_layer r p.rows) o) []) at)

  -- a node of a layer
  pub node-in : (i layer node : ℕ) (p : PageBody) (l : LayerBody) (n : NodeBody) → slice_get pages i ≡ Some p → slice_get p.layers layer ≡ Some l → slice_get l.nodes node ≡ Some n
      → slice_get (nodes_in (shown_book limit r pages) i layer) node ≡ Some (with_row (row_in r (slice_get p.rows (l.start + node))) n)
  node-in i layer node p l n e at here =
      ap (λ (ns : List NodeView). slice_get ns node) (nodes-at i layer p e ∙ ap (λ (o : Option LayerBody). unwrap_or (option_map (shown_layer r p.rows) o) []) at)
      ∙ (node-get r (drop l.start p.rows) l.nodes node n here ∙ ap (λ (o : Option RowId). Some (with_row (row_in r o) n)) (get-drop p.rows l.start node))

  pub node-none : (i layer node : ℕ) (p : PageBody) (l : LayerBody) → slice_get pages i ≡ Some p → slice_get p.layers layer ≡ Some l → slice_get l.nodes node ≡ None → slice_get (nodes_in (shown_book limit r pages) i layer) node ≡ None
  node-none i layer node p l e at none =
      ap (λ (ns : List NodeView). slice_get ns node) (nodes-at i layer p e ∙ ap (λ (o : Option LayerBody). unwrap_or (option_map (shown_layer r p.rows) o) []) at)
      ∙ none-get r (drop l.start p.rows) l.nodes node none

-- what a lookup gives
pub got : {X : Type 0} (xs : List X) (i : ℕ) (x : Bor X) → IsItemAt xs i (Some x) → slice_get xs i ≡ Some x.now
got xs i x h = slice_get-get_or xs i x.now h.3.0 ∙ ap Some (sym h.1)

past : {X : Type 0} (xs : List X) (i : ℕ) → length xs ≤ i → slice_get xs i ≡ None
past [] i far = refl
past (x ∷ xs) zero far = absurd (omega arith)
past (x ∷ xs) (suc i) far = past xs i (omega arith)

pub not-got : {X : Type 0} (xs : List X) (i : ℕ) → IsItemAt xs i None → slice_get xs i ≡ None
not-got xs i h = past xs i h.3

pub shows-none : (o : Option NodeView) (r : Option PageNode) → o ≡ None → r ≡ None → ShowsNode o r
shows-none o r e f = subst (λ (x : Option NodeView). ShowsNode x r) (sym e) (subst (ShowsNode None) (sym f) tt)

-- the row of a live name, read from the region
pub row-read : (r : RegionView) (ids : List RowId) (i : ℕ) (id : RowId) (row : List ℤ) → slice_get ids i ≡ Some id → slice_get r.rows id.place ≡ Some (Some row) → row_in r (slice_get ids i) ≡ row
row-read r ids i id row at e = ap (row_in r) at ∙ ap row_or (get_or_from_slice_get r.rows id.place (Some row) None e)

pub id-at : (ids : List RowId) (i : ℕ) (id : RowId) → i < length ids → id ≡ get_or ids i id → slice_get ids i ≡ Some id
id-at ids i id less is = slice_get-get_or ids i id less ∙ ap Some (sym is)

pub shows-node : (o : Option NodeView) (row was : List ℤ) (n : NodeBody) (shown : PageNode) → o ≡ Some (with_row was n) → was ≡ row → IsShownNode (with_row row n) shown → ShowsNode o (Some shown)
shows-node o row was n shown e same is = subst (λ (x : Option NodeView). ShowsNode x (Some shown)) (sym (e ∙ ap (λ (w : List ℤ). Some (with_row w n)) same)) is
