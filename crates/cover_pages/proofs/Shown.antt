-- Pages as they are seen, with their rows.
use Rattle.std.proofs.Common.{◌≡◌, ℕ, zero, suc, ◌+◌, ◌-◌, ◌<◌, ◌≤◌, ℤ, List, [], ◌∷◌, ◌++◌, length, map, drop, replicate, slice_get, Option, Some, None, refl, sym, ◌∙◌, ap, ap₂, subst, arith}
use Rattle.std.proofs.lemmas.List.{length-map, drop-drop}
use Rattle.std.proofs.lemmas.List.Sums.{sum_by_push}
use Rattle.std.proofs.lemmas.Option.{none-some, get_or_from_slice_get}
use Rattle.dp_model.specs.Lists.{Each}
use Rattle.dp_laws.specs.Diagrams.Nodes.{DdNode, DdLayers}
use Rattle.row_region.specs.Region.{RegionView, IsLive, row_or}
use Rattle.row_region.specs.declared.region.RowId.{RowId}
use Rattle.board_laws.specs.declared.fate.Fate.{Fate}
use Rattle.cover_pages.specs.declared.pages.Place.{Place}
use Rattle.cover_pages.specs.declared.pages.PageHead.{PageHead}
use Rattle.cover_pages.specs.Pages.{NodeView, ChildView, PageView, node_of, row_of, children_of, size_of, page_of}
use Rattle.cover_pages.specs.Books.{BookView, kept_in, with_page}
use Rattle.cover_pages.specs.Sizes.{nodes_of, words_of, Leaves}
use Rattle.cover_pages.specs.Stored.{NodeBody, LayerBody, PageBody, body_of, numbered, rows_of, row_in, with_row, shown_nodes, shown_layer, shown_page, shown_book, HoldRows, HasPutRows, Keeps, IsStored, IsSound}
use Rattle.cover_pages.proofs.Lists.{map-push}
use Rattle.cover_pages.proofs.Rows.{rows-long}
use Rattle.cover_pages.proofs.Sized.{page-size}

-- the row of a name
row-held : (r : RegionView) (id : RowId) (row : List ℤ) → slice_get r.rows id.place ≡ Some (Some row) → row_in r (Some id) ≡ row
row-held r id row e = ap row_or (get_or_from_slice_get r.rows id.place (Some row) None e)

-- the nodes of a layer, whose rows come first
show-nodes : (r : RegionView) (ids : List RowId) (layer : List DdNode) (more : List (List ℤ)) → HoldRows r ids (map row_of layer ++ more) → (shown_nodes r ids (map body_of layer) ≡ map node_of layer) × HoldRows r (drop (length layer) ids) more
show-nodes r ids [] more h = (refl, h)
show-nodes r [] (n ∷ ns) more h = absurd h
show-nodes r (id ∷ ids) (n ∷ ns) more h =
    let rest = show-nodes r ids ns more h.1 in
    (ap₂ (λ (row : List ℤ) (l : List NodeView). with_row row (body_of n) ∷ l) (row-held r id n.row h.0) rest.0, rest.1)

pub show-layers : (r : RegionView) (ids : List RowId) (k : ℕ) (ls : List (List DdNode)) → HoldRows r (drop k ids) (rows_of ls) → map (shown_layer r ids) (numbered k ls) ≡ map (map node_of) ls
show-layers r ids k [] h = refl
show-layers r ids k (l ∷ ls) h =
    let s = show-nodes r (drop k ids) l (rows_of ls) h in
    let on : drop (length l) (drop k ids) ≡ drop (k + length l) ids = drop-drop (length l) k ids in
    ap₂ (λ (x : List NodeView) (y : List (List NodeView)). x ∷ y) s.0 (show-layers r ids (k + length l) ls (subst (λ (i : List RowId). HoldRows r i (rows_of ls)) on s.1))

-- what a region keeps is seen as before
row-same : (old new : RegionView) (id : RowId) → Keeps old new → IsLive old id.place → row_in old (Some id) ≡ row_in new (Some id)
row-same old new id keeps live = row-held old id live.0 live.1 ∙ sym (row-held new id live.0 (keeps id.place live.0 live.1))

each-drop : {X : Type 0} (P : X → Type 0) (k : ℕ) (xs : List X) → Each P xs → Each P (drop k xs)
each-drop P zero xs h = h
each-drop P (suc k) [] h = tt
each-drop P (suc k) (x ∷ xs) h = each-drop P k xs h.1

nodes-same : (old new : RegionView) (ids : List RowId) (ns : List NodeBody) → Keeps old new → Each (λ (id : RowId). IsLive old id.place) ids → shown_nodes old ids ns ≡ shown_nodes new ids ns
nodes-same old new ids [] keeps live = refl
nodes-same old new [] (n ∷ ns) keeps live = ap (λ (l : List NodeView). with_row [] n ∷ l) (nodes-same old new [] ns keeps tt)
nodes-same old new (id ∷ ids) (n ∷ ns) keeps live = ap₂ (λ (row : List ℤ) (l : List NodeView). with_row row n ∷ l) (row-same old new id keeps live.0) (nodes-same old new ids ns keeps live.1)

layers-same : (old new : RegionView) (ids : List RowId) (ls : List LayerBody) → Keeps old new → Each (λ (id : RowId). IsLive old id.place) ids → map (shown_layer old ids) ls ≡ map (shown_layer new ids) ls
layers-same old new ids [] keeps live = refl
layers-same old new ids (l ∷ ls) keeps live =
    ap₂ (λ (x : List NodeView) (y : List (List NodeView)). x ∷ y) (nodes-same old new (drop l.start ids) l.nodes keeps (each-drop (λ (id : RowId). IsLive old id.place) l.start ids live)) (layers-same old new ids ls keeps live)

page-same : (old new : RegionView) (p : PageBody) → Keeps old new → IsStored old p → shown_page old p ≡ shown_page new p
page-same old new p keeps stored =
    ap (λ (ls : List (List NodeView)). (let v : PageView = record { head = p.head; layers = ls; children = p.children } in v)) (layers-same old new p.rows p.layers keeps stored.live)

pub pages-same : (old new : RegionView) (ps : List PageBody) → Keeps old new → Each (IsStored old) ps → map (shown_page old) ps ≡ map (shown_page new) ps
pages-same old new [] keeps stored = refl
pages-same old new (p ∷ ps) keeps stored = ap₂ (λ (x : PageView) (y : List PageView). x ∷ y) (page-same old new p keeps stored.0) (pages-same old new ps keeps stored.1)

live-same : (old new : RegionView) (ids : List RowId) → Keeps old new → Each (λ (id : RowId). IsLive old id.place) ids → Each (λ (id : RowId). IsLive new id.place) ids
live-same old new [] keeps live = tt
live-same old new (id ∷ ids) keeps live = ((live.0.0, keeps id.place live.0.0 live.0.1), live-same old new ids keeps live.1)

pub stored-same : (old new : RegionView) (ps : List PageBody) → Keeps old new → Each (IsStored old) ps → Each (IsStored new) ps
stored-same old new [] keeps stored = tt
stored-same old new (p ∷ ps) keeps stored = (record { live = live-same old new p.rows keeps stored.0.live; named = stored.0.named }, stored-same old new ps keeps stored.1)

each-push : {X : Type 0} (P : X → Type 0) (xs : List X) (x : X) → Each P xs → P x → Each P (xs ++ x ∷ [])
each-push P [] x h p = (p, tt)
each-push P (y ∷ ys) x h p = (h.0, each-push P ys x h.1 p)

-- names that hold rows are live
held-live : (r : RegionView) (ids : List RowId) (rows : List (List ℤ)) → HoldRows r ids rows → Each (λ (id : RowId). IsLive r id.place) ids
held-live r [] rows h = tt
held-live r (id ∷ ids) [] h = absurd h
held-live r (id ∷ ids) (row ∷ rows) h = ((row, h.0), held-live r ids rows h.1)

named : (k most : ℕ) (ls : List (List DdNode)) → k + nodes_of ls ≤ most → Each (λ (l : LayerBody). l.start + length l.nodes ≤ most) (numbered k ls)
named k most [] less = tt
named k most (l ∷ ls) less = ((let e = length-map l body_of in omega arith), named (k + length l) most ls (omega arith))

-- the parts of the new page
pub record IsNewPage (r : RegionView) (ticket : ℕ) (d : DdLayers) (children : List ChildView) (p : PageBody) : Type 0 where
  pub ticket_is : p.head.ticket ≡ ticket
  pub first_is : p.head.first ≡ d.first
  pub reduced_is : p.head.first_reduced ≡ d.first_reduced
  pub layers_are : p.layers ≡ numbered 0 d.layers
  pub children_are : p.children ≡ children
  pub many : length p.rows ≡ nodes_of d.layers
  pub holds : HoldRows r p.rows (rows_of d.layers)

abbrev head : ℕ → ℕ → Option ℕ → PageHead
head ticket first reduced = record { ticket = ticket; first = first; first_reduced = reduced }

abbrev page : PageHead → List (List NodeView) → List ChildView → PageView
page h layers children = record { head = h; layers = layers; children = children }

-- it is seen as the diagram's
new-layers : (r : RegionView) (ticket : ℕ) (d : DdLayers) (children : List ChildView) (p : PageBody) → IsNewPage r ticket d children p → (shown_page r p).layers ≡ map (map node_of) d.layers
new-layers r ticket d children p new = ap (map (shown_layer r p.rows)) new.layers_are ∙ show-layers r p.rows 0 d.layers new.holds

pub page-shown : (r : RegionView) (ticket : ℕ) (d : DdLayers) (children : List ChildView) (p : PageBody) → IsNewPage r ticket d children p
    → shown_page r p ≡ record { head = record { ticket = ticket; first = d.first; first_reduced = d.first_reduced }; layers = map (map node_of) d.layers; children = children }
page-shown r ticket d children p new =
    let layers = new-layers r ticket d children p new in
    let h = p.head in
    let same : h ≡ head ticket d.first d.first_reduced = ap (λ x. head x h.first h.first_reduced) new.ticket_is ∙ (ap (λ x. head ticket x h.first_reduced) new.first_is ∙ ap (λ x. head ticket d.first x) new.reduced_is) in
    ap (λ x. page x (shown_page r p).layers p.children) same ∙ (ap (λ x. page (head ticket d.first d.first_reduced) x p.children) layers ∙ ap (λ x. page (head ticket d.first d.first_reduced) (map (map node_of) d.layers) x) new.children_are)

new-stored : (r : RegionView) (ticket : ℕ) (d : DdLayers) (children : List ChildView) (p : PageBody) → IsNewPage r ticket d children p → IsStored r p
new-stored r ticket d children p new = record {
  live = held-live r p.rows (rows_of d.layers) new.holds;
  named = subst (Each (λ (l : LayerBody). l.start + length l.nodes ≤ length p.rows)) (sym new.layers_are) (named 0 (length p.rows) d.layers (let m = new.many in omega arith));
}

-- the book with the new page: it is sound, and seen with that page
pub record HasPage (limit kept : ℕ) (old new : RegionView) (pages : List PageBody) (page : PageView) (now : List PageBody) : Type 0 where
  pub sound : IsSound limit kept new now
  pub seen : shown_book limit new now ≡ with_page (shown_book limit old pages) page

pub with-new : (limit was kept rest ticket : ℕ) (old new : RegionView) (pages now : List PageBody) (d : DdLayers) (children : List ChildView) (p : PageBody) → IsSound limit was old pages → Keeps old new → new.words ≡ old.words → IsNewPage new ticket d children p
    → now ≡ pages ++ p ∷ [] → rest + words_of old.words d.layers ≡ limit - was → kept ≡ limit - rest
    → HasPage limit kept old new pages (record { head = record { ticket = ticket; first = d.first; first_reduced = d.first_reduced }; layers = map (map node_of) d.layers; children = children }) now
with-new limit was kept rest ticket old new pages now d children p sound keeps words fresh is counts keeps_count =
    let page : PageView = record { head = record { ticket = ticket; first = d.first; first_reduced = d.first_reduced }; layers = map (map node_of) d.layers; children = children } in
    let stored : Each (IsStored new) (pages ++ p ∷ []) = each-push (IsStored new) pages p (stored-same old new pages keeps sound.stored) (new-stored new ticket d children p fresh) in
    let shown : map (shown_page new) now ≡ map (shown_page old) pages ++ page ∷ [] =
    ap (map (shown_page new)) is ∙ (map-push (shown_page new) pages p ∙ ap₂ (λ (x : List PageView) (y : PageView). x ++ y ∷ []) (sym (pages-same old new pages keeps sound.stored)) (page-shown new ticket d children p fresh)) in
    let seen : shown_book limit new now ≡ with_page (shown_book limit old pages) page = ap₂ (λ (w : ℕ) (ps : List PageView). (let b : BookView = record { words = w; limit = limit; pages = ps } in b)) words shown in
    let pushed : kept_in (with_page (shown_book limit old pages) page) ≡ kept_in (shown_book limit old pages) + size_of old.words page = sum_by_push (size_of old.words) (map (shown_page old) pages) page in
    let size : size_of old.words page ≡ words_of old.words d.layers = page-size old.words d page refl in
    let total = ap kept_in seen in
    let counted = sound.counted in
    let within = sound.within in
    record {
      sound = record {
        stored = subst (Each (IsStored new)) (sym is) stored;
        counted = (omega arith);
        within = (omega arith);
      };
      seen = seen;
    }

-- a diagram for which the limit is too small, and one for which it is not
pub must-leave : (limit was ticket : ℕ) (r : RegionView) (pages : List PageBody) (book : BookView) (d : DdLayers) (places : List Place) (fates : List Fate) → IsSound limit was r pages → shown_book limit r pages ≡ book
    → Leaves (limit - was) (words_of r.words d.layers) None → book.limit < kept_in book + size_of book.words (page_of ticket d places fates)
must-leave limit was ticket r pages book d places fates sound seen leaves =
    let size = page-size r.words d (page_of ticket d places fates) refl in
    let counted = sound.counted in
    let within = sound.within in
    subst (λ (b : BookView). b.limit < kept_in b + size_of b.words (page_of ticket d places fates)) seen (omega arith)

pub may-keep : (limit was rest ticket : ℕ) (r : RegionView) (pages : List PageBody) (book : BookView) (d : DdLayers) (places : List Place) (fates : List Fate) → IsSound limit was r pages → shown_book limit r pages ≡ book
    → Leaves (limit - was) (words_of r.words d.layers) (Some rest) → book.limit < kept_in book + size_of book.words (page_of ticket d places fates) → ⊥
may-keep limit was rest ticket r pages book d places fates sound seen leaves less =
    let size = page-size r.words d (page_of ticket d places fates) refl in
    let counted = sound.counted in
    let within = sound.within in
    let under : limit < kept_in (shown_book limit r pages) + size_of r.words (page_of ticket d places fates) = subst (λ (b : BookView). b.limit < kept_in b + size_of b.words (page_of ticket d places fates)) (sym seen) less in
    omega arith

-- a region that grew keeps its rows
get-more : {X : Type 0} (xs more : List X) (i : ℕ) (x : X) → slice_get xs i ≡ Some x → slice_get (xs ++ more) i ≡ Some x
get-more [] more i x e = absurd (none-some x e)
get-more (y ∷ ys) more zero x e = e
get-more (y ∷ ys) more (suc i) x e = get-more ys more i x e

pub grown-keeps : (old mid : RegionView) (nodes : ℕ) → mid ≡ record old { rows = old.rows ++ replicate nodes None; spare = old.spare + nodes } → Keeps old mid
grown-keeps old mid nodes e place row at = ap (λ (r : RegionView). slice_get r.rows place) e ∙ get-more old.rows (replicate nodes None) place (Some row) at

-- the rows of a diagram are put into a region that grew, and its page is the last one
pub with-diagram : (limit was kept rest ticket nodes : ℕ) (old mid new : RegionView) (pages now : List PageBody) (d : DdLayers) (places : List Place) (fates : List Fate) (ids : List RowId) (p : PageBody) → IsSound limit was old pages
    → mid ≡ record old { rows = old.rows ++ replicate nodes None; spare = old.spare + nodes } → ids ≡ [] → HasPutRows mid ids (rows_of d.layers) new p.rows
    → p.head ≡ record { ticket = ticket; first = d.first; first_reduced = d.first_reduced } → p.layers ≡ numbered 0 d.layers → p.children ≡ children_of d places fates → now ≡ pages ++ p ∷ []
    → Leaves (limit - was) (words_of old.words d.layers) (Some rest) → kept ≡ limit - rest → HasPage limit kept old new pages (page_of ticket d places fates) now
with-diagram limit was kept rest ticket nodes old mid new pages now d places fates ids p sound grown none putting head layers children is leaves count =
    let put : HasPutRows mid [] (rows_of d.layers) new p.rows = subst (λ (l : List RowId). HasPutRows mid l (rows_of d.layers) new p.rows) none putting in
    let keeps : Keeps old new = λ place row e. put.keeps place row (grown-keeps old mid nodes grown place row e) in
    let long = rows-long d.layers in
    let many = put.many in
    let fresh : IsNewPage new ticket d (children_of d places fates) p = record {
      ticket_is = ap (λ (h : PageHead). h.ticket) head;
      first_is = ap (λ (h : PageHead). h.first) head;
      reduced_is = ap (λ (h : PageHead). h.first_reduced) head;
      layers_are = layers;
      children_are = children;
      many = omega arith;
      holds = put.holds [] tt;
    } in
    with-new limit was kept rest ticket old new pages now d (children_of d places fates) p sound keeps (put.words ∙ ap (λ (r : RegionView). r.words) grown) fresh is leaves count
