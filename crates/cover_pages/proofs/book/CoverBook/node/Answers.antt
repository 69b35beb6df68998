use Rattle.std.proofs.Common.{◌≡◌, ◌+◌, ◌<◌, ℕ, List, length, slice_get, Some, None, get_or, sym, ap, ap₂, ◌∙◌}
use Rattle.row_region.specs.declared.region.RowId.{RowId}
use Rattle.cover_pages.specs.Books.{BookView}
use Rattle.cover_pages.specs.Stored.{NodeBody, LayerBody, PageBody, IsStored, row_in}
use Rattle.cover_pages.specs.Readers.{nodes_in}
use Rattle.cover_pages.proofs.Read.{got, not-got, node-in, node-none, shows-none, shows-node, row-read, id-at, name-there, each-get}
use Rattle.cover_pages.proofs.book.CoverBook.node.Goals as goal

pub returns-in_err-body : goal.returns-in_err-body
returns-in_err-body c =
    let s = c.self.inside in
    let a = c.args in
    let page = c.in_ok-page.page.now in
    let layer = c.in_ok-layer.layer.now in
    let at : slice_get s.pages.items a.page ≡ Some page = ap (λ (xs : List PageBody). slice_get xs a.page) (sym c.deref.ensures.value) ∙ got c.deref.result.now a.page c.in_ok-page.page c.in_ok-page.ensures.lookup in
    let below : slice_get page.layers a.layer ≡ Some layer =
    ap (λ (p : PageBody). slice_get p.layers a.layer) (sym c.page.view_is) ∙ (ap (λ (xs : List LayerBody). slice_get xs a.layer) (sym c.deref-2.ensures.value) ∙ got c.deref-2.result.now a.layer c.in_ok-layer.layer c.in_ok-layer.ensures.lookup) in
    let here : slice_get layer.nodes a.node ≡ None =
    ap (λ (l : LayerBody). slice_get l.nodes a.node) (sym c.layer.view_is) ∙ (ap (λ (xs : List NodeBody). slice_get xs a.node) (sym c.deref-3.ensures.value) ∙ not-got c.deref-3.result.now a.node c.in_err-body.ensures.lookup) in
    shows-none _ c.from_residual-in_err-body.result
    (ap (λ (b : BookView). slice_get (nodes_in b a.page a.layer) a.node) (sym c.self.view_is) ∙ node-none s.limit s.rows s.pages.items a.page a.layer a.node page layer at below here)
    c.from_residual-in_err-body.ensures

pub returns : goal.returns
returns c =
    let s = c.self.inside in
    let a = c.args in
    let page = c.in_ok-page.page.now in
    let layer = c.in_ok-layer.layer.now in
    let body = c.in_ok-body.body.now in
    let at : slice_get s.pages.items a.page ≡ Some page = ap (λ (xs : List PageBody). slice_get xs a.page) (sym c.deref.ensures.value) ∙ got c.deref.result.now a.page c.in_ok-page.page c.in_ok-page.ensures.lookup in
    let below : slice_get page.layers a.layer ≡ Some layer =
    ap (λ (p : PageBody). slice_get p.layers a.layer) (sym c.page.view_is) ∙ (ap (λ (xs : List LayerBody). slice_get xs a.layer) (sym c.deref-2.ensures.value) ∙ got c.deref-2.result.now a.layer c.in_ok-layer.layer c.in_ok-layer.ensures.lookup) in
    let here : slice_get layer.nodes a.node ≡ Some body =
    ap (λ (l : LayerBody). slice_get l.nodes a.node) (sym c.layer.view_is) ∙ (ap (λ (xs : List NodeBody). slice_get xs a.node) (sym c.deref-3.ensures.value) ∙ got c.deref-3.result.now a.node c.in_ok-body.body c.in_ok-body.ensures.lookup) in
    let stored : IsStored s.rows page = each-get (IsStored s.rows) s.pages.items a.page page at c.self.invariant.stored in
    let start = ap (λ (l : LayerBody). l.start) c.layer.view_is in
    let rows = ap (λ (p : PageBody). p.rows) c.page.view_is in
    let k = layer.start + a.node in
    let less : k < length page.rows = name-there s.rows page a.layer layer a.node body below here stored in
    let name : slice_get page.rows k ≡ Some c.index-id.result.now = id-at page.rows k c.index-id.result.now less (c.index-id.ensures ∙ ap₂ (λ (ids : List RowId) (i : ℕ). get_or ids i c.index-id.result.now) rows (ap (λ (n : ℕ). n + a.node) start)) in
    shows-node _ c.row.result.now (row_in s.rows (slice_get page.rows k)) body c.shown.result
    (ap (λ (b : BookView). slice_get (nodes_in b a.page a.layer) a.node) (sym c.self.view_is) ∙ node-in s.limit s.rows s.pages.items a.page a.layer a.node page layer body at below here)
    (row-read s.rows page.rows k c.index-id.result.now c.row.result.now name c.row.ensures.found)
    c.shown.ensures
