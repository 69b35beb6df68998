use Rattle.std.proofs.Common.{◌≡◌, List, length, slice_get, Some, None, sym, ap, ◌∙◌, arith}
use Rattle.cover_pages.specs.Books.{BookView}
use Rattle.cover_pages.specs.Stored.{LayerBody, PageBody}
use Rattle.cover_pages.specs.Readers.{nodes_in}
use Rattle.cover_pages.proofs.Read.{got, not-got, nodes-many, nodes-none}
use Rattle.cover_pages.proofs.book.CoverBook.nodes.Goals as goal

pub returns-in-Some-get : goal.returns-in-Some-get
returns-in-Some-get c =
    let s = c.self.inside in
    let a = c.args in
    let page = c.in-Some.page.now in
    let layer = c.in-Some-get.layer.now in
    let at : slice_get s.pages.items a.page ≡ Some page = ap (λ (xs : List PageBody). slice_get xs a.page) (sym c.deref.ensures.value) ∙ got c.deref.result.now a.page c.in-Some.page c.in-Some.ensures.lookup in
    let below : slice_get page.layers a.layer ≡ Some layer =
    ap (λ (p : PageBody). slice_get p.layers a.layer) (sym c.page.view_is) ∙ (ap (λ (xs : List LayerBody). slice_get xs a.layer) (sym c.deref-2.ensures.value) ∙ got c.deref-2.result.now a.layer c.in-Some-get.layer c.in-Some-get.ensures.lookup) in
    let many = ap (λ (l : LayerBody). length l.nodes) c.layer.view_is ∙ (sym (nodes-many s.limit s.rows s.pages.items a.page a.layer page layer at below) ∙ ap (λ (b : BookView). length (nodes_in b a.page a.layer)) c.self.view_is) in
    let told = c.len.ensures in
    let long = c.layer.inside.nodes.ok.0 in
    omega arith

pub returns-in-None : goal.returns-in-None
returns-in-None c =
    let s = c.self.inside in
    let a = c.args in
    let page = c.in-Some.page.now in
    let at : slice_get s.pages.items a.page ≡ Some page = ap (λ (xs : List PageBody). slice_get xs a.page) (sym c.deref.ensures.value) ∙ got c.deref.result.now a.page c.in-Some.page c.in-Some.ensures.lookup in
    let below : slice_get page.layers a.layer ≡ None =
    ap (λ (p : PageBody). slice_get p.layers a.layer) (sym c.page.view_is) ∙ (ap (λ (xs : List LayerBody). slice_get xs a.layer) (sym c.deref-2.ensures.value) ∙ not-got c.deref-2.result.now a.layer c.in-None.ensures.lookup) in
    sym (nodes-none s.limit s.rows s.pages.items a.page a.layer page at below) ∙ ap (λ (b : BookView). length (nodes_in b a.page a.layer)) c.self.view_is
