use Rattle.std.proofs.Common.{◌≡◌, ◌≢◌, ◌-◌, ℕ, zero, suc, List, [], ◌∷◌, ◌++◌, Option, Some, ap, ap₂, subst, refl, ◌∙◌, arith}
use Rattle.relaxed_dd.specs.Shown.{layers_of}
use Rattle.cover_pages.specs.declared.pages.PageHead.{PageHead}
use Rattle.cover_pages.specs.declared.pages.Collected.{Collected}
use Rattle.cover_pages.specs.declared.pages.Collected.TheVariants.{Kept, Left}
use Rattle.cover_pages.specs.Books.{BookView, with_page}
use Rattle.cover_pages.specs.Pages.{page_of}
use Rattle.cover_pages.specs.Sizes.{Leaves, words_of}
use Rattle.cover_pages.specs.Stored.{PageBody}
use Rattle.cover_pages.proofs.Shown.{may-keep, with-diagram}
use Rattle.cover_pages.proofs.book.CoverBook.collect.Goals as goal

abbrev number : Collected → ℕ
number Kept = zero
number Left = suc zero

kept-not-left : Kept ≢ Left
kept-not-left e = let same : zero ≡ suc zero = ap number e in omega arith

pub invariant_of-self-2 : goal.invariant_of-self-2
invariant_of-self-2 c =
    let s = c.self.inside in
    let a = c.args in
    let d = layers_of a.diagram.now in
    let left = s.limit - s.kept in
    let p : PageBody = record {
      head = record { ticket = a.ticket; first = c.first_depth.result; first_reduced = c.first_reduced.result };
      layers = c.in_ok-made.made.layers.items;
      children = c.in_ok-make_children.field-0.items;
      rows = c.put_layers.new.ids.items;
    } in
    let head = ap₂ (λ (first : ℕ) (reduced : Option ℕ). (let h : PageHead = record { ticket = a.ticket; first = first; first_reduced = reduced } in h)) c.first_depth.ensures c.first_reduced.ensures in
    let leaves = subst (λ (words : ℕ). Leaves left (words_of words d.layers) (Some c.in-Some.rest)) c.words.ensures.words c.in-Some.ensures in
    let last = c.push_reserved.ensures.items ∙ ap (λ (ps : List PageBody). ps ++ p ∷ []) c.in_ok-reserve.ensures.items in
    (with-diagram s.limit s.kept _ c.in-Some.rest a.ticket _ s.rows c.grow.new.self c.put_layers.new.region s.pages.items c.push_reserved.new.self.items d a.children.now a.fates.now _ p
    c.self.invariant c.in_ok-grow.ensures.ok c.in_ok-with_capacity.ensures.items c.put_layers.ensures.put head c.in_ok-made.ensures.layers c.in_ok-make_children.ensures last leaves refl).sound

pub returns-clause-left : goal.returns-clause-left
returns-clause-left c =
    let s = c.self.inside in
    let a = c.args in
    let d = layers_of a.diagram.now in
    let leaves = subst (λ (words : ℕ). Leaves (s.limit - s.kept) (words_of words d.layers) (Some c.in-Some.rest)) c.words.ensures.words c.in-Some.ensures in
    ((λ e. absurd (kept-not-left e)), λ less. absurd (may-keep s.limit s.kept c.in-Some.rest a.ticket s.rows s.pages.items a.self.now d a.children.now a.fates.now c.self.invariant c.self.view_is leaves less))

pub returns-clause-kept : goal.returns-clause-kept
returns-clause-kept c kept =
    let s = c.self.inside in
    let a = c.args in
    let d = layers_of a.diagram.now in
    let left = s.limit - s.kept in
    let p : PageBody = record {
      head = record { ticket = a.ticket; first = c.first_depth.result; first_reduced = c.first_reduced.result };
      layers = c.in_ok-made.made.layers.items;
      children = c.in_ok-make_children.field-0.items;
      rows = c.put_layers.new.ids.items;
    } in
    let head = ap₂ (λ (first : ℕ) (reduced : Option ℕ). (let h : PageHead = record { ticket = a.ticket; first = first; first_reduced = reduced } in h)) c.first_depth.ensures c.first_reduced.ensures in
    let leaves = subst (λ (words : ℕ). Leaves left (words_of words d.layers) (Some c.in-Some.rest)) c.words.ensures.words c.in-Some.ensures in
    let last = c.push_reserved.ensures.items ∙ ap (λ (ps : List PageBody). ps ++ p ∷ []) c.in_ok-reserve.ensures.items in
    let there = with-diagram s.limit s.kept (s.limit - c.in-Some.rest) c.in-Some.rest a.ticket _ s.rows c.grow.new.self c.put_layers.new.region s.pages.items c.push_reserved.new.self.items d a.children.now a.fates.now _ p
    c.self.invariant c.in_ok-grow.ensures.ok c.in_ok-with_capacity.ensures.items c.put_layers.ensures.put head c.in_ok-made.ensures.layers c.in_ok-make_children.ensures last leaves refl in
    there.seen ∙ ap (λ (b : BookView). with_page b (page_of a.ticket d a.children.now a.fates.now)) c.self.view_is
