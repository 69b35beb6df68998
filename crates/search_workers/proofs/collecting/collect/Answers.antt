use Rattle.std.proofs.Common.{◌≡◌, List, sym, ◌∙◌, ap, subst}
use Rattle.dp_model.specs.Laws.{IsLawful, IsChained}
use Rattle.dp_model.specs.Lists.{Each}
use Rattle.dp_laws.specs.Diagrams.Nodes.{DdLayers}
use Rattle.layer_build.specs.Layers.{diagram_of}
use Rattle.cover_pages.specs.Books.{places_of}
use Rattle.cover_pages.specs.Pages.{CanKeep, IsExactPlace}
use Rattle.cover_pages.specs.declared.pages.Place.{Place}
use Rattle.search_workers.proofs.Collected.{can-keep, exact-places}
use Rattle.search_workers.proofs.collecting.collect.Given as given
use Rattle.search_workers.proofs.collecting.collect.Goals as goal

laws_of : (g : given.Over) (m : g.row.M.Denot) → IsLawful (g.M.DpModel.meaning (g.M.DpModel.numbers m))
laws_of g m = (g.met.M.DpModel g.world.𝓛 g.world.𝓜 g.world.𝓡 ((λ s x. x), (λ x. x), (λ x. x), λ x. x)).lawful m

chain_of : (g : given.Over) (m : g.row.M.Denot) → IsChained (g.M.DpModel.meaning (g.M.DpModel.numbers m))
chain_of g m = (g.met.M.DpModel g.world.𝓛 g.world.𝓜 g.world.𝓡 ((λ s x. x), (λ x. x), (λ x. x), λ x. x)).chained m

pub collect-requires-clause-keep : goal.collect-requires-clause-keep
collect-requires-clause-keep g c =
    let dp = g.M.DpModel.meaning (g.M.DpModel.numbers c.args._model.now) in
    subst (λ (d : DdLayers). CanKeep c.args.book.now.words d) (sym c.shown.ensures.shown)
    (subst (λ words. CanKeep words (diagram_of c.args.space.now)) (sym c.requires.book.words)
    (can-keep dp (laws_of g c.args._model.now) (chain_of g c.args._model.now) c.args.space.now.width (diagram_of c.args.space.now) c.requires.holds.relaxed))

pub collect-requires-clause-children : goal.collect-requires-clause-children
collect-requires-clause-children g c =
    let dp = g.M.DpModel.meaning (g.M.DpModel.numbers c.args._model.now) in
    let same : c.as_slice.result.now ≡ places_of c.args.cutset.now.places = c.as_slice.ensures.value ∙ c.in_ok-places.ensures in
    let h = c.requires.holds in
    subst (λ (d : DdLayers). Each (IsExactPlace d) c.as_slice.result.now) (sym c.shown.ensures.shown)
    (subst (λ (ps : List Place). Each (IsExactPlace (diagram_of c.args.space.now)) ps) (sym (same ∙ ap places_of h.places))
    (exact-places dp (laws_of g c.args._model.now) (chain_of g c.args._model.now) c.args.space.now.width (diagram_of c.args.space.now) h.relaxed h.kind))
