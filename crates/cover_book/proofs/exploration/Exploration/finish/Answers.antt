use Rattle.std.proofs.Common.{List, ◌∙◌, ap}
use Rattle.bound_cover.specs.Covers.{CoverRow}
use Rattle.bound_cover.specs.Clamping.{clamped_layers}
use Rattle.dp_model.specs.Laws.{IsLawful}
use Rattle.cover_book.proofs.Stepping.{passes-last, passes-best, writes}
use Rattle.cover_book.proofs.exploration.Exploration.finish.Given as given
use Rattle.cover_book.proofs.exploration.Exploration.finish.Goals as goal

laws_of : (g : given.Over) (m : g.row.M.Denot) → IsLawful (g.M.DpModel.meaning (g.M.DpModel.numbers m))
laws_of g m = (g.met.M.DpModel g.world.𝓛 g.world.𝓜 g.world.𝓡 ((λ s x. x), (λ x. x), (λ x. x), λ x. x)).lawful m

pub returns-clause-passes : goal.returns-clause-passes
returns-clause-passes g c =
    let e = c.args.self.now in
    passes-last (g.M.DpModel.meaning (g.M.DpModel.numbers c.args.model.now)) (laws_of g c.args.model.now) e.claim e.next e.rows.items c.in_ok-cover.cover e.waiting.items c.requires.under_way c.requires.done
    (c.in_ok-cover.ensures ∙ ap (λ (l : List (List CoverRow)). clamped_layers (g.M.DpModel.meaning (g.M.DpModel.numbers c.args.model.now)) 0 l) c.as_slice.ensures.value)

pub returns-clause-best : goal.returns-clause-best
returns-clause-best g c =
    let e = c.args.self.now in
    passes-best (g.M.DpModel.meaning (g.M.DpModel.numbers c.args.model.now)) (laws_of g c.args.model.now) e.claim e.next e.rows.items c.in_ok-cover.cover e.waiting.items c.requires.under_way c.requires.done
    (c.in_ok-cover.ensures ∙ ap (λ (l : List (List CoverRow)). clamped_layers (g.M.DpModel.meaning (g.M.DpModel.numbers c.args.model.now)) 0 l) c.as_slice.ensures.value)

pub returns-clause-writable : goal.returns-clause-writable
returns-clause-writable g c =
    writes (g.M.DpModel.meaning (g.M.DpModel.numbers c.args.model.now)) (laws_of g c.args.model.now) c.args.self.now.rows.items c.in_ok-cover.cover c.requires.under_way.long
    (c.in_ok-cover.ensures ∙ ap (λ (l : List (List CoverRow)). clamped_layers (g.M.DpModel.meaning (g.M.DpModel.numbers c.args.model.now)) 0 l) c.as_slice.ensures.value)
