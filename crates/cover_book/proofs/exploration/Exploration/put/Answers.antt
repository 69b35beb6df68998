use Rattle.std.proofs.Common.{refl, slice_get}
use Rattle.dp_model.specs.Laws.{IsLawful}
use Rattle.cover_book.proofs.Stepping.{one-more, is-there}
use Rattle.cover_book.proofs.exploration.Exploration.put.Given as given
use Rattle.cover_book.proofs.exploration.Exploration.put.Goals as goal

laws_of : (g : given.Over) (m : g.row.M.Denot) → IsLawful (g.M.DpModel.meaning (g.M.DpModel.numbers m))
laws_of g m = (g.met.M.DpModel g.world.𝓛 g.world.𝓜 g.world.𝓡 ((λ s x. x), (λ x. x), (λ x. x), λ x. x)).lawful m

pub returns-clause-under_way : goal.returns-clause-under_way
returns-clause-under_way g c =
    let e = c.args.self.now in
    one-more (g.M.DpModel.meaning (g.M.DpModel.numbers c.args.model.now)) (laws_of g c.args.model.now) e.claim e.next (slice_get e.waiting.items e.next) (g.D.ShownDiagram.layers c.args.diagram.now) e.rows.items c.put_in.new.rows.items e.waiting.items c.put_in.new.waiting.items refl
    (is-there (g.M.DpModel.meaning (g.M.DpModel.numbers c.args.model.now)) e.claim e.waiting.items e.next (g.D.ShownDiagram.layers c.args.diagram.now) c.requires.diagram) c.requires.under_way c.requires.diagram c.in_ok-put_in.ensures.put c.in_ok-put_in.ensures.own
