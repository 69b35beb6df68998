use Rattle.dp_model.specs.Laws.{IsLawful}
use Rattle.cover_book.proofs.Stepping.{starts}
use Rattle.cover_book.proofs.exploration.Exploration.start.Given as given
use Rattle.cover_book.proofs.exploration.Exploration.start.Goals as goal

laws_of : (g : given.Over) (m : g.row.M.Denot) → IsLawful (g.M.DpModel.meaning (g.M.DpModel.numbers m))
laws_of g m = (g.met.M.DpModel g.world.𝓛 g.world.𝓜 g.world.𝓡 ((λ s x. x), (λ x. x), (λ x. x), λ x. x)).lawful m

pub returns-clause-under_way : goal.returns-clause-under_way
returns-clause-under_way g c = starts (g.M.DpModel.meaning (g.M.DpModel.numbers c.args.model.now)) (laws_of g c.args.model.now) c.args.claim c.in_ok-rows.rows.items c.in_ok-waiting.waiting.items c.in_ok-rows.ensures c.in_ok-waiting.ensures.waiting c.in_ok-waiting.ensures.own
