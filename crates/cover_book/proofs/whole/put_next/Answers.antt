use Rattle.std.proofs.Common.{slice_get, sym}
use Rattle.dp_model.specs.Laws.{IsLawful, IsChained}
use Rattle.relaxed_dd.specs.Shown.{layers_of}
use Rattle.cover_book.proofs.Compiled.{diagram-at}
use Rattle.cover_book.proofs.whole.put_next.Given as given
use Rattle.cover_book.proofs.whole.put_next.Goals as goal

laws_of : (g : given.Over) (m : g.row.M.Denot) → IsLawful (g.M.DpModel.meaning (g.M.DpModel.numbers m))
laws_of g m = (g.met.M.DpModel g.world.𝓛 g.world.𝓜 g.world.𝓡 ((λ s x. x), (λ x. x), (λ x. x), λ x. x)).lawful m

chain_of : (g : given.Over) (m : g.row.M.Denot) → IsChained (g.M.DpModel.meaning (g.M.DpModel.numbers m))
chain_of g m = (g.met.M.DpModel g.world.𝓛 g.world.𝓜 g.world.𝓡 ((λ s x. x), (λ x. x), (λ x. x), λ x. x)).chained m

pub put-requires-clause-diagram : goal.put-requires-clause-diagram
put-requires-clause-diagram g c κs within =
    let e = c.args.exploration.now in
    diagram-at (g.M.DpModel.meaning (g.M.DpModel.numbers c.args.model.now)) (laws_of g c.args.model.now) (chain_of g c.args.model.now) e.claim (slice_get e.waiting.items e.next) c.in-Some.sub.now.subproblem c.args.space.now.width (layers_of c.relaxed.result)
    (sym c.in-Some.ensures.next) c.in-Some.ensures.own c.requires.prepared.width.positive c.relaxed.ensures.shown
