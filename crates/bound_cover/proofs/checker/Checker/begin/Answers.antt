use Rattle.std.proofs.Common.{sym, ◌∙◌}
use Rattle.dp_model.specs.Laws.{IsLawful}
use Rattle.bound_cover.proofs.Sound.{reported-far}
use Rattle.bound_cover.proofs.checker.Checker.begin.Given as given
use Rattle.bound_cover.proofs.checker.Checker.begin.Goals as goal

laws_of : (g : given.Over) (m : g.row.M.Denot) → IsLawful (g.M.DpModel.meaning (g.M.DpModel.numbers m))
laws_of g m = (g.met.M.DpModel g.world.𝓛 g.world.𝓜 g.world.𝓡 ((λ s x. x), (λ x. x), (λ x. x), λ x. x)).lawful m

pub claim_of-claim-requires-clause-value : goal.claim_of-claim-requires-clause-value
claim_of-claim-requires-clause-value g c =
    reported-far (g.M.DpModel.meaning (g.M.DpModel.numbers c.args.model.now)) (laws_of g c.args.model.now) c.args.reported.best c.args.reported.assignment.now (sym c.solution_fault-why.ensures ∙ c.in-None.is)
