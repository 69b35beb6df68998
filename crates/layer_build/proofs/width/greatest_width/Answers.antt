use Rattle.dp_model.specs.Laws.{IsLawful}
use Rattle.dp_laws.proofs.Widths.{widths-fit}
use Rattle.layer_build.proofs.width.greatest_width.Given as given
use Rattle.layer_build.proofs.width.greatest_width.Goals as goal

laws_of : (g : given.Over) (m : g.row.M.Denot) → IsLawful (g.M.DpModel.meaning (g.M.DpModel.numbers m))
laws_of g m = (g.met.M.DpModel g.world.𝓛 g.world.𝓜 g.world.𝓡 ((λ s x. x), (λ x. x), (λ x. x), λ x. x)).lawful m

pub returns-clause-some : goal.returns-clause-some
returns-clause-some g c =
    let dp = g.M.DpModel.meaning (g.M.DpModel.numbers c.args.model.now) in
    widths-fit dp (laws_of g c.args.model.now) c.width_within.result c.width_within.ensures
