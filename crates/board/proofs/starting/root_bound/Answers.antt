use Rattle.std.proofs.Common.{◌+ℤ◌, ap, ◌∙◌, Some}
use Rattle.dp_model.specs.Laws.{IsLawful}
use Rattle.dp_model.specs.Numbers.{add_some}
use Rattle.board.proofs.Roots.{root-sum}
use Rattle.board.proofs.starting.root_bound.Given as given
use Rattle.board.proofs.starting.root_bound.Goals as goal

laws_of : (g : given.Over) (m : g.row.M.Denot) → IsLawful (g.M.DpModel.meaning (g.M.DpModel.numbers m))
laws_of g m = (g.met.M.DpModel g.world.𝓛 g.world.𝓜 g.world.𝓡 ((λ s x. x), (λ x. x), (λ x. x), λ x. x)).lawful m

pub overflow_add-result : goal.overflow_add-result
overflow_add-result g c =
    let dp = g.M.DpModel.meaning (g.M.DpModel.numbers c.args.model.now) in
    (root-sum dp (laws_of g c.args.model.now) _ _ c.root_value.ensures (c.in-Some.ensures ∙ ap (dp.rough 0) c.requires)).fits

pub returns : goal.returns
returns g c =
    let dp = g.M.DpModel.meaning (g.M.DpModel.numbers c.args.model.now) in
    let rough = c.in-Some.ensures ∙ ap (dp.rough 0) c.requires in
    let sum = root-sum dp (laws_of g c.args.model.now) _ _ c.root_value.ensures rough in
    ap (λ z. Some z) (sum.is ∙ ap (λ v. v +ℤ c.in-Some.rough) c.root_value.ensures) ∙ ap (add_some dp.root_value) rough
