use Rattle.std.proofs.Common.{◌≡◌, Some, ◌∙◌, sym, ap}
use Rattle.std.specs.Prelude.{option_map}
use Rattle.dp_model.specs.Laws.{IsLawful}
use Rattle.dp_model.specs.Subproblem.{SubView}
use Rattle.board_laws.specs.Steps.{root_subproblem}
use Rattle.board.proofs.Roots.{root-cells}
use Rattle.board.proofs.starting.first_open.Given as given
use Rattle.board.proofs.starting.first_open.Goals as goal

laws_of : (g : given.Over) (m : g.row.M.Denot) → IsLawful (g.M.DpModel.meaning (g.M.DpModel.numbers m))
laws_of g m = (g.met.M.DpModel g.world.𝓛 g.world.𝓜 g.world.𝓡 ((λ s x. x), (λ x. x), (λ x. x), λ x. x)).lawful m

pub push-requires-clause-cells : goal.push-requires-clause-cells
push-requires-clause-cells g c =
    let dp = g.M.DpModel.meaning (g.M.DpModel.numbers c.args.model.now) in
    let root : Some c.in-Some.root.subproblem ≡ root_subproblem dp = ap (option_map (λ (r : SubView). r.subproblem)) (sym c.in-Some.is) ∙ c.in_ok-root.ensures.root in
    root-cells dp (laws_of g c.args.model.now) c.in-Some.root.subproblem root ∙ sym (c.in_ok-fringe.ensures.words ∙ c.words-2.ensures)
