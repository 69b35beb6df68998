use Rattle.std.proofs.Common.{List, Option, sym, ◌∙◌, ap, subst}
use Rattle.dp_model.specs.Laws.{IsLawful, IsChained}
use Rattle.dp_model.specs.Numbers.{OptionAtMost}
use Rattle.dp_model.specs.Solution.{Solution}
use Rattle.dp_model.specs.Subproblem.{Subproblem}
use Rattle.dp_laws.specs.Children.{found_value}
use Rattle.board_laws.specs.Board.{reach}
use Rattle.board_laws.specs.GoodBoard.{IncumbentHolds}
use Rattle.kept_board.specs.declared.tag.KeptTag.{KeptTag}
use Rattle.board.specs.View.{BoardView}
use Rattle.search_workers.specs.Branched.{IsBranched}
use Rattle.search_workers.specs.Offered.{found_solution}
use Rattle.search_workers.proofs.Branches.{shown-solution, relaxed-held, relaxed-branched}
use Rattle.search_workers.proofs.rounds.compiling.relax.Given as given
use Rattle.search_workers.proofs.rounds.compiling.relax.Goals as goal

laws_of : (g : given.Over) (m : g.row.M.Denot) → IsLawful (g.M.DpModel.meaning (g.M.DpModel.numbers m))
laws_of g m = (g.met.M.DpModel g.world.𝓛 g.world.𝓜 g.world.𝓡 ((λ s x. x), (λ x. x), (λ x. x), λ x. x)).lawful m

chain_of : (g : given.Over) (m : g.row.M.Denot) → IsChained (g.M.DpModel.meaning (g.M.DpModel.numbers m))
chain_of g m = (g.met.M.DpModel g.world.𝓛 g.world.𝓜 g.world.𝓡 ((λ s x. x), (λ x. x), (λ x. x), λ x. x)).chained m

pub offer-requires-clause-held : goal.offer-requires-clause-held
offer-requires-clause-held g c κs within =
    let dp = g.M.DpModel.meaning (g.M.DpModel.numbers c.args.model.now) in
    let found = shown-solution _ _ c.found.ensures ∙ c.fill.ensures.found in
    subst (λ ns. IncumbentHolds (g.M.DpModel.meaning ns) (found_solution c.found.result)) (sym c.requires.numbers)
    (subst (λ (f : Option Solution). IncumbentHolds dp f) (sym found)
    (relaxed-held dp (laws_of g c.args.model.now) (chain_of g c.args.model.now) c.args.taken.now.subproblem c.args.space.now.width c.reach-threshold.result c.requires.own c.requires.prepared.width))

pub returns-clause-branched : goal.returns-clause-branched
returns-clause-branched g c =
    let dp = g.M.DpModel.meaning (g.M.DpModel.numbers c.args.model.now) in
    let b = c.offer.new.kept.board.board in
    let t = c.reach-threshold.result in
    let found = shown-solution _ _ c.found.ensures ∙ c.fill.ensures.found in
    let same = c.requires.width ∙ ap (λ (t : KeptTag g.row.D.Denot). t.board.settings.width) (sym c.offer.ensures.tag) in
    subst (λ (cs : List Subproblem). IsBranched dp b c.args.taken.now.subproblem.decisions t cs) (sym c.fill.ensures.subs)
    (relaxed-branched dp (laws_of g c.args.model.now) (chain_of g c.args.model.now) b c.args.taken.now.subproblem c.args.space.now.width t c.args.kind c.requires.own c.requires.prepared.width same
    (subst (λ v. OptionAtMost v (reach b)) (sym (c.reach-threshold.ensures ∙ ap (λ (v : BoardView). reach v.board) c.board.ensures.board)) c.in_ok-offer.ensures.before)
    (subst (λ (f : Option Solution). OptionAtMost (found_value f) (reach b)) found c.in_ok-offer.ensures.found))

pub returns-clause-found : goal.returns-clause-found
returns-clause-found g c =
    subst (λ (f : Option Solution). OptionAtMost (found_value f) (reach c.offer.new.kept.board.board)) (shown-solution _ _ c.found.ensures ∙ c.fill.ensures.found) c.in_ok-offer.ensures.found
