use Rattle.std.proofs.Common.{List, Option, sym, ◌∙◌, subst}
use Rattle.turn.specs.Seats.{first_of, seen_of}
use Rattle.dp_model.specs.Laws.{IsLawful, IsChained}
use Rattle.dp_model.specs.Numbers.{OptionAtMost}
use Rattle.dp_model.specs.Solution.{Solution}
use Rattle.dp_model.specs.Subproblem.{Subproblem}
use Rattle.dp_laws.specs.Children.{found_value}
use Rattle.board_laws.specs.GoodBoard.{IncumbentHolds}
use Rattle.search_workers.specs.Branched.{AreBranched}
use Rattle.search_workers.specs.Offered.{found_solution}
use Rattle.search_workers.specs.Seen.{reach_seen}
use Rattle.search_workers.proofs.Branches.{shown-solution, relaxed-held, relaxed-branched-for}
use Rattle.search_workers.proofs.FinishLater.{seen-later}
use Rattle.search_workers.proofs.workers.offering.relax_one.Given as given
use Rattle.search_workers.proofs.workers.offering.relax_one.Goals as goal

laws_of : (g : given.Over) (m : g.row.M.Denot) → IsLawful (g.M.DpModel.meaning (g.M.DpModel.numbers m))
laws_of g m = (g.met.M.DpModel g.world.𝓛 g.world.𝓜 g.world.𝓡 ((λ s x. x), (λ x. x), (λ x. x), λ x. x)).lawful m

chain_of : (g : given.Over) (m : g.row.M.Denot) → IsChained (g.M.DpModel.meaning (g.M.DpModel.numbers m))
chain_of g m = (g.met.M.DpModel g.world.𝓛 g.world.𝓜 g.world.𝓡 ((λ s x. x), (λ x. x), (λ x. x), λ x. x)).chained m

pub offer_one-requires-clause-held : goal.offer_one-requires-clause-held
offer_one-requires-clause-held g c κs within =
    let dp = g.M.DpModel.meaning (g.M.DpModel.numbers c.args.crew.now.model.now) in
    let found = shown-solution _ _ c.found.ensures ∙ c.fill_desk.ensures.found in
    subst (λ ns. IncumbentHolds (g.M.DpModel.meaning ns) (found_solution c.found.result)) (sym c.requires.numbers)
    (subst (λ (f : Option Solution). IncumbentHolds dp f) (sym found)
    (relaxed-held dp (laws_of g c.args.crew.now.model.now) (chain_of g c.args.crew.now.model.now) c.args.desk.now.taken.subproblem c.args.desk.now.space.width c.args.reach c.requires.own c.requires.room.space.width))

pub returns-clause-branched : goal.returns-clause-branched
returns-clause-branched g c =
    let dp = g.M.DpModel.meaning (g.M.DpModel.numbers c.args.crew.now.model.now) in
    let settings = (first_of c.args.crew.now.turn.now).board.board.settings in
    let reach = reach_seen c.args.crew.now.turn.now c.offer_one.new.seat in
    let found = shown-solution _ _ c.found.ensures ∙ c.fill_desk.ensures.found in
    subst (λ (cs : List Subproblem). AreBranched dp settings.width reach c.args.desk.now.taken.subproblem.decisions c.args.reach cs) (sym c.fill_desk.ensures.subs)
    (relaxed-branched-for dp (laws_of g c.args.crew.now.model.now) (chain_of g c.args.crew.now.model.now) settings.width reach c.args.desk.now.taken.subproblem c.args.desk.now.space.width c.args.reach c.args.desk.now.kind c.requires.own
    c.requires.room.space.width c.requires.room.width
    (subst (λ v. OptionAtMost v reach) (sym c.requires.reach) (seen-later settings.within (seen_of c.args.seat.now) (seen_of c.offer_one.new.seat) c.offer_one.ensures.no_less))
    (subst (λ (f : Option Solution). OptionAtMost (found_value f) reach) found c.in_ok-offer_one.ensures.found))

pub returns-clause-found : goal.returns-clause-found
returns-clause-found g c =
    subst (λ (f : Option Solution). OptionAtMost (found_value f) (reach_seen c.args.crew.now.turn.now c.offer_one.new.seat)) (shown-solution _ _ c.found.ensures ∙ c.fill_desk.ensures.found) c.in_ok-offer_one.ensures.found
