use Rattle.std.proofs.Common.{refl, sym, ◌∙◌, subst}
use Rattle.turn.specs.Seats.{first_of, seen_of}
use Rattle.dp_model.specs.Laws.{IsLawful}
use Rattle.dp_model.specs.Numbers.{OptionAtMost}
use Rattle.board_laws.specs.GoodBoard.{IncumbentHolds}
use Rattle.search_workers.specs.Offered.{found_solution}
use Rattle.search_workers.specs.Seen.{reach_seen}
use Rattle.search_workers.proofs.Branches.{beam-held, beam-value-held, whole-branched-for}
use Rattle.search_workers.proofs.FinishLater.{seen-later}
use Rattle.search_workers.proofs.workers.offering.restrict_one.Given as given
use Rattle.search_workers.proofs.workers.offering.restrict_one.Goals as goal

laws_of : (g : given.Over) (m : g.row.M.Denot) → IsLawful (g.M.DpModel.meaning (g.M.DpModel.numbers m))
laws_of g m = (g.met.M.DpModel g.world.𝓛 g.world.𝓜 g.world.𝓡 ((λ s x. x), (λ x. x), (λ x. x), λ x. x)).lawful m

pub offer_one-requires-clause-held : goal.offer_one-requires-clause-held
offer_one-requires-clause-held g c κs within =
    subst (λ ns. IncumbentHolds (g.M.DpModel.meaning ns) (found_solution c.compile-compiled.result.found)) (sym c.requires.numbers)
    (beam-held _ _ _ _ _ c.requires.own.prefix _ refl c.compile-compiled.ensures.beam)

pub returns-clause-whole : goal.returns-clause-whole
returns-clause-whole g c = λ whole.
    let settings = (first_of c.args.crew.now.turn.now).board.board.settings in
    let reach = reach_seen c.args.crew.now.turn.now c.offer_one.new.seat in
    whole-branched-for _ (laws_of g c.args.crew.now.model.now) settings.width reach _ _ _ _ c.requires.own.prefix (sym whole ∙ c.compile-compiled.ensures.reduced) c.compile-compiled.ensures.beam
    (subst (λ v. OptionAtMost v reach) (sym c.requires.reach) (seen-later settings.within (seen_of c.args.seat.now) (seen_of c.offer_one.new.seat) c.offer_one.ensures.no_less)) c.in_ok-reach.ensures.found

pub returns-clause-beam : goal.returns-clause-beam
returns-clause-beam g c =
    subst (λ v. OptionAtMost v (reach_seen c.args.crew.now.turn.now c.offer_one.new.seat)) (sym (beam-value-held _ c.compile-compiled.result.found c.compile-compiled.ensures.beam)) c.in_ok-reach.ensures.found
