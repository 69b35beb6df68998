use Rattle.std.proofs.Common.{refl, sym, ◌∙◌, ap, subst}
use Rattle.dp_model.specs.Laws.{IsLawful}
use Rattle.dp_model.specs.Numbers.{OptionAtMost}
use Rattle.board_laws.specs.Board.{reach}
use Rattle.board_laws.specs.GoodBoard.{IncumbentHolds}
use Rattle.board.specs.View.{BoardView}
use Rattle.search_workers.specs.Offered.{found_solution}
use Rattle.search_workers.proofs.Branches.{beam-held, beam-value-held, whole-branched}
use Rattle.search_workers.proofs.rounds.compiling.restrict.Given as given
use Rattle.search_workers.proofs.rounds.compiling.restrict.Goals as goal

laws_of : (g : given.Over) (m : g.row.M.Denot) → IsLawful (g.M.DpModel.meaning (g.M.DpModel.numbers m))
laws_of g m = (g.met.M.DpModel g.world.𝓛 g.world.𝓜 g.world.𝓡 ((λ s x. x), (λ x. x), (λ x. x), λ x. x)).lawful m

pub offer-requires-clause-held : goal.offer-requires-clause-held
offer-requires-clause-held g c κs within =
    subst (λ ns. IncumbentHolds (g.M.DpModel.meaning ns) (found_solution c.compile-compiled.result.found)) (sym c.requires.numbers)
    (beam-held _ _ _ _ _ c.requires.own.prefix _ refl c.compile-compiled.ensures.beam)

pub returns-clause-whole : goal.returns-clause-whole
returns-clause-whole g c = λ whole.
    whole-branched _ (laws_of g c.args.model.now) c.offer.new.kept.board.board _ _ _ _ c.requires.own.prefix (sym whole ∙ c.compile-compiled.ensures.reduced) c.compile-compiled.ensures.beam
    (subst (λ v. OptionAtMost v (reach c.offer.new.kept.board.board)) (sym (c.reach-threshold.ensures ∙ ap (λ (v : BoardView). reach v.board) c.board.ensures.board)) c.in_ok-offer.ensures.before)
    c.in_ok-offer.ensures.found

pub returns-clause-beam : goal.returns-clause-beam
returns-clause-beam g c =
    subst (λ v. OptionAtMost v (reach c.offer.new.kept.board.board)) (sym (beam-value-held _ c.compile-compiled.result.found c.compile-compiled.ensures.beam)) c.in_ok-offer.ensures.found
