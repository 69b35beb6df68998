use Rattle.std.proofs.Common.{subst}
use Rattle.std.specs.Arc.{arc_value}
use Rattle.dp_model.specs.Laws.{IsLawful}
use Rattle.board_laws.specs.GoodBoard.{IsBoard, IsGood}
use Rattle.board.specs.View.{BoardView}
use Rattle.board.proofs.board.Board.facts.Goals as goal

pub returns-clause-lawful : goal.returns-clause-lawful
returns-clause-lawful g c =
    subst (λ (v : BoardView). IsLawful (g.M.DpModel.meaning v.numbers)) c.self.view_is
    ((g.met.M.DpModel g.world.𝓛 g.world.𝓜 g.world.𝓡 ((λ s x. x), (λ x. x), (λ x. x), λ x. x)).lawful (arc_value c.self.inside.model))

pub returns-clause-kept : goal.returns-clause-kept
returns-clause-kept g c = subst (λ (v : BoardView). IsBoard (g.M.DpModel.meaning v.numbers) v.board) c.self.view_is c.self.invariant.board

pub returns-clause-good : goal.returns-clause-good
returns-clause-good g c = subst (λ (v : BoardView). IsGood (g.M.DpModel.meaning v.numbers) v.first → IsGood (g.M.DpModel.meaning v.numbers) v.board) c.self.view_is c.self.invariant.good
