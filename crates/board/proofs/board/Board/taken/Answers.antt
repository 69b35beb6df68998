use Rattle.std.proofs.Common.{◌≡◌, ◌≢◌, ◌<◌, [], None, subst}
use Rattle.dp_model.specs.Counts.{tree}
use Rattle.board_laws.specs.GoodBoard.{IsGood}
use Rattle.board_laws.proofs.Reading.{taken-fewer}
use Rattle.board.specs.View.{BoardView}
use Rattle.board.proofs.board.Board.taken.Goals as goal

pub returns-clause-fewer : goal.returns-clause-fewer
returns-clause-fewer g c =
    subst (λ (v : BoardView). IsGood (g.M.DpModel.meaning v.numbers) v.first → v.board.cause ≡ None → v.board.open_ones ≢ [] → c.self.inside.taken < tree (g.M.DpModel.meaning v.numbers)) c.self.view_is
    (λ first. taken-fewer _ _ c.self.invariant.board (c.self.invariant.good first))
