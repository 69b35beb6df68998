use Rattle.std.proofs.Common.{ap, subst}
use Rattle.std.specs.Prelude.{Err}
use Rattle.board_laws.specs.Board.{incumbent_value}
use Rattle.board_laws.specs.GoodBoard.{IsBoard}
use Rattle.board_laws.proofs.Carrying.{reach-above}
use Rattle.board.specs.View.{BoardView}
use Rattle.kept_board.specs.View.{KeptView}
use Rattle.search_workers.proofs.Stopping.{why-refused}
use Rattle.search_workers.proofs.workers.moving.improve.Goals as goal

pub returns-in-Ok-clause-above : goal.returns-in-Ok-clause-above
returns-in-Ok-clause-above g c =
    let b = c.improve.new.self.board.board in
    let kept = subst (λ (v : BoardView). IsBoard (g.M.DpModel.meaning v.numbers) v.board) c.board.ensures.board c.facts.ensures.kept in
    reach-above b.settings.within (incumbent_value b) kept.settings.distance.least

pub returns-in-Err-clause-why : goal.returns-in-Err-clause-why
returns-in-Err-clause-why g c =
    let e = c.in-Err.ensures in
    why-refused g.D.Disk c.args.who c.in-Err.error c.args.kept.now c.improve.new.self (λ is. e.rose (ap Err is)) (λ is. (e.journal (ap Err is)).1)
    (λ is. let same = e.memory (ap Err is) in (ap (λ (k : KeptView g.row.D.Denot). k.board.board) same, ap (λ (k : KeptView g.row.D.Denot). k.disk) same))
