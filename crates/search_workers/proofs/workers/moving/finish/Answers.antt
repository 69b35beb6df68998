use Rattle.std.proofs.Common.{inr, ap}
use Rattle.std.specs.Prelude.{Err}
use Rattle.board_laws.specs.Board.{BoardState}
use Rattle.board.specs.Contents.{contents}
use Rattle.search_workers.proofs.FinishLater.{may-finish}
use Rattle.search_workers.proofs.Slots.{out_cleared}
use Rattle.search_workers.proofs.Stopping.{why-refused}
use Rattle.search_workers.proofs.workers.moving.finish.Goals as goal

pub finish-requires-clause-may : goal.finish-requires-clause-may
finish-requires-clause-may g c κs within =
    let k = c.args.kept.now in
    may-finish (g.M.DpModel.meaning k.board.numbers) k.board.board c.args.who c.args.threshold (contents c.args.subs.now.items) c.requires.may

pub returns-in-Ok-clause-out : goal.returns-in-Ok-clause-out
returns-in-Ok-clause-out g c = out_cleared c.args.kept.now.board.board c.finish.new.self.board.board c.args.who (ap (λ (b : BoardState). b.slots) c.in-Ok.ensures.step)

pub returns-in-Ok-clause-moves : goal.returns-in-Ok-clause-moves
returns-in-Ok-clause-moves g c = inr c.finish.ensures.moves

pub returns-in-Err-clause-moves : goal.returns-in-Err-clause-moves
returns-in-Err-clause-moves g c = inr c.finish.ensures.moves

pub returns-in-Err-clause-why : goal.returns-in-Err-clause-why
returns-in-Err-clause-why g c =
    let e = c.in-Err.ensures in
    why-refused g.D.Disk c.args.who c.in-Err.error c.args.kept.now c.finish.new.self (λ is. e.rose (ap Err is)) (λ is. (e.journal (ap Err is)).1) (λ is. e.memory (ap Err is))
