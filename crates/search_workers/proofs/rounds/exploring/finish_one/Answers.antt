use Rattle.std.proofs.Common.{refl}
use Rattle.board_laws.specs.Fates.{fates_on}
use Rattle.kept_board.specs.Moves.{IsMove}
use Rattle.board.specs.Contents.{contents}
use Rattle.search_workers.proofs.Finishing.{may_finish}
use Rattle.search_workers.proofs.Moves.{moved_by}
use Rattle.search_workers.proofs.Refusing.{on_ok, finished_one}
use Rattle.search_workers.proofs.rounds.exploring.finish_one.Goals as goal

pub returns-clause-finished : goal.returns-clause-finished
returns-clause-finished g c =
    let dp = g.M.DpModel.meaning c.args.kept.now.board.numbers in
    let b = c.args.kept.now.board.board in
    let t = c.args.branched.threshold in
    let cs = contents c.args.branched.children.items in
    let may = may_finish dp b c.args.desk.now.taken.subproblem t cs (fates_on dp b cs) c.requires.out c.requires.branched refl in
    on_ok c.finish-finished.result (λ step. finished_one dp b c.finish-finished.new.self.board.board t cs may step) c.finish-finished.ensures.step

pub returns-clause-moved : goal.returns-clause-moved
returns-clause-moved g c = moved_by (IsMove g.D.Disk g.M.DpModel.meaning) c.args.kept.now c.finish-finished.new.self 0 c.finish-finished.ensures.moves
