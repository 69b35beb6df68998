use Rattle.std.proofs.Common.{subst, ap, ◌∙◌}
use Rattle.kept_board.specs.Moves.{IsMove}
use Rattle.kept_board.specs.declared.tag.KeptTag.{KeptTag}
use Rattle.search_workers.specs.UnderWay.{HasFinished}
use Rattle.search_workers.proofs.Moves.{moved_then}
use Rattle.search_workers.proofs.Refusing.{on_ok, finished_then}
use Rattle.search_workers.proofs.rounds.exploring.go_on.Goals as goal

pub returns-clause-finished : goal.returns-clause-finished
returns-clause-finished g c =
    let dp = g.M.DpModel.meaning (g.M.DpModel.numbers c.args.model.now) in
    let b = c.branch_on.new.kept.board.board in
    let later = c.finish_one.new.kept.board.board in
    let numbers = ap (λ (t : KeptTag g.row.D.Denot). t.board.numbers) c.branch_on.ensures.tag ∙ c.requires.numbers in
    on_ok c.finish_one.result (λ f. finished_then dp c.args.kept.now.board.board b later c.in_ok-branched.ensures.offered (subst (λ ns. HasFinished (g.M.DpModel.meaning ns) b later) numbers f)) c.finish_one.ensures.finished

pub returns-clause-moved : goal.returns-clause-moved
returns-clause-moved g c = moved_then (IsMove g.D.Disk g.M.DpModel.meaning) c.args.kept.now c.branch_on.new.kept c.finish_one.new.kept c.branch_on.ensures.moved c.finish_one.ensures.moved
