use Rattle.std.proofs.Common.{◌≡◌, ◌<◌, length, arith, subst, sym, ap}
use Rattle.std.proofs.lemmas.List.Elements.{All-set}
use Rattle.board_laws.specs.GoodBoard.{IsBoard}
use Rattle.kept_board.specs.Moves.{IsMove}
use Rattle.kept_board.specs.declared.tag.KeptTag.{KeptTag}
use Rattle.board.specs.View.{BoardView}
use Rattle.search_workers.specs.Prepared.{IsPreparedDesk}
use Rattle.search_workers.proofs.Histories.{later-then}
use Rattle.search_workers.proofs.Moves.{moved_then}
use Rattle.search_workers.proofs.workers.together.explore_together.Goals as goal

pub explore-requires-clause-prepared : goal.explore-requires-clause-prepared
explore-requires-clause-prepared g c κs within =
    let dp = g.M.DpModel.meaning (g.M.DpModel.numbers c.args.model.now) in
    let desk = c.index_mut.result.now in
    let first = c.args.kept.board.board.settings in
    let tag = c.in-Ok.ensures.tag in
    let width : c.in-Ok.kept.board.board.settings.width ≡ first.width = ap (λ (t : KeptTag g.row.D.Denot). t.board.settings.width) tag in
    let workers : c.in-Ok.kept.board.board.settings.workers ≡ first.workers = ap (λ (t : KeptTag g.row.D.Denot). t.board.settings.workers) tag in
    let desks = c.work_together.new.desks in
    let kept = subst (λ (v : BoardView). IsBoard (g.M.DpModel.meaning v.numbers) v.board) c.board.ensures.board c.facts.ensures.kept in
    let lt : 0 < length desks.items = omega (arith, kept.settings.some_workers, workers, c.requires.workers, c.work_together.ensures.desks, desks.ok.0) in
    subst (λ w. IsPreparedDesk dp w desk) (sym width) (subst (IsPreparedDesk dp first.width) (sym c.index_mut.ensures.value) (c.work_together.ensures.prepared 0 desk lt))

pub returns-in-Ok-clause-moved : goal.returns-in-Ok-clause-moved
returns-in-Ok-clause-moved g c = moved_then (IsMove g.D.Disk g.M.DpModel.meaning) c.args.kept c.in-Ok.kept c.explore.new.kept c.in-Ok.ensures.moved c.explore.ensures.moved

pub returns-in-Ok-clause-later : goal.returns-in-Ok-clause-later
returns-in-Ok-clause-later g c = later-then _ _ c.in-Ok.kept.board.board _ c.in-Ok.ensures.later c.explore.ensures.later

pub returns-in-Ok-clause-prepared : goal.returns-in-Ok-clause-prepared
returns-in-Ok-clause-prepared g c =
    let dp = g.M.DpModel.meaning (g.M.DpModel.numbers c.args.model.now) in
    let first = c.args.kept.board.board.settings in
    let width : c.in-Ok.kept.board.board.settings.width ≡ first.width = ap (λ (t : KeptTag g.row.D.Denot). t.board.settings.width) c.in-Ok.ensures.tag in
    let desk = c.explore.new.desk in
    All-set (IsPreparedDesk dp first.width) c.work_together.new.desks.items 0 desk (subst (λ w. IsPreparedDesk dp w desk) width c.explore.ensures.prepared) c.work_together.ensures.prepared
