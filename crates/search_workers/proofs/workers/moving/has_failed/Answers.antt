use Rattle.std.proofs.Common.{Some, ap, sym, ◌∙◌}
use Rattle.board_laws.specs.declared.cause.Cause.{Cause}
use Rattle.board.specs.View.{BoardView}
use Rattle.search_workers.proofs.Stopping.{failed-rose}
use Rattle.search_workers.proofs.workers.moving.has_failed.Goals as goal

pub returns-in-Some-Journal-clause-rose : goal.returns-in-Some-Journal-clause-rose
returns-in-Some-Journal-clause-rose g c = λ _.
    let k = c.args.kept.now in
    let is = sym (ap (λ (v : BoardView). v.board.cause) c.board.ensures.board) ∙ (sym c.cause.ensures ∙ (c.in-Some-Journal.is ∙ ap (λ (cause : Cause). Some cause) c.in-Some-Journal.field-0-is)) in
    failed-rose g.D.Disk (g.M.DpModel.meaning k.board.numbers) k.board.board k.made k.disk k.tail c.board.ensures.kept is
