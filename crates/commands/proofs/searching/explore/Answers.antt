use Rattle.commands.proofs.Kept.{explored}
use Rattle.commands.proofs.searching.explore.Goals as goal

pub returns-in-Ok-clause-explored : goal.returns-in-Ok-clause-explored
returns-in-Ok-clause-explored g c =
    let e = c.in-Ok.ensures in
    let parts = c.into_parts-board.ensures in
    explored g.D.Disk g.M.DpModel.meaning (g.M.DpModel.numbers c.args.model.now) c.args.kept c.in-Ok.kept c.into_parts-board.result.1 c.into_parts-board.result.0 c.requires.numbers e.tag e.moved e.later e.ended e.complete parts.board parts.disk parts.kept
