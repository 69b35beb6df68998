use Rattle.std.proofs.Common.{refl}
use Rattle.kept_board.specs.Moves.{IsMove}
use Rattle.search_workers.proofs.LaterBoards.{finished_later, refused_later}
use Rattle.search_workers.proofs.Moves.{moved_then}
use Rattle.search_workers.proofs.Taking.{first_empty}
use Rattle.search_workers.proofs.rounds.exploring.round.Goals as goal

pub returns-in-Ok-clause-moved : goal.returns-in-Ok-clause-moved
returns-in-Ok-clause-moved g c = moved_then (IsMove g.D.Disk g.M.DpModel.meaning) c.args.kept.now c.take_one.new.kept c.go_on.new.kept c.take_one.ensures.moved c.go_on.ensures.moved

pub returns-in-Ok-clause-later : goal.returns-in-Ok-clause-later
returns-in-Ok-clause-later g c =
    let empty = first_empty c.args.kept.now.board.board.slots c.requires.idle c.requires.some in
    finished_later _ _ _ _ _ (c.if-not-take_one.ensures.taken refl) empty c.in-Ok.ensures.finished

pub returns-in-Err-clause-moved : goal.returns-in-Err-clause-moved
returns-in-Err-clause-moved g c =
    let moves = IsMove g.D.Disk g.M.DpModel.meaning in
    moved_then moves c.args.kept.now c.take_one.new.kept c.give_up.new.kept c.take_one.ensures.moved (moved_then moves c.take_one.new.kept c.go_on.new.kept c.give_up.new.kept c.go_on.ensures.moved c.give_up.ensures.moved)

pub returns-in-Err-clause-later : goal.returns-in-Err-clause-later
returns-in-Err-clause-later g c =
    let empty = first_empty c.args.kept.now.board.board.slots c.requires.idle c.requires.some in
    refused_later _ _ _ _ _ _ _ (c.if-not-take_one.ensures.taken refl) empty c.in-Err.ensures.refused c.give_up.ensures.step
