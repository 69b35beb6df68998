use Rattle.kept_board.specs.Moves.{IsMove}
use Rattle.search_workers.proofs.Moves.{moved_by, moved_then}
use Rattle.search_workers.proofs.rounds.exploring.give_up.Goals as goal

pub returns-in-OutOfMemory-clause-moved : goal.returns-in-OutOfMemory-clause-moved
returns-in-OutOfMemory-clause-moved g c =
    let moves = IsMove g.D.Disk g.M.DpModel.meaning in
    moved_then moves c.args.kept.now c.halt_memory.new.self c.give_back.new.self
    (moved_by moves c.args.kept.now c.halt_memory.new.self 0 (c.halt_memory.ensures.moves 0)) (moved_by moves c.halt_memory.new.self c.give_back.new.self 0 c.give_back.ensures.moves)

pub returns-in-Journal-clause-moved : goal.returns-in-Journal-clause-moved
returns-in-Journal-clause-moved g c = moved_by (IsMove g.D.Disk g.M.DpModel.meaning) c.args.kept.now c.give_back-in-Journal.new.self 0 c.give_back-in-Journal.ensures.moves
