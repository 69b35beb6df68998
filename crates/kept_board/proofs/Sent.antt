-- A kept board may cross threads where its model and its disk may.
use denote.RattleType.{RattleType}
use denote.Param.Send.{IsSend, IsSync, sendable}
use Rattle.std.proofs.Crossing.{crosses}
use Rattle.disk.specs.declared.disk.Disk as disks
use Rattle.dominance_table.specs.contracts.table.Table as Table
use Rattle.dp_model.specs.declared.model.DpModel as models
use Rattle.board.specs.contracts.board.Board as Board
use Rattle.board.specs.contracts.first.FirstBoard as First
use Rattle.fringe.specs.contracts.fringe.Fringe as Fringe
use Rattle.fringe.specs.contracts.index.Index as Index
use Rattle.kept_board.specs.contracts.kept.Kept as Kept

index_send : IsSend Index.the_row
index_send = search (sendable, crosses) depth 40 fits 4000

pub fringe_send : IsSend Fringe.the_row
fringe_send = let i = index_send in search (sendable, crosses) depth 40 fits 4000

pub table_send : IsSend Table.the_row
table_send = search (sendable, crosses) depth 40 fits 4000

pub first_send : IsSend First.the_row
first_send = search (sendable, crosses) depth 40 fits 4000

pub board_send : (M : RattleType) (m : models.Ghosts M.Denot) → IsSend M → IsSync M → IsSend (Board.the_row M m)
board_send M m s y = search (sendable, crosses, fringe_send, table_send, first_send) depth 40 fits 4000

pub kept_send : (M D : RattleType) (m : models.Ghosts M.Denot) (d : disks.Ghosts D.Denot) → IsSend M → IsSync M → IsSend D → IsSend (Kept.the_row M D m d)
kept_send M D m d s y sd = search (sendable, crosses, board_send) depth 40 fits 4000
