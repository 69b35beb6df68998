-- The seats of a turn, and the turn, may cross threads where its value may.
use denote.RattleType.{RattleType}
use denote.Param.Send.{IsSend, IsSync, sendable}
use Rattle.std.proofs.Crossing.{crosses}
use Rattle.std.specs.contracts.option.Option as Option
use Rattle.atomic_table.proofs.shared.Seat.TheSendSync as place
use Rattle.atomic_table.proofs.shared.Shared.TheSendSync as shared
use Rattle.atomic_table.proofs.send_lease.SendLease.TheSendSync as lease
use Rattle.turn.specs.declared.turned.Turned as turned
use Rattle.turn.specs.contracts.turn.Seat as Seat
use Rattle.turn.specs.contracts.turn.Turn as Turn

pub seat_send : (V : RattleType) → IsSend V → IsSend (Seat.the_row V)
seat_send V s = search (sendable, crosses, place.the_send) depth 40 fits 4000

option_send : (V : RattleType) → IsSend V → IsSend (Option.the_row V)
option_send V s = search (sendable, crosses) depth 40 fits 4000

pub turn_sync : (V T : RattleType) (t : turned.Ghosts V.Denot T.Denot) → IsSend V → IsSync (Turn.the_row V T t)
turn_sync V T t s =
    let o = option_send V s in
    search (sendable, crosses, shared.the_sync, option_send, lease.the_sync) depth 40 fits 4000
