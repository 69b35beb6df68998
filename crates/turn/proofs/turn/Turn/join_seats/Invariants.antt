use Rattle.std.proofs.Common.{length}
use Rattle.turn.specs.Seats.{IsJoining}
use Rattle.turn.proofs.turn.Turn.join_seats.Given as goal

abbrev pub invariant-loop-seat : goal.invariant-loop-seat
invariant-loop-seat g l = IsJoining l.self l.one l.seats.items l.fn.seats.items

abbrev pub decreases-loop-seat : goal.decreases-loop-seat
decreases-loop-seat g l = length l.seats.items
