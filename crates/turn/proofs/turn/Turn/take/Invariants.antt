use Rattle.std.proofs.Common.{◌≡◌}
use Rattle.turn.proofs.turn.Turn.take.Given as goal

abbrev pub invariant-loop : goal.invariant-loop
invariant-loop g l =
    (l.seat.place.table_id ≡ l.initial.seat.place.table_id) × (l.seat.place.me ≡ l.initial.seat.place.me) × (l.seat.number ≡ l.initial.seat.number)
