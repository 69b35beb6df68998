use Rattle.std.proofs.Common.{◌≡◌}
use Rattle.turn.specs.Order.{NoLess}
use Rattle.turn.specs.Seats.{seen_of}
use Rattle.tests_turn.specs.Work.{IsReadyAtCounter}
use Rattle.tests_turn.proofs.workers.work.Given as goal

abbrev pub invariant-loop : goal.invariant-loop
invariant-loop g l = IsReadyAtCounter l.turn l.seat × (l.seat.number ≡ l.fn.seat.number) × NoLess (seen_of l.fn.seat) (seen_of l.seat)
