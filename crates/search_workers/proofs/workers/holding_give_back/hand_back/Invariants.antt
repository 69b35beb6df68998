use Rattle.std.proofs.Common.{◌≡◌}
use Rattle.turn.specs.Order.{NoLess}
use Rattle.turn.specs.Seats.{seen_of, out_of}
use Rattle.search_workers.specs.Ready.{IsWorker}
use Rattle.search_workers.proofs.workers.holding_give_back.hand_back.Given as goal

abbrev pub invariant-loop : goal.invariant-loop
invariant-loop g l = IsWorker l.turn l.seat × (l.seat.number ≡ l.fn.seat.number) × (out_of l.seat ≡ out_of l.fn.seat) × NoLess (seen_of l.fn.seat) (seen_of l.seat)
