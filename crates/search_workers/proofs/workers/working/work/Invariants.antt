use Rattle.std.proofs.Common.{◌≡◌}
use Rattle.turn.specs.Seats.{first_of}
use Rattle.search_workers.specs.Prepared.{IsPreparedDesk}
use Rattle.search_workers.specs.Ready.{IsReadySeat}
use Rattle.search_workers.proofs.workers.working.work.Given as goal

abbrev pub invariant-loop : goal.invariant-loop
invariant-loop g l =
    IsReadySeat l.turn l.seat × (l.seat.number ≡ l.fn.seat.number)
    × IsPreparedDesk (g.M.DpModel.meaning (g.M.DpModel.numbers l.model)) (first_of l.turn).board.board.settings.width l.desk
