-- What a worker asks of its seat.
use Rattle.std.specs.Prelude.{◌≡◌, ◌<◌, length, None}
use Rattle.turn.specs.declared.turn.Seat.{Seat}
use Rattle.turn.specs.declared.turn.Turn.{Turn}
use Rattle.turn.specs.Seats.{first_of, out_of, IsSeatOf}
use Rattle.tests_turn.specs.Counter.{CounterView}
use Rattle.tests_turn.specs.declared.counter.Terms.{Terms}

-- the seat is one of the turn's, its number is one of the counter's workers, and it has nothing out
pub record IsReadyAtCounter (turn : Turn CounterView Terms) (seat : Seat CounterView) : Type 0 where
  pub own : IsSeatOf turn seat
  pub nothing_out : out_of seat ≡ None
  pub within : seat.number < length (first_of turn).slots
