-- The seats that a turn was made with are ready for work.
use Rattle.std.proofs.Common.{◌≡◌, ℕ, List, map, length, arith}
use Rattle.std.specs.List.{All, range_with_len}
use Rattle.turn.specs.Seats.{first_of, number_of, IsFresh}
use Rattle.turn.specs.declared.turn.Seat.{Seat}
use Rattle.turn.specs.declared.turn.Turn.{Turn}
use Rattle.turn.proofs.Numbers.{all_within}
use Rattle.tests_turn.specs.Counter.{CounterView}
use Rattle.tests_turn.specs.Work.{IsReadyAtCounter}
use Rattle.tests_turn.specs.declared.counter.Terms.{Terms}

pub ready : (turn : Turn CounterView Terms) (items : List (Seat CounterView)) (n : ℕ) → All (IsFresh turn) items → map number_of items ≡ range_with_len 0 n → length (first_of turn).slots ≡ n → All (IsReadyAtCounter turn) items
ready turn items n fresh numbers wide k d lt =
    let f = fresh k d lt in
    record { own = f.own; nothing_out = f.nothing_out; within = let w = all_within items n numbers k d lt in omega arith }
