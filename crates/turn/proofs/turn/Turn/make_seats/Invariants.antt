use Rattle.std.proofs.Common.{◌≡◌, ◌-◌, ◌<◌, map, vec_len}
use Rattle.std.specs.List.{All, range_with_len}
use Rattle.std.specs.Prelude.{◌≤◌, vec_capacity}
use Rattle.turn.specs.Seats.{number_of, IsFresh, IsMaker}
use Rattle.turn.proofs.turn.Turn.make_seats.Given as goal

abbrev pub invariant-loop-number : goal.invariant-loop-number
invariant-loop-number g l =
    (l.number < l.seats) × (vec_len l.made ≡ l.number) × (l.seats ≤ vec_capacity l.made)
    × IsMaker l.self l.place l.number l.seats × (map number_of l.made.items ≡ range_with_len 0 l.number) × All (IsFresh l.self) l.made.items

abbrev pub decreases-loop-number : goal.decreases-loop-number
decreases-loop-number g l = l.seats - l.number
