-- What a seat has seen.
use Rattle.std.specs.Prelude.{ℤ, Option}
use Rattle.turn.specs.declared.turn.Seat.{Seat}
use Rattle.turn.specs.declared.turn.Turn.{Turn}
use Rattle.turn.specs.Seats.{first_of, seen_of}
use Rattle.board_laws.specs.Board.{reach_of}
use Rattle.kept_board.specs.View.{KeptView}
use Rattle.kept_board.specs.declared.tag.KeptTag.{KeptTag}

-- the reach by the incumbent's value that the seat has seen: whatever is at most that is left out of the search
abbrev pub reach_seen : {D : Type 0} → Turn (KeptView D) (KeptTag D) → Seat (KeptView D) → Option ℤ
reach_seen turn seat = reach_of (first_of turn).board.board.settings.within (seen_of seat)
