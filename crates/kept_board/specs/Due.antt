-- When a snapshot is due.
use Rattle.std.specs.Prelude.{ℕ, nat_eq, nat_le, Bool, true, false, ◌&&◌, length, Option, Some, None}
use Rattle.board_laws.specs.Board.{frontier}
use Rattle.journal_bytes.specs.declared.head.TheConstants.{VERSION}
use Rattle.journal_bytes.specs.declared.tail.Tail.{Tail}
use Rattle.kept_board.specs.View.{KeptView}
use Rattle.kept_board.specs.declared.limits.TheConstants.{MOST_LISTED}

-- whether a journal takes snapshots: one of version 1 does not; in one of a part of a search the records are of version 2, so it does
abbrev pub takes_snapshots : Tail → Bool
takes_snapshots tail = nat_eq tail.version VERSION

-- whether a journal takes snapshots, and this many subproblems were finished since the last one
abbrev pub has_grown : ℕ → Option Tail → Bool
has_grown every None = false
has_grown every (Some tail) = takes_snapshots tail && nat_le every tail.since

-- whether a snapshot is due, which would not list too many
abbrev pub is_due : {D : Type 0} → KeptView D → Bool
is_due k = has_grown k.every k.tail && nat_le (length (frontier k.board.board)) MOST_LISTED
