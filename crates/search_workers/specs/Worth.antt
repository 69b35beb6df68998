-- Which snapshots are worth their bytes.
use Rattle.std.specs.Prelude.{◌/◌, nat_le, Bool, ◌||◌, length, unwrap_or}
use Rattle.board_laws.specs.Board.{frontier}
use Rattle.kept_board.specs.View.{KeptView, since_of}
use Rattle.search_workers.specs.declared.workers.worth.TheConstants.{ALWAYS_LISTED, FINISHED_FOR_EACH}

-- whether a snapshot lists few subproblems, or this many were finished for each of them since the last one
abbrev pub is_worth : {D : Type 0} → KeptView D → Bool
is_worth k =
    nat_le (length (frontier k.board.board)) ALWAYS_LISTED
    || nat_le (length (frontier k.board.board)) (unwrap_or (since_of k.tail) 0 / FINISHED_FOR_EACH)
