use Rattle.std.proofs.Common.{◌≡◌, [], length}
use Rattle.std.specs.Vec.Iter.{into_iter_items, into_iter_len}
use Rattle.board_laws.specs.Restoring.{pushed_above}
use Rattle.board.specs.Opened.{ticketed}
use Rattle.board.proofs.Listed.{IsRestoring}
use Rattle.board.proofs.restoring.push_above.Given as goal

abbrev pub invariant-loop-ticket : goal.invariant-loop-ticket
invariant-loop-ticket l = record {
  restoring : IsRestoring (pushed_above l.reach [] (ticketed l.fn.opened.items)) l.reach (ticketed (into_iter_items l.ticket-iterator)) l.fringe.open_ones l.fringe.words l.fringe.spare;
  words : l.fringe.words ≡ l.initial.fringe.words;
  left : into_iter_len l.ticket-iterator ≡ length (into_iter_items l.ticket-iterator);
}
