use Rattle.std.proofs.Common.{◌≡◌, ◌++◌}
use Rattle.std.specs.Vec.Iter.{into_iter_items}
use Rattle.board.specs.Opened.{ticketed}
use Rattle.journal_replay.specs.Places.{listed_in}
use Rattle.journal_replay.proofs.state.opened.Given as goal

abbrev pub invariant-loop-place : goal.invariant-loop-place
invariant-loop-place l = ticketed l.opened.items ++ listed_in (into_iter_items l.place-iterator) ≡ listed_in l.fn.places.items
