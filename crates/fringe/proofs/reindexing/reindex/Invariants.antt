use Rattle.std.proofs.Common.{◌≡◌, ◌≤◌, ◌<◌, ℕ, Some, length}
use Rattle.fringe.specs.Tickets.{Ticketed}
use Rattle.fringe.specs.Slots.{IsIndexed, in_slot, own_fold}
use Rattle.fringe.proofs.reindexing.reindex.Given as goal

-- each open one of the slots so far was entered
abbrev pub invariant-loop-slot : goal.invariant-loop-slot
invariant-loop-slot l = record {
  room : l.initial.index.room ≤ l.index.room;
  len : length l.index.nodes ≤ l.slot;
  entered : (s : ℕ) (o : Ticketed) → s < l.slot → in_slot l.slots s ≡ Some o → IsIndexed l.index.nodes s (own_fold o);
}
