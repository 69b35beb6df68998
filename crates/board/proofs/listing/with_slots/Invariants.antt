use Rattle.std.proofs.Common.{◌≡◌, ◌++◌, drop, map}
use Rattle.fringe.specs.Listing.{referred}
use Rattle.board_laws.specs.Board.{full_slots}
use Rattle.board.proofs.listing.with_slots.Given as goal

abbrev pub invariant-loop-slot : goal.invariant-loop-slot
invariant-loop-slot l = map referred l.all.items ++ full_slots (drop l.slot-index l.slots) ≡ map referred l.fn.list.items ++ full_slots l.slots
