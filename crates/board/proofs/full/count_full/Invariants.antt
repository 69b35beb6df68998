use Rattle.std.proofs.Common.{◌≡◌, ◌+◌, ◌≤◌, length, drop}
use Rattle.board_laws.specs.Board.{full_slots}
use Rattle.board.proofs.full.count_full.Given as goal

abbrev pub invariant-loop-slot : goal.invariant-loop-slot
invariant-loop-slot l = record {
  counted : l.count + length (full_slots (drop l.slot-index l.slots)) ≡ length (full_slots l.slots);
  few : l.count ≤ l.slot-index;
}
