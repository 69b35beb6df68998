use Rattle.std.proofs.Common.{◌≡◌, vec_len, vec_capacity}
use Rattle.board_laws.specs.Steps.{empty_slots}
use Rattle.board.proofs.starting.empty_slots.Given as goal

abbrev pub invariant-loop-made : goal.invariant-loop-made
invariant-loop-made l = record {
  slots : l.slots.items ≡ empty_slots l._made;
  many : vec_len l.slots ≡ l._made;
  capacity : vec_capacity l.slots ≡ l.workers;
}
