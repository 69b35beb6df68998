use Rattle.std.proofs.Common.{◌≡◌, ◌++◌, ◌+◌, ℕ, length, map, replicate, None, vec_capacity}
use Rattle.fringe.specs.Slots.{in_slot, key_of, opened}
use Rattle.fringe.proofs.growing.push_empty.Given as goal

abbrev pub invariant-slots : goal.invariant-slots
invariant-slots l = record {
  slots : (s : ℕ) → in_slot l.slots.items s ≡ in_slot l.fn.slots.items s;
  keys : map key_of l.slots.items ≡ map key_of l.fn.slots.items ++ replicate l.counter None;
  opened : opened l.slots.items ≡ opened l.fn.slots.items;
  len : length l.slots.items ≡ length l.fn.slots.items + l.counter;
  room : vec_capacity l.slots ≡ vec_capacity l.fn.slots;
}
