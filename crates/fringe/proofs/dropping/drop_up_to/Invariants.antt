use Rattle.std.proofs.Common.{◌≡◌, ℕ, ◌<◌, false, Some, length}
use Rattle.fringe.specs.Tickets.{Ticketed}
use Rattle.fringe.specs.Slots.{in_slot, is_low}
use Rattle.fringe.specs.Stored.{IsFringeStore, HasFewRanks}
use Rattle.fringe.proofs.dropping.drop_up_to.Given as goal

abbrev pub invariant-loop-place : goal.invariant-loop-place
invariant-loop-place l = record {
  stored : IsFringeStore l.store.words l.store.spare l.store.slots.items l.store.keys l.store.ranks l.store.index;
  few : HasFewRanks l.store.slots.items l.store.ranks;
  words : l.store.words ≡ l.initial.store.words;
  spare : l.store.spare ≡ l.initial.store.spare;
  len : length l.store.slots.items ≡ length l.initial.store.slots.items;
  was : (t : ℕ) (o : Ticketed) → in_slot l.store.slots.items t ≡ Some o → in_slot l.initial.store.slots.items t ≡ Some o;
  stays : (t : ℕ) (o : Ticketed) → in_slot l.initial.store.slots.items t ≡ Some o → is_low l.value (Some o) ≡ false → in_slot l.store.slots.items t ≡ Some o;
  high : (t : ℕ) (o : Ticketed) → in_slot l.store.slots.items t ≡ Some o → t < l.place → is_low l.value (Some o) ≡ false;
}
