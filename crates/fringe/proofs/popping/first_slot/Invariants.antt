use Rattle.std.proofs.Common.{◌≡◌, ◌≤◌}
use Rattle.fringe.specs.Slots.{AreRanked}
use Rattle.fringe.proofs.popping.first_slot.Given as goal

abbrev pub invariant-loop-rank : goal.invariant-loop-rank
invariant-loop-rank l = record {
  ranked : AreRanked l.slots l.ranks.ranks;
  room : l.ranks.room ≡ l.initial.ranks.room;
  len : l.ranks.len ≤ l.initial.ranks.len;
}

abbrev pub decreases-loop-rank : goal.decreases-loop-rank
decreases-loop-rank l = l.ranks.len
