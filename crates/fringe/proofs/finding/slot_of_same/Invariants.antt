use Rattle.std.proofs.Common.{◌≡◌, ℕ, ◌+◌, ◌<◌, ◌≤◌, false, length}
use Rattle.fringe.specs.Index.{entry_fold, entry_slot}
use Rattle.fringe.specs.Slots.{is_same_in, in_slot}
use Rattle.fringe.proofs.finding.slot_of_same.Given as goal

abbrev pub invariant-loop-at : goal.invariant-loop-at
invariant-loop-at l = record {
  within : l.at ≤ length l.index.nodes;
  fold : (i : ℕ) → l.at ≡ i + 1 → entry_fold l.index.nodes i ≡ l.fold;
  none : (j : ℕ) → l.at ≤ j → j < length l.index.nodes → entry_fold l.index.nodes j ≡ l.fold → is_same_in l.depth l.row (in_slot l.slots (entry_slot l.index.nodes j)) ≡ false;
}

abbrev pub decreases-loop-at : goal.decreases-loop-at
decreases-loop-at l = l.at
