use Rattle.std.proofs.Common.{◌≡◌, drop, None}
use Rattle.fringe.proofs.Greatest.{raised_slots}
use Rattle.fringe.proofs.bounding.best_of.Given as goal

abbrev pub invariant-loop-one : goal.invariant-loop-one
invariant-loop-one l = raised_slots l.most (drop l.one-index l.slots) ≡ raised_slots None l.slots
