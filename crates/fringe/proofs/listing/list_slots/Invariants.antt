use Rattle.std.proofs.Common.{◌≡◌, ◌++◌, drop, map}
use Rattle.fringe.specs.Listing.{in_slots, referred}
use Rattle.fringe.proofs.listing.list_slots.Given as goal

abbrev pub invariant-loop-one : goal.invariant-loop-one
invariant-loop-one l = map referred l.list.items ++ in_slots (drop l.one-index l.slots) ≡ in_slots l.slots
