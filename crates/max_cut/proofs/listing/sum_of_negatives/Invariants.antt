use Rattle.std.proofs.Common.{◌≡◌, pos, ◌+ℤ◌, ◌≤ℤ◌, drop}
use Rattle.max_cut.specs.Graph.{negatives_of}
use Rattle.max_cut.proofs.listing.sum_of_negatives.Given as goal

-- the negatives so far and those of the rest make the sum
abbrev pub invariant-loop-weight : goal.invariant-loop-weight
invariant-loop-weight l =
    (l.total +ℤ negatives_of (drop l.weight-index l.weights) ≡ negatives_of l.weights) × (l.total ≤ℤ pos 0)
