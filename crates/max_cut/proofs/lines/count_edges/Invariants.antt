use Rattle.std.proofs.Common.{◌≡◌, ◌+◌, ◌≤◌, drop}
use Rattle.max_cut.specs.EdgeLines.{edges_in}
use Rattle.max_cut.proofs.lines.count_edges.Given as goal

-- the edges so far and those of the rest are all edges
abbrev pub invariant-loop-weight : goal.invariant-loop-weight
invariant-loop-weight l = (l.count + edges_in (drop l.weight-index l.weights) ≡ edges_in l.weights) × (l.count ≤ l.weight-index)
