use Rattle.std.proofs.Common.{◌≡◌, ◌≤◌, length, filter}
use Rattle.dp_model.specs.Decisions.{below}
use Rattle.frontier_parts.specs.Dealing.{goes_first}
use Rattle.frontier_parts.proofs.dealing.turn_of.Given as goal

abbrev pub invariant-loop-other : goal.invariant-loop-other
invariant-loop-other l = record {
  count : l.before ≡ length (filter (goes_first l.bounds l.place) (below l.other));
  within : l.before ≤ l.other;
}
