use Rattle.std.proofs.Common.{◌≡◌, drop}
use Rattle.bound_cover.specs.Walking.{least_after, lesser}
use Rattle.bound_cover.proofs.checks.least_after.Given as goal

abbrev pub invariant-arcs : goal.invariant-arcs
invariant-arcs l = lesser l.least (least_after l.low (drop l.arc-index l.arcs)) ≡ least_after 0 l.arcs
