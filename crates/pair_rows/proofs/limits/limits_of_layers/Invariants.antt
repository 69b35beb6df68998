use Rattle.std.proofs.Common.{◌≡◌}
use Rattle.pair_rows.specs.Table.{limits_through}
use Rattle.pair_rows.proofs.limits.limits_of_layers.Given as goal

-- the layers so far are those up to the one that is reached
abbrev pub invariant-loop-k : goal.invariant-loop-k
invariant-loop-k l = l.layers.items ≡ limits_through l.units l.pairs l.k
