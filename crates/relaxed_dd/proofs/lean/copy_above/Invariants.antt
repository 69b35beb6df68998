use Rattle.std.proofs.Common.{◌≡◌, take}
use Rattle.relaxed_dd.specs.Lean.{rows_above}
use Rattle.relaxed_dd.proofs.lean.copy_above.Given as goal

abbrev pub invariant-nodes : goal.invariant-nodes
invariant-nodes l = l.cut ≡ record l.fn.cut { rows = take l.node (rows_above l.space) }
