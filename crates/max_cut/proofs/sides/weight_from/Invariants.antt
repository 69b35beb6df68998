use Rattle.std.proofs.Common.{◌≡◌, ◌+ℤ◌, drop}
use Rattle.max_cut.specs.Cuts.{across_from}
use Rattle.max_cut.proofs.sides.weight_from.Given as goal

-- the weight so far and that of the rest make the weight
abbrev pub invariant-loop-i : goal.invariant-loop-i
invariant-loop-i l = l.total +ℤ across_from l.side (drop l.i l.row) (drop l.i l.later) ≡ across_from l.side l.row l.later
