use Rattle.std.proofs.Common.{◌≡◌, drop}
use Rattle.pair_rows.specs.Program.{all_zero}
use Rattle.pair_rows.proofs.row.is_zero_row.Given as goal

-- the rest decides
abbrev pub invariant-loop-i : goal.invariant-loop-i
invariant-loop-i l = all_zero (drop l.i l.row) ≡ all_zero l.row
