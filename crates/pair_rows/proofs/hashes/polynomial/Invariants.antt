use Rattle.std.proofs.Common.{◌≡◌, ◌≤◌, drop, length, w64}
use Rattle.std.specs.Int.{int_wrap}
use Rattle.pair_rows.specs.Hashes.{polynomial}
use Rattle.pair_rows.proofs.hashes.polynomial.Given as goal

-- the polynomial of the cells from here on
abbrev pub invariant-cells : goal.invariant-cells
invariant-cells l = (l.total ≡ int_wrap w64 (polynomial (drop l.i l.row))) × (l.i ≤ length l.row)

abbrev pub decreases-cells : goal.decreases-cells
decreases-cells l = l.i
