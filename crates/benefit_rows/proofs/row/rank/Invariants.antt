use Rattle.std.proofs.Common.{◌≡◌, pos, ◌+ℤ◌, ◌≤ℤ◌, drop}
use Rattle.benefit_rows.specs.Benefits.{rank_of}
use Rattle.benefit_rows.proofs.row.rank.Given as goal

-- the sizes so far and the rank of the rest make the rank
abbrev pub invariant-loop-benefit : goal.invariant-loop-benefit
invariant-loop-benefit l =
    (l.total +ℤ rank_of (drop l.benefit-index l.row) ≡ rank_of l.row) × (pos 0 ≤ℤ l.total)
