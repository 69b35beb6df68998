use Rattle.std.proofs.Common.{◌≡◌, ◌*◌, pos, ◌+ℤ◌, ◌≤ℤ◌, drop}
use Rattle.benefit_rows.specs.Benefits.{differences, rank_of}
use Rattle.benefit_rows.proofs.row.distance_within.Given as goal

-- the sizes so far and those of the other blocks make the sum
abbrev pub invariant-loop-block : goal.invariant-loop-block
invariant-loop-block l =
    (l.sizes +ℤ rank_of (drop (8 * l.block) (differences l.from l.to)) ≡ rank_of (differences l.from l.to)) × (pos 0 ≤ℤ l.sizes)
