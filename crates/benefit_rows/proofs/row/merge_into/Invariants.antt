use Rattle.std.proofs.Common.{◌≡◌, ◌++◌, take, drop}
use Rattle.benefit_rows.specs.Benefits.{merged_of}
use Rattle.benefit_rows.proofs.row.merge_into.Given as goal

-- what is merged so far, and what the rest will be, make the merged row
abbrev pub invariant-loop-i : goal.invariant-loop-i
invariant-loop-i l =
    take l.i l.merged ++ merged_of (drop l.i l.merged) (drop l.i l.row) ≡ merged_of l.initial.merged l.row
