use Rattle.std.proofs.Common.{◌≡◌, ◌++◌, ◌+◌, drop}
use Rattle.max_cut.specs.EdgeLines.{row_lines}
use Rattle.max_cut.proofs.lines.push_row.Given as goal

-- the lines so far and those of the rest are the lines of the row
abbrev pub invariant-loop-at : goal.invariant-loop-at
invariant-loop-at l =
    l.out.items ++ row_lines l.i (l.i + 1 + l.at) (drop l.at l.row) ≡ l.initial.out.items ++ row_lines l.i (l.i + 1) l.row
