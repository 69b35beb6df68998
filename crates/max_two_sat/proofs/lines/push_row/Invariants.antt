use Rattle.std.proofs.Common.{◌≡◌, ◌+◌, ◌++◌, drop}
use Rattle.std.specs.List.{flat_map}
use Rattle.max_two_sat.specs.Lines.{row_lines}
use Rattle.max_two_sat.specs.Printed.{line_of}
use Rattle.max_two_sat.proofs.lines.push_row.Given as goal

-- the lines so far and those of the rest make all lines
abbrev pub invariant-loop-index : goal.invariant-loop-index
invariant-loop-index l =
    l.out.items ++ flat_map line_of (row_lines l.i (l.i + 1 + l.index) (drop l.index l.row)) ≡ l.initial.out.items ++ flat_map line_of (row_lines l.i (l.i + 1) l.row)
