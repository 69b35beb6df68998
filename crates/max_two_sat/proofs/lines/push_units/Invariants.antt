use Rattle.std.proofs.Common.{◌≡◌, ◌++◌, drop}
use Rattle.std.specs.List.{flat_map}
use Rattle.max_two_sat.specs.Lines.{units_lines}
use Rattle.max_two_sat.specs.Printed.{line_of}
use Rattle.max_two_sat.proofs.lines.push_units.Given as goal

-- the lines so far and those of the rest make all lines
abbrev pub invariant-loop-v : goal.invariant-loop-v
invariant-loop-v l = l.out.items ++ flat_map line_of (units_lines l.v (drop l.v l.units)) ≡ l.initial.out.items ++ flat_map line_of (units_lines 0 l.units)
