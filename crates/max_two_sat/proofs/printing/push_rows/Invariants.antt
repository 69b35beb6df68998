use Rattle.std.proofs.Common.{◌≡◌, ◌++◌, drop, length}
use Rattle.std.specs.List.{flat_map}
use Rattle.pair_rows.specs.Pairs.{rows_of}
use Rattle.max_two_sat.specs.Lines.{rows_lines}
use Rattle.max_two_sat.specs.Printed.{line_of}
use Rattle.max_two_sat.proofs.printing.push_rows.Given as goal

-- the lines so far and those of the rest make all lines
abbrev pub invariant-loop-k : goal.invariant-loop-k
invariant-loop-k l =
    l.out.items ++ flat_map line_of (rows_lines l.k (drop l.k (rows_of (length l.model.units.items) l.model.pairs.items))) ≡
    l.initial.out.items ++ flat_map line_of (rows_lines 0 (rows_of (length l.model.units.items) l.model.pairs.items))
