use Rattle.std.proofs.Common.{◌≡◌, ◌++◌, drop}
use Rattle.std.specs.List.{flat_map}
use Rattle.qubo.specs.Printing.{line_text}
use Rattle.qubo.proofs.printing.push_lines.Given as goal

-- what was written and the lines that are left make the whole
abbrev pub invariant-loop-line : goal.invariant-loop-line
invariant-loop-line l = l.initial.out.items ++ flat_map line_text l.lines ≡ l.out.items ++ flat_map line_text (drop l.line-index l.lines)
