use Rattle.std.proofs.Common.{◌≡◌, ◌++◌, ◌-◌}
use Rattle.max_cut.specs.EdgeLines.{lines_from}
use Rattle.max_cut.proofs.lines.push_lines.Given as goal

-- the lines so far and those of the rest are all lines
abbrev pub invariant-loop-k : goal.invariant-loop-k
invariant-loop-k l =
    l.out.items ++ lines_from (record { vertices = l.vertices; weights = l.weights }) l.k (l.vertices - l.k)
    ≡ l.initial.out.items ++ lines_from (record { vertices = l.vertices; weights = l.weights }) 0 l.vertices
