use Rattle.std.proofs.Common.{◌≡◌, ◌-◌}
use Rattle.tokens.specs.Grammar.{times}
use Rattle.max_cut.specs.Graph.{IsGraph}
use Rattle.max_cut.specs.Edges.{edge_at}
use Rattle.max_cut.proofs.edges.read_edges.Given as goal

-- what the edges that are left give is what all give
abbrev pub invariant-loop : goal.invariant-loop
invariant-loop l =
    (times (edge_at l.vertices) (l.edges - l.counter) l.totals l.tokens ≡ times (edge_at l.vertices) l.edges l.initial.totals l.initial.tokens)
    × IsGraph (record { vertices = l.vertices; weights = l.totals })
