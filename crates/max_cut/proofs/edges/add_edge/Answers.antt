use Rattle.std.proofs.Common.{arith, length-set, ◌∙◌}
use Rattle.std.proofs.lemmas.Int.{ints, clamps}
use Rattle.std.proofs.lemmas.List.Elements.{All-set}
use Rattle.max_cut.specs.Graph.{IsWeight}
use Rattle.max_cut.proofs.edges.add_edge.Goals as goal

pub returns-clause-graph : goal.returns-clause-graph
returns-clause-graph c =
    let total = c.in-Some.ensures.1 in
    let graph = c.requires.graph in
    record {
      few = graph.few;
      whole = length-set c.args.totals.now c.place_of_two-at.result _ ∙ graph.whole;
      small = All-set IsWeight c.args.totals.now c.place_of_two-at.result _ (omega (arith, ints, clamps)) graph.small;
    }
