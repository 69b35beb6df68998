use Rattle.std.proofs.Common.{◌≡◌, ◌≤◌, length, map, vec_capacity}
use Rattle.dp_laws.specs.Diagrams.Cutsets.{child_from}
use Rattle.relaxed_dd.specs.Shown.{layers_of}
use Rattle.exact_cutset.specs.Walking.{HasLooked}
use Rattle.exact_cutset.proofs.frontier.take_layer.Given as goal

abbrev pub invariant-nodes : goal.invariant-nodes
invariant-nodes g l = record {
  marks : length l.here.items ≡ l.node;
  rest : l.out ≡ record l.initial.out { places = l.out.places; subs = l.out.subs };
  subs : l.out.subs ≡ map (child_from (layers_of l.diagram)) l.out.places;
  walked : HasLooked (g.M.DpModel.meaning (g.M.DpModel.numbers l.model)) (layers_of l.diagram) l.initial.out.wide l.depth l.initial.out.places l.out.places l.here.items;
  room : vec_capacity l.initial.here ≤ vec_capacity l.here;
}
