use Rattle.std.proofs.Common.{◌≡◌, ◌≤◌, map, vec_capacity}
use Rattle.dp_laws.specs.Diagrams.Cutsets.{child_from}
use Rattle.relaxed_dd.specs.Shown.{layers_of}
use Rattle.exact_cutset.specs.Walking.{IsWalkedTo}
use Rattle.exact_cutset.proofs.frontier.take_frontier.Given as goal

abbrev pub invariant-layers : goal.invariant-layers
invariant-layers g l = record {
  rest : l.out ≡ record l.initial.out { places = l.out.places; subs = l.out.subs };
  subs : l.out.subs ≡ map (child_from (layers_of l.diagram)) l.out.places;
  walked : IsWalkedTo (g.M.DpModel.meaning (g.M.DpModel.numbers l.model)) (layers_of l.diagram) l.initial.out.wide l.depth l.out.places l.above.items;
  above_room : l.initial.out.wide ≤ vec_capacity l.above;
  here_room : l.initial.out.wide ≤ vec_capacity l.here;
}
