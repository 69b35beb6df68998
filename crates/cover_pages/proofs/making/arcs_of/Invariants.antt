use Rattle.std.proofs.Common.{◌≡◌, map, take, vec_len, vec_capacity}
use Rattle.dp_laws.specs.Diagrams.Nodes.{node_at}
use Rattle.relaxed_dd.specs.Shown.{layers_of}
use Rattle.cover_pages.specs.Pages.{bare_arc}
use Rattle.cover_pages.proofs.Made.{arcs_in}
use Rattle.cover_pages.proofs.making.arcs_of.Given as goal

abbrev pub invariant-arcs : goal.invariant-arcs
invariant-arcs l = record {
  items : l.arcs.items ≡ map bare_arc (take l.i (arcs_in (node_at (layers_of l.diagram) l.depth l.node)));
  room : vec_capacity l.arcs ≡ l.count;
  many : vec_len l.arcs ≡ l.i;
}
