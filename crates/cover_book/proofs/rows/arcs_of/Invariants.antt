use Rattle.std.proofs.Common.{◌≡◌, map, take, vec_len, vec_capacity}
use Rattle.dp_laws.specs.Diagrams.Nodes.{node_at}
use Rattle.bound_cover.specs.Exploring.{moved}
use Rattle.cover_book.specs.Nodes.{arcs_in}
use Rattle.cover_book.proofs.rows.arcs_of.Given as goal

abbrev pub invariant-arcs : goal.invariant-arcs
invariant-arcs g l = record {
  items : l.arcs.items ≡ map (moved l.before) (take l.i (arcs_in (node_at (g.D.ShownDiagram.layers l.diagram) l.depth l.node)));
  room : vec_capacity l.arcs ≡ l.count;
  many : vec_len l.arcs ≡ l.i;
}
