use Rattle.std.proofs.Common.{◌≡◌, ◌*◌, ◌≤◌, [], ◌∷◌, ◌++◌, take, drop, length, vec_capacity}
use Rattle.layer_candidates.specs.Extending.{AreExtended}
use Rattle.layer_candidates.specs.HeldRows.{held_row, HasExchanged}
use Rattle.layer_candidates.specs.Ways.{rows_of, way_row}
use Rattle.layer_candidates.specs.WayTables.{KeepsTableRoom}
use Rattle.layer_nodes.specs.Expanding.{members_from, trials_of, all_spanned, AreTried}
use Rattle.layer_nodes.specs.Routing.{to_ways}
use Rattle.layer_nodes.proofs.extending.extend_layer.Given as goal

abbrev pub invariant-nodes : goal.invariant-nodes
invariant-nodes g l = record {
  extended : AreExtended (g.M.DpModel.meaning (g.M.DpModel.numbers l.model)) l.k l.i l.fn.region l.live (members_from 0 l.fn.nodes) (way_row l.region l.found.table.ways.items) l.found.table.ways.items l.found.table.hashes.items l.found.table.heads.items l.found.table.next.items;
  exchanged : HasExchanged l.fn.region [] l.region (l.spot.place ∷ rows_of l.found.table.ways.items);
  tried : AreTried (g.M.DpModel.meaning (g.M.DpModel.numbers l.model)) l.k (way_row l.region l.found.table.ways.items) (length l.found.table.ways.items) (trials_of (g.M.DpModel.meaning (g.M.DpModel.numbers l.model)) l.k (held_row l.fn.region) (take l.i l.fn.nodes)) l.found.marks.items (to_ways l.arcs.items);
  spans : l.nodes ≡ all_spanned (g.M.DpModel.meaning (g.M.DpModel.numbers l.model)) l.k (held_row l.fn.region) 0 (take l.i l.fn.nodes) ++ drop l.i l.fn.nodes;
  live : l.found.table.live ≡ l.live;
  room : KeepsTableRoom l.fn.found.table l.found.table;
  marks : length l.found.marks.items ≡ length l.fn.found.marks.items;
  arcs_few : length l.arcs.items ≤ l.i * (g.M.DpModel.meaning (g.M.DpModel.numbers l.model)).choices l.k;
  arcs_capacity : vec_capacity l.arcs ≡ vec_capacity l.fn.arcs;
}
