use Rattle.std.proofs.Common.{◌≡◌, ◌+◌, ◌-◌, ◌≤◌, ◌++◌, List, length, vec_capacity}
use Rattle.dp_model.specs.Decisions.{below}
use Rattle.layer_candidates.specs.Ways.{way_row}
use Rattle.layer_candidates.specs.WayTables.{KeepsTableRoom}
use Rattle.layer_candidates.proofs.Extended.{IsExtending}
use Rattle.layer_nodes.specs.Expanding.{Trial, trials_by, AreTried}
use Rattle.layer_nodes.specs.Routing.{to_ways}
use Rattle.layer_nodes.proofs.extending.try_node.Given as goal

abbrev pub invariant-decisions : goal.invariant-decisions
invariant-decisions g l = record {
  extending : IsExtending (g.M.DpModel.meaning (g.M.DpModel.numbers l.model)) l.k l.fn.node.member.step l.node.state.now l.fn.node.member.value l.fn.found.table.live l.decision l.fn.region l.fn.spot.place l.fn.found.table.ways.items l.region l.spot.place l.found.table.ways.items l.found.table.hashes.items l.found.table.heads.items l.found.table.next.items;
  tried : (ts : List Trial) → AreTried (g.M.DpModel.meaning (g.M.DpModel.numbers l.model)) l.k (way_row l.fn.region l.fn.found.table.ways.items) (length l.fn.found.table.ways.items) ts l.fn.found.marks.items (to_ways l.fn.arcs.items)
      → AreTried (g.M.DpModel.meaning (g.M.DpModel.numbers l.model)) l.k (way_row l.region l.found.table.ways.items) (length l.found.table.ways.items) (ts ++ trials_by (g.M.DpModel.meaning (g.M.DpModel.numbers l.model)) l.k l.node.state.now l.node.exact (below l.decision)) l.found.marks.items (to_ways l.arcs.items);
  within : l.decision ≤ l.choices;
  live : l.found.table.live ≡ l.fn.found.table.live;
  room : KeepsTableRoom l.fn.found.table l.found.table;
  marks : length l.found.marks.items ≡ length l.fn.found.marks.items;
  arcs_few : length l.arcs.items ≤ length l.fn.arcs.items + l.decision;
  arcs_capacity : vec_capacity l.arcs ≡ vec_capacity l.fn.arcs;
}

abbrev pub decreases-decisions : goal.decreases-decisions
decreases-decisions g l = l.choices - l.decision
