use Rattle.std.proofs.Common.{◌≡◌, ◌-◌, ◌≤◌}
use Rattle.layer_candidates.specs.WayTables.{KeepsTableRoom}
use Rattle.layer_candidates.proofs.Extended.{IsExtending}
use Rattle.layer_candidates.proofs.extending.extend_member.Given as goal

abbrev pub invariant-decisions : goal.invariant-decisions
invariant-decisions g l = record {
  extending : IsExtending (g.M.DpModel.meaning (g.M.DpModel.numbers l.model)) l.k l.fn.member.step l.s l.fn.member.value l.fn.table.live l.decision l.fn.region l.fn.spot.place l.fn.table.ways.items l.region l.spot.place l.table.ways.items l.table.hashes.items l.table.heads.items l.table.next.items;
  within : l.decision ≤ l.choices;
  live : l.table.live ≡ l.fn.table.live;
  room : KeepsTableRoom l.fn.table l.table;
}

abbrev pub decreases-decisions : goal.decreases-decisions
decreases-decisions g l = l.choices - l.decision
