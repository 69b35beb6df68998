use Rattle.std.proofs.Common.{◌≡◌, ◌∷◌, ◌++◌, drop}
use Rattle.layer_candidates.specs.Extending.{AreExtended}
use Rattle.layer_candidates.specs.HeldRows.{HasExchanged, AreSame}
use Rattle.layer_candidates.specs.Members.{member_rows}
use Rattle.layer_candidates.specs.Ways.{rows_of, way_row}
use Rattle.layer_candidates.specs.WayTables.{KeepsTableRoom}
use Rattle.layer_candidates.proofs.extending.extend_layer.Given as goal

abbrev pub invariant-members : goal.invariant-members
invariant-members g l = record {
  extended : AreExtended (g.M.DpModel.meaning (g.M.DpModel.numbers l.model)) l.k l.i l.fn.region l.live l.members (way_row l.region l.table.ways.items) l.table.ways.items l.table.hashes.items l.table.heads.items l.table.next.items;
  exchanged : HasExchanged l.fn.region (member_rows l.members) l.region (member_rows (drop l.i l.members) ++ l.spot.place ∷ rows_of l.table.ways.items);
  same : AreSame l.fn.region l.region (member_rows (drop l.i l.members));
  live : l.table.live ≡ l.live;
  room : KeepsTableRoom l.fn.table l.table;
}
