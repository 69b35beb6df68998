use Rattle.std.proofs.Common.{length, arith, ◌∙◌}
use Rattle.pair_rows.specs.Hashes.{polynomial}
use Rattle.pair_rows.specs.Pairs.{row_at, rows_of}
use Rattle.pair_rows.specs.Shifts.{shifts_of}
use Rattle.pair_rows.specs.Shown.{instance_in}
use Rattle.pair_rows.proofs.Hashing.{change-at, changes-length, wrapped-read}
use Rattle.pair_rows.proofs.rows.PairRows.change.Goals as goal

pub returns : goal.returns
returns c =
    let m = c.args.self.now in
    let all = c.of_decision.result.now in
    let are = c.of_decision.ensures in
    let row = row_at (rows_of (length (instance_in m).units) (instance_in m).pairs) c.args.k in
    let at = change-at c.args.d (length (instance_in m).units) c.args.k (instance_in m).pairs all.cells.items all.changes.items c.index.result.now c.requires.variable are.cells_are are.changes_are c.index.ensures in
    wrapped-read c.index.result.now (polynomial (shifts_of c.args.d row)) at ∙ at

pub index-requires : goal.index-requires
index-requires c = omega (arith, c.requires.variable, changes-length (length (instance_in c.args.self.now).units) c.of_decision.result.now.cells.items c.of_decision.result.now.changes.items c.of_decision.ensures.changes_are)
