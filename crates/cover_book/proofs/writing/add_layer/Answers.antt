use Rattle.std.proofs.Common.{◌<◌, ◌≤◌, length, FitsSigned, to_z, of_z, w64, ◌∙◌, arith}
use Rattle.std.proofs.lemmas.Int.{ints, to_z-of_z}
use Rattle.cover_book.proofs.Written.{rows-more, rows-few, rows-all}
use Rattle.cover_book.proofs.writing.add_layer.Goals as goal

pub add_row-requires-clause-few : goal.add_row-requires-clause-few
add_row-requires-clause-few g c =
    let less : c.rows.i ≤ length c.args.layer.now = (let t = c.rows-test.true in let e = c.len-count.ensures in omega arith) in
    let few = rows-few (g.M.DpModel.meaning (g.M.DpModel.numbers c.args.model.now)) c.args.k c.rows.i c.args.cover.now c.rows.cover c.args.layer.now less c.rows.invariant in
    let t = c.if-i-ge-MOST_ROWS.false in
    omega arith

pub rows-preserved : goal.rows-preserved
rows-preserved g c =
    let less : c.rows.i < length c.args.layer.now = (let t = c.rows-test.true in let e = c.len-count.ensures in omega arith) in
    let low : FitsSigned w64 c.lowest-low.result = (let h = c.lowest-low.type_inv in omega (arith, ints)) in
    let high : FitsSigned w64 c.highest-high.result = (let h = c.highest-high.type_inv in omega (arith, ints)) in
    rows-more (g.M.DpModel.meaning (g.M.DpModel.numbers c.args.model.now)) c.args.k c.rows.i (to_z w64 (of_z w64 c.lowest-low.result)) (to_z w64 (of_z w64 c.highest-high.result)) c.args.cover.now c.rows.cover c.add_row.new.cover c.args.layer.now c.row-row.result.now c.row-row.result.now less c.row-row.ensures (to_z-of_z w64 c.lowest-low.result low ∙ c.lowest-low.ensures) (to_z-of_z w64 c.highest-high.result high ∙ c.highest-high.ensures) c.rows.invariant c.in_ok-add_row.ensures

pub returns : goal.returns
returns g c =
    rows-all (g.M.DpModel.meaning (g.M.DpModel.numbers c.args.model.now)) c.args.k c.rows.i c.args.cover.now c.rows.cover c.args.layer.now (let t = c.rows-test.false in let e = c.len-count.ensures in omega arith) c.rows.invariant
