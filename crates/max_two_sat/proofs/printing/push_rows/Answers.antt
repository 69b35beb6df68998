use Rattle.std.proofs.Common.{arith, ◌≡◌, ◌<◌, ◌≤◌, length, ap, List}
use Rattle.pair_rows.specs.Pairs.{rows_of, row_at}
use Rattle.pair_rows.specs.Laws.Pairs.{length-row_at, length-rows_of}
use Rattle.max_two_sat.specs.declared.weights.PairWeights.{PairWeights}
use Rattle.max_two_sat.proofs.PrintedLines.{rows-printed, rows-all-printed}
use Rattle.max_two_sat.proofs.printing.push_rows.Goals as goal

pub push_row-requires : goal.push_row-requires
push_row-requires c =
    let rows : List (List PairWeights) = rows_of (length c.args.model.now.units.items) c.args.model.now.pairs.items in
    let below : c.loop-k.k < length c.args.model.now.units.items = rw c.as_slice-variables.ensures.value at c.loop-k-test.true in
    let row : c.row_of.result.now ≡ row_at rows c.loop-k.k = rw (c.as_slice-variables.ensures.value, c.as_slice.ensures.value) at c.row_of.ensures in
    omega (arith, ap length row, length-row_at (length c.args.model.now.units.items) c.args.model.now.pairs.items c.loop-k.k c.args.model.now.kept.whole below, c.args.model.now.kept.variables)

pub loop-k-preserved : goal.loop-k-preserved
loop-k-preserved c =
    let rows : List (List PairWeights) = rows_of (length c.args.model.now.units.items) c.args.model.now.pairs.items in
    let below : c.loop-k.k < length c.args.model.now.units.items = rw c.as_slice-variables.ensures.value at c.loop-k-test.true in
    let row : c.row_of.result.now ≡ row_at rows c.loop-k.k = rw (c.as_slice-variables.ensures.value, c.as_slice.ensures.value) at c.row_of.ensures in
    rows-printed rows c.loop-k.k c.loop-k.out.items _ _ (omega (arith, length-rows_of (length c.args.model.now.units.items) c.args.model.now.pairs.items))
    (rw row at c.in_ok-push_row.ensures) c.loop-k.invariant

pub returns : goal.returns
returns c =
    let rows : List (List PairWeights) = rows_of (length c.args.model.now.units.items) c.args.model.now.pairs.items in
    let past : length c.args.model.now.units.items ≤ c.loop-k.k = rw c.as_slice-variables.ensures.value at c.loop-k-test.false in
    rows-all-printed rows c.loop-k.k c.loop-k.out.items _ (omega (arith, length-rows_of (length c.args.model.now.units.items) c.args.model.now.pairs.items)) c.loop-k.invariant
