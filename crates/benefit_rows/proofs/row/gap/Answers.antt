use Rattle.std.proofs.Common.{arith}
use Rattle.std.proofs.lemmas.Int.{ints}
use Rattle.benefit_rows.proofs.Steps.{GapMore, ReadAt, gap_more, read_at}
use Rattle.benefit_rows.proofs.row.gap.Goals as goal

pub doubled_gap-doubled-requires-clause-from_size : goal.doubled_gap-doubled-requires-clause-from_size
doubled_gap-doubled-requires-clause-from_size c =
    omega (arith, ints, (read_at c.args.from.now c.loop-i.i (omega arith) (omega (arith, ints, c.requires.from_rank))).size)

pub doubled_gap-doubled-requires-clause-to_size : goal.doubled_gap-doubled-requires-clause-to_size
doubled_gap-doubled-requires-clause-to_size c =
    omega (arith, ints, (read_at c.args.to.now c.loop-i.i (omega arith) (omega (arith, ints, c.requires.to_rank))).size)

more : (c : goal.After-doubled_gap-doubled) → GapMore c.args.from.now c.args.to.now c.loop-i.i c.doubled_gap-doubled.result
more c =
    let from : ReadAt c.args.from.now c.loop-i.i = read_at c.args.from.now c.loop-i.i (omega arith) (omega (arith, ints, c.requires.from_rank)) in
    let to : ReadAt c.args.to.now c.loop-i.i = read_at c.args.to.now c.loop-i.i (omega arith) (omega (arith, ints, c.requires.to_rank)) in
    gap_more c.args.from.now c.args.to.now c.loop-i.i _ _ c.doubled_gap-doubled.result c.loop-i-test.true c.requires.lengths from.is to.is c.doubled_gap-doubled.ensures

pub overflow_add-doubled : goal.overflow_add-doubled
overflow_add-doubled c = let one = more c in omega (arith, ints)

pub loop-i-preserved : goal.loop-i-preserved
loop-i-preserved c = let one = more c in (omega (arith, ints), omega (arith, ints))
