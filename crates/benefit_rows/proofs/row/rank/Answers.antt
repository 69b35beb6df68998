use Rattle.std.proofs.Common.{arith}
use Rattle.std.proofs.lemmas.Int.{ints}
use Rattle.benefit_rows.proofs.Steps.{RankMore, rank_more, read_at}
use Rattle.benefit_rows.proofs.row.rank.Goals as goal

pub size-total-requires : goal.size-total-requires
size-total-requires c =
    omega (arith, ints, (read_at c.args.row.now c.loop-benefit.benefit-index c.loop-benefit-test.true (omega (arith, ints))).size)

more : (c : goal.After-size-total) → RankMore c.args.row.now c.loop-benefit.benefit-index c.size-total.result
more c =
    let read = read_at c.args.row.now c.loop-benefit.benefit-index c.loop-benefit-test.true (omega (arith, ints)) in
    rank_more c.args.row.now c.loop-benefit.benefit-index _ c.size-total.result c.loop-benefit-test.true read.is c.size-total.ensures

pub overflow_add-total : goal.overflow_add-total
overflow_add-total c = let one = more c in omega (arith, ints)

pub loop-benefit-preserved : goal.loop-benefit-preserved
loop-benefit-preserved c = let one = more c in (omega (arith, ints), omega (arith, ints))
