use Rattle.std.proofs.Common.{arith, ap}
use Rattle.std.proofs.lemmas.Int.{ints}
use Rattle.std.proofs.lemmas.List.{drop_all}
use Rattle.benefit_rows.specs.Benefits.{differences, rank_of}
use Rattle.benefit_rows.specs.BenefitLaws.{differences-most, length-differences}
use Rattle.benefit_rows.proofs.Steps.{RankMore}
use Rattle.benefit_rows.proofs.Narrow.{narrow_at, narrow_more}
use Rattle.benefit_rows.proofs.row.narrow_distance.Goals as goal

pub overflow_cast-to : goal.overflow_cast-to
overflow_cast-to c = (narrow_at c.args.from.now c.args.to.now c.loop-i.i c.loop-i-test.true c.requires.lengths c.requires.narrow).to_fits

pub overflow_cast-from : goal.overflow_cast-from
overflow_cast-from c = (narrow_at c.args.from.now c.args.to.now c.loop-i.i c.loop-i-test.true c.requires.lengths c.requires.narrow).from_fits

pub overflow_sub-to : goal.overflow_sub-to
overflow_sub-to c = (narrow_at c.args.from.now c.args.to.now c.loop-i.i c.loop-i-test.true c.requires.lengths c.requires.narrow).fits

pub abs-total-requires : goal.abs-total-requires
abs-total-requires c = (narrow_at c.args.from.now c.args.to.now c.loop-i.i c.loop-i-test.true c.requires.lengths c.requires.narrow).neg_fits

more : (c : goal.After-abs-total) → RankMore (differences c.args.from.now c.args.to.now) c.loop-i.i c.abs-total.result
more c = narrow_more c.args.from.now c.args.to.now c.loop-i.i c.abs-total.result c.loop-i-test.true c.requires.lengths c.requires.narrow c.abs-total.ensures.value

pub overflow_add-total : goal.overflow_add-total
overflow_add-total c =
    let one = more c in
    let most = differences-most c.args.from.now c.args.to.now in
    omega (arith, ints, c.requires.narrow.from_rank, c.requires.narrow.to_rank)

pub loop-i-preserved : goal.loop-i-preserved
loop-i-preserved c =
    let one = more c in
    let most = differences-most c.args.from.now c.args.to.now in
    (omega (arith, ints, c.requires.narrow.from_rank, c.requires.narrow.to_rank), omega (arith, ints, c.requires.narrow.from_rank, c.requires.narrow.to_rank))

pub returns : goal.returns
returns c =
    let long = length-differences c.args.from.now c.args.to.now c.requires.lengths in
    let none = ap rank_of (drop_all c.loop-i.i (differences c.args.from.now c.args.to.now) (omega arith)) in
    omega (arith, ints, c.loop-i.invariant)
