use Rattle.std.proofs.Common.{arith, ap}
use Rattle.std.proofs.lemmas.Int.{ints}
use Rattle.std.proofs.lemmas.List.{drop_all}
use Rattle.benefit_rows.specs.Benefits.{differences, rank_of}
use Rattle.benefit_rows.specs.BenefitLaws.{differences-most, length-differences}
use Rattle.benefit_rows.proofs.Steps.{RankMore, rank_more}
use Rattle.benefit_rows.proofs.Distances.{difference_at}
use Rattle.benefit_rows.proofs.row.wide_distance.Goals as goal

pub overflow_sub-to : goal.overflow_sub-to
overflow_sub-to c = (difference_at c.args.from.now c.args.to.now c.loop-i.i c.loop-i-test.true c.requires.lengths c.requires.from_size c.requires.to_size).fits

pub size-total-requires : goal.size-total-requires
size-total-requires c =
    let at = difference_at c.args.from.now c.args.to.now c.loop-i.i c.loop-i-test.true c.requires.lengths c.requires.from_size c.requires.to_size in
    rw at.is (omega (arith, ints, at.size))

more : (c : goal.After-size-total) → RankMore (differences c.args.from.now c.args.to.now) c.loop-i.i c.size-total.result
more c =
    let at = difference_at c.args.from.now c.args.to.now c.loop-i.i c.loop-i-test.true c.requires.lengths c.requires.from_size c.requires.to_size in
    let long = length-differences c.args.from.now c.args.to.now c.requires.lengths in
    rank_more (differences c.args.from.now c.args.to.now) c.loop-i.i _ c.size-total.result (omega arith) at.is c.size-total.ensures

pub overflow_add-total : goal.overflow_add-total
overflow_add-total c =
    let one = more c in
    let most = differences-most c.args.from.now c.args.to.now in
    omega (arith, ints, c.requires.from_size, c.requires.to_size)

pub loop-i-preserved : goal.loop-i-preserved
loop-i-preserved c =
    let one = more c in
    let most = differences-most c.args.from.now c.args.to.now in
    (omega (arith, ints, c.requires.from_size, c.requires.to_size), omega (arith, ints, c.requires.from_size, c.requires.to_size))

pub returns : goal.returns
returns c =
    let long = length-differences c.args.from.now c.args.to.now c.requires.lengths in
    let none = ap rank_of (drop_all c.loop-i.i (differences c.args.from.now c.args.to.now) (omega arith)) in
    omega (arith, ints, c.loop-i.invariant)
