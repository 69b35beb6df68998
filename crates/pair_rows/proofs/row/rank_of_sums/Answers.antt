use Rattle.std.proofs.Common.{arith, ap}
use Rattle.std.proofs.lemmas.Int.{ints}
use Rattle.std.proofs.lemmas.List.{drop_all}
use Rattle.benefit_rows.specs.Benefits.{rank_of, sums_of}
use Rattle.benefit_rows.specs.BenefitLaws.{length-sums_of, rank_of-sums_of}
use Rattle.benefit_rows.proofs.Steps.{RankMore, rank_more}
use Rattle.benefit_rows.proofs.Sums.{sum_at}
use Rattle.pair_rows.proofs.row.rank_of_sums.Goals as goal

pub overflow_add-sum : goal.overflow_add-sum
overflow_add-sum c = (sum_at c.args.row.now c.args.added.now c.loop-i.i (omega arith) c.requires.lengths c.requires.row_size c.requires.added_size).fits

pub size-total-requires : goal.size-total-requires
size-total-requires c =
    let at = sum_at c.args.row.now c.args.added.now c.loop-i.i (omega arith) c.requires.lengths c.requires.row_size c.requires.added_size in
    rw at.is (omega (arith, ints, at.size))

-- one sum more
more : (c : goal.After-size-total) → RankMore (sums_of c.args.row.now c.args.added.now) c.loop-i.i c.size-total.result
more c =
    let at = sum_at c.args.row.now c.args.added.now c.loop-i.i (omega arith) c.requires.lengths c.requires.row_size c.requires.added_size in
    let long = length-sums_of c.args.row.now c.args.added.now c.requires.lengths in
    rank_more (sums_of c.args.row.now c.args.added.now) c.loop-i.i _ c.size-total.result (omega arith) at.is c.size-total.ensures

pub overflow_add-total : goal.overflow_add-total
overflow_add-total c =
    let one = more c in
    let most = rank_of-sums_of c.args.row.now c.args.added.now in
    omega (arith, ints, c.loop-i.invariant.0, c.loop-i.invariant.1, c.requires.row_size, c.requires.added_size)

pub loop-i-preserved : goal.loop-i-preserved
loop-i-preserved c =
    let one = more c in
    let most = rank_of-sums_of c.args.row.now c.args.added.now in (
      omega (arith, ints, c.loop-i.invariant.0, c.loop-i.invariant.1, c.requires.row_size, c.requires.added_size),
      omega (arith, ints, c.loop-i.invariant.0, c.loop-i.invariant.1, c.requires.row_size, c.requires.added_size),
    )

pub returns : goal.returns
returns c =
    let long = length-sums_of c.args.row.now c.args.added.now c.requires.lengths in
    let none = ap rank_of (drop_all c.loop-i.i (sums_of c.args.row.now c.args.added.now) (omega arith)) in
    omega (arith, ints, c.loop-i.invariant.0)
