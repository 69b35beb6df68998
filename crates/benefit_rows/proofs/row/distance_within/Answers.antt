use Rattle.std.proofs.Common.{◌≡◌, ◌*◌, ◌/◌, ◌+◌, to_z, w64, length, drop, arith, sym, ◌∙◌, ◌+ℤ◌}
use Rattle.std.proofs.lemmas.Int.{ints}
use Rattle.benefit_rows.specs.Benefits.{differences, rank_of}
use Rattle.benefit_rows.specs.BenefitLaws.{rank_of-drop}
use Rattle.benefit_rows.proofs.Distances.{SumMore, part_small, after_block, after_rest, exceeds, keeps_within}
use Rattle.benefit_rows.proofs.Narrow.{drop_narrow, take_narrow}
use Rattle.benefit_rows.proofs.row.distance_within.Goals as goal

pub distance-sizes-requires-clause-from_size : goal.distance-sizes-requires-clause-from_size
distance-sizes-requires-clause-from_size c = rw c.block_of.ensures (part_small 8 (8 * c.loop-block.block) c.args.from.now c.requires.from_size)

pub distance-sizes-requires-clause-to_size : goal.distance-sizes-requires-clause-to_size
distance-sizes-requires-clause-to_size c = rw c.block_of-in-loop-block.ensures (part_small 8 (8 * c.loop-block.block) c.args.to.now c.requires.to_size)

pub distance-sizes-requires-clause-narrow : goal.distance-sizes-requires-clause-narrow
distance-sizes-requires-clause-narrow c flag =
    rw (c.block_of.ensures, c.block_of-in-loop-block.ensures) (take_narrow 8 _ _ (drop_narrow (8 * c.loop-block.block) c.args.from.now c.args.to.now (c.requires.narrow flag)))

more : (c : goal.After-distance-sizes)
    → SumMore c.args.from.now c.args.to.now (to_z w64 c.loop-block.sizes-bits) c.distance-sizes.result (drop (8 * (c.loop-block.block + 1)) (differences c.args.from.now c.args.to.now))
more c =
    after_block c.args.from.now c.args.to.now c.loop-block.block _ c.distance-sizes.result c.requires.from_size c.requires.to_size c.loop-block.invariant
    (rw (sym c.block_of.ensures, sym c.block_of-in-loop-block.ensures) c.distance-sizes.ensures)

pub overflow_add-sizes : goal.overflow_add-sizes
overflow_add-sizes c = (more c).fits

pub returns-then-sizes-most : goal.returns-then-sizes-most
returns-then-sizes-most c =
    let one =
    after_block c.args.from.now c.args.to.now c.loop-block.block _ c.distance-sizes.result c.requires.from_size c.requires.to_size c.loop-block.invariant
    (rw (sym c.block_of.ensures, sym c.block_of-in-loop-block.ensures) c.distance-sizes.ensures) in
    exceeds c.args.most _ _ _ c.ranges.most one.sum one.most c.if-sizes-most.true

pub loop-block-preserved : goal.loop-block-preserved
loop-block-preserved c =
    let one =
    after_block c.args.from.now c.args.to.now c.loop-block.block _ c.distance-sizes.result c.requires.from_size c.requires.to_size c.loop-block.invariant
    (rw (sym c.block_of.ensures, sym c.block_of-in-loop-block.ensures) c.distance-sizes.ensures) in
    rw one.sum (one.so_far, one.low)

pub distance-sizes-requires-2-clause-from_size : goal.distance-sizes-requires-2-clause-from_size
distance-sizes-requires-2-clause-from_size c =
    rw c.rest_after.ensures (omega (arith, ints, rank_of-drop (8 * (length c.args.from.now / 8)) c.args.from.now, c.requires.from_size))

pub distance-sizes-requires-2-clause-to_size : goal.distance-sizes-requires-2-clause-to_size
distance-sizes-requires-2-clause-to_size c =
    rw c.rest_after-2.ensures (omega (arith, ints, rank_of-drop (8 * (length c.args.from.now / 8)) c.args.to.now, c.requires.to_size))

pub distance-sizes-requires-2-clause-narrow : goal.distance-sizes-requires-2-clause-narrow
distance-sizes-requires-2-clause-narrow c flag =
    rw (c.rest_after.ensures, c.rest_after-2.ensures) (drop_narrow (8 * (length c.args.from.now / 8)) c.args.from.now c.args.to.now (c.requires.narrow flag))

pub overflow_add-sizes-2 : goal.overflow_add-sizes-2
overflow_add-sizes-2 c =
    let at : c.loop-block.block ≡ length c.args.from.now / 8 = omega (arith, c.loop-block.auto.block-end) in
    (after_rest c.args.from.now c.args.to.now (8 * (length c.args.from.now / 8)) _ c.distance-sizes-2.result c.requires.from_size c.requires.to_size (rw (sym at) c.loop-block.invariant)
    (rw (sym c.rest_after.ensures, sym c.rest_after-2.ensures) c.distance-sizes-2.ensures)).fits

pub returns-then-sizes-most-2 : goal.returns-then-sizes-most-2
returns-then-sizes-most-2 c =
    let at : c.loop-block.block ≡ length c.args.from.now / 8 = omega (arith, c.loop-block.auto.block-end) in
    let one = after_rest c.args.from.now c.args.to.now (8 * (length c.args.from.now / 8)) _ c.distance-sizes-2.result c.requires.from_size c.requires.to_size (rw (sym at) c.loop-block.invariant)
    (rw (sym c.rest_after.ensures, sym c.rest_after-2.ensures) c.distance-sizes-2.ensures) in
    exceeds c.args.most _ _ _ c.ranges.most one.sum one.most c.if-sizes-most-2.true

pub returns-else-sizes-most-2 : goal.returns-else-sizes-most-2
returns-else-sizes-most-2 c =
    let at : c.loop-block.block ≡ length c.args.from.now / 8 = omega (arith, c.loop-block.auto.block-end) in
    let one = after_rest c.args.from.now c.args.to.now (8 * (length c.args.from.now / 8)) (to_z w64 c.loop-block.sizes-bits) c.distance-sizes-2.result c.requires.from_size c.requires.to_size (rw (sym at) c.loop-block.invariant)
    (rw (sym c.rest_after.ensures, sym c.rest_after-2.ensures) c.distance-sizes-2.ensures) in
    let whole : to_z w64 c.loop-block.sizes-bits +ℤ c.distance-sizes-2.result ≡ rank_of (differences c.args.from.now c.args.to.now) = omega (arith, ints, one.so_far) in
    keeps_within c.args.most _ _ c.ranges.most (one.sum ∙ whole) c.if-sizes-most-2.false
