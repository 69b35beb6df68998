use Rattle.std.proofs.Common.{◌+◌, ◌+ℤ◌, length, arith}
use Rattle.std.proofs.lemmas.Int.{ints}
use Rattle.max_cut.proofs.Crossings.{Crosses, crosses-fits, crosses-more, rank_of-take, row_fits}
use Rattle.max_cut.proofs.sides.weight_of_cut.Goals as goal

pub split_at-requires : goal.split_at-requires
split_at-requires c = row_fits c.loop-k.rest.now c.args.sides.now c.tail-later.result.now c.loop-k.k c.loop-k-test.true c.tail-later.ensures c.loop-k.invariant.long

pub weight_from-total-requires-clause-sizes : goal.weight_from-total-requires-clause-sizes
weight_from-total-requires-clause-sizes c =
    rw c.split_at.ensures.front (omega (arith, ints, c.loop-k.invariant.rank, rank_of-take (length c.tail-later.result.now) c.loop-k.rest.now))

next : (c : goal.After-weight_from-total) → Crosses c.args.weights.now c.split_at.result.1.now c.args.sides.now (c.loop-k.k + 1) (c.loop-k.total +ℤ c.weight_from-total.result)
next c =
    crosses-more c.args.weights.now c.loop-k.rest.now c.split_at.result.0.now c.split_at.result.1.now c.args.sides.now c.tail-later.result.now c.loop-k.k c.loop-k.total c.weight_from-total.result
    c.loop-k-test.true c.tail-later.ensures c.split_at.ensures.front c.split_at.ensures.back c.weight_from-total.ensures (rw (← c.loop-k.total-is) c.loop-k.invariant)

pub overflow_add-total : goal.overflow_add-total
overflow_add-total c =
    let sum = crosses-fits c.args.weights.now _ c.args.sides.now _ _ c.requires.sizes (next c) in
    omega (arith, ints)

pub loop-k-preserved : goal.loop-k-preserved
loop-k-preserved c =
    let more = next c in
    let sum = crosses-fits c.args.weights.now _ c.args.sides.now _ _ c.requires.sizes (next c) in
    record { so_far = omega (arith, ints, more.so_far); long = more.long; rank = more.rank }
