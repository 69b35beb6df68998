-- The best value is in reach, so an exploration's cover can be written.
use Rattle.std.proofs.Common.{ℤ, Option, Some, None, arith}
use Rattle.std.proofs.lemmas.Int.{ints}
use Rattle.dp_model.specs.Best.{best, IsBest}
use Rattle.dp_model.specs.Dp.{Dp}
use Rattle.dp_model.specs.Laws.{IsLawful}
use Rattle.dp_model.proofs.Sizes.{value_of-size}
use Rattle.dp_model.proofs.Solutions.{best-is_best}
use Rattle.bound_cover.specs.Clamping.{IsReachable}

reachable : (dp : Dp) → IsLawful dp → (o : Option ℤ) → IsBest dp o → IsReachable o
reachable dp laws None is = tt
reachable dp laws (Some v) is =
    let size = value_of-size dp laws is.by is.solution.prefix in
    let whole = is.solution.whole in
    let few = laws.sizes.vars in
    let value = is.value in
    let low = size.low in
    omega (arith, ints)

pub best-reachable : (dp : Dp) → IsLawful dp → IsReachable (best dp)
best-reachable dp laws = reachable dp laws (best dp) (best-is_best dp)
