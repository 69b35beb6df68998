use Rattle.std.proofs.Common.{FitsSigned, w64, arith}
use Rattle.std.proofs.lemmas.Int.{ints}
use Rattle.bound_cover.proofs.Sums.{pair-as}
use Rattle.bound_cover.proofs.numbers.is_sum_within.Goals as goal

pub returns : goal.returns
returns c =
    let a : FitsSigned w64 c.args.one = (let h = c.ranges.one.sfits in omega (arith, ints)) in
    let b : FitsSigned w64 c.args.other = (let h = c.ranges.other.sfits in omega (arith, ints)) in
    let e : FitsSigned w64 c.args.most = (let h = c.ranges.most.sfits in omega (arith, ints)) in
    pair-as c.args.one c.args.other c.args.most _ _ _ a b e c.from.ensures c.from-2.ensures c.from-3.ensures
