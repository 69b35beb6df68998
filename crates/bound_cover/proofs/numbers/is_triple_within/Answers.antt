use Rattle.std.proofs.Common.{FitsSigned, w64, arith}
use Rattle.std.proofs.lemmas.Int.{ints}
use Rattle.bound_cover.proofs.Sums.{sums-as}
use Rattle.bound_cover.proofs.numbers.is_triple_within.Goals as goal

pub returns : goal.returns
returns c =
    let a : FitsSigned w64 c.args.gain = (let h = c.ranges.gain.sfits in omega (arith, ints)) in
    let b : FitsSigned w64 c.args.gap = (let h = c.ranges.gap.sfits in omega (arith, ints)) in
    let d : FitsSigned w64 c.args.bound = (let h = c.ranges.bound.sfits in omega (arith, ints)) in
    let e : FitsSigned w64 c.args.most = (let h = c.ranges.most.sfits in omega (arith, ints)) in
    sums-as c.args.gain c.args.gap c.args.bound c.args.most _ _ _ _ a b d e c.from.ensures c.from-2.ensures c.from-3.ensures c.from-4.ensures
