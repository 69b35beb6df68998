use Rattle.std.proofs.Common.{arith, ap, Some}
use Rattle.std.proofs.lemmas.Int.{ints}
use Rattle.pair_rows.specs.Shown.{instance_in}
use Rattle.pair_rows.proofs.Layers.{layer-has, later-count, rough-adds}
use Rattle.pair_rows.proofs.Writing.{tail-is}
use Rattle.pair_rows.proofs.rows.PairRows.rough.Goals as goal

pub rank-requires : goal.rank-requires
rank-requires c =
    let i = instance_in c.args.self.now in
    rw tail-is (omega (arith, ints, (layer-has i c.args.k c.args.s.now c.args.self.now.kept c.requires).rank))

pub index-requires : goal.index-requires
index-requires c =
    let i = instance_in c.args.self.now in
    let state = c.requires in
    omega (arith, state.layer, later-count i c.args.self.now.later.items c.args.self.now.summed)

pub overflow_add-result : goal.overflow_add-result
overflow_add-result c =
    let i = instance_in c.args.self.now in
    let sum = rough-adds i c.args.k c.args.s.now c.args.self.now.later.items c.rank.result c.index.result.now c.args.self.now.kept c.requires
    c.args.self.now.summed (rw tail-is at c.rank.ensures) c.index.ensures in
    omega (arith, ints)

pub returns : goal.returns
returns c =
    let i = instance_in c.args.self.now in
    let sum = rough-adds i c.args.k c.args.s.now c.args.self.now.later.items c.rank.result c.index.result.now c.args.self.now.kept c.requires
    c.args.self.now.summed (rw tail-is at c.rank.ensures) c.index.ensures in
    ap (λ r. Some r) (omega (arith, ints))
