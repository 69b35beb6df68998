use Rattle.std.proofs.Common.{◌≡◌, drop, arith, ap, ◌∙◌, Some}
use Rattle.std.proofs.lemmas.Int.{ints}
use Rattle.benefit_rows.specs.Benefits.{rank_of}
use Rattle.pair_rows.specs.Shown.{instance_in}
use Rattle.pair_rows.specs.Laws.Sizes.{rank_of-state}
use Rattle.pair_rows.proofs.Layers.{later-count, rough-adds}
use Rattle.pair_rows.proofs.rows.PairRows.rough_by_rank.Goals as goal

pub index-requires : goal.index-requires
index-requires c =
    let i = instance_in c.args.self.now in
    let state = c.requires.state in
    omega (arith, state.layer, later-count i c.args.self.now.later.items c.args.self.now.summed)

pub overflow_add-result : goal.overflow_add-result
overflow_add-result c =
    let i = instance_in c.args.self.now in
    let state = c.requires.state in
    let rank : c.args.rank ≡ rank_of (drop c.args.k c.args._s.now) = c.requires.rank ∙ rank_of-state i c.args.k c.args._s.now state in
    let sum = rough-adds i c.args.k c.args._s.now c.args.self.now.later.items c.args.rank c.index.result.now c.args.self.now.kept state c.args.self.now.summed rank c.index.ensures in
    omega (arith, ints)

pub returns : goal.returns
returns c =
    let i = instance_in c.args.self.now in
    let state = c.requires.state in
    let rank : c.args.rank ≡ rank_of (drop c.args.k c.args._s.now) = c.requires.rank ∙ rank_of-state i c.args.k c.args._s.now state in
    let sum = rough-adds i c.args.k c.args._s.now c.args.self.now.later.items c.args.rank c.index.result.now c.args.self.now.kept state c.args.self.now.summed rank c.index.ensures in
    ap (λ r. Some r) (omega (arith, ints))
