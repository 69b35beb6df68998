use Rattle.std.proofs.Common.{arith, ◌∙◌, w64}
use Rattle.std.proofs.lemmas.Int.{ints, to_z-of_z}
use Rattle.pair_rows.specs.Shown.{instance_in}
use Rattle.pair_rows.specs.Laws.Sizes.{rank_of-state}
use Rattle.pair_rows.proofs.Layers.{layer-has}
use Rattle.pair_rows.proofs.Writing.{tail-is}
use Rattle.pair_rows.proofs.rows.PairRows.covers_within.Goals as goal

pub gap_within-requires-clause-from_rank : goal.gap_within-requires-clause-from_rank
gap_within-requires-clause-from_rank c =
    let i = instance_in c.args.self.now in
    rw tail-is (to_z-of_z w64 c.args.rank_a c.ranges.rank_a ∙ (c.requires.covering_rank ∙ rank_of-state i c.args.k c.args.a.now c.requires.covering))

pub gap_within-requires-clause-to_rank : goal.gap_within-requires-clause-to_rank
gap_within-requires-clause-to_rank c =
    let i = instance_in c.args.self.now in
    rw tail-is (to_z-of_z w64 c.args.rank_s c.ranges.rank_s ∙ (c.requires.rank ∙ rank_of-state i c.args.k c.args.s.now c.requires.state))

pub gap_within-requires-clause-from_size : goal.gap_within-requires-clause-from_size
gap_within-requires-clause-from_size c =
    let i = instance_in c.args.self.now in
    rw tail-is (omega (arith, ints, (layer-has i c.args.k c.args.a.now c.args.self.now.kept c.requires.covering).rank))

pub gap_within-requires-clause-to_size : goal.gap_within-requires-clause-to_size
gap_within-requires-clause-to_size c =
    let i = instance_in c.args.self.now in
    rw tail-is (omega (arith, ints, (layer-has i c.args.k c.args.s.now c.args.self.now.kept c.requires.state).rank))

pub returns : goal.returns
returns c = rw (tail-is c.args.k c.args.a.now, tail-is c.args.k c.args.s.now, to_z-of_z w64 c.args.most c.ranges.most) at c.gap_within.ensures
