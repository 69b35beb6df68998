use Rattle.std.proofs.Common.{◌≡◌, drop, ◌≤ℤ◌, to_z, of_z, w64, arith}
use Rattle.std.proofs.lemmas.Int.{ints, to_z-of_z}
use Rattle.benefit_rows.specs.Benefits.{differences, rank_of}
use Rattle.pair_rows.specs.Shown.{instance_in}
use Rattle.pair_rows.specs.Laws.Gaps.{same-cells}
use Rattle.pair_rows.proofs.Layers.{told-rank}
use Rattle.pair_rows.proofs.rows.PairRows.may_cover.Goals as goal

pub may_be_within-requires-clause-from_low : goal.may_be_within-requires-clause-from_low
may_be_within-requires-clause-from_low c = (told-rank (instance_in c.args.self.now) c.args.k c.args._a.now c.args.of_a.rank c.args.self.now.kept c.requires.covering c.requires.covering_print.rank).low

pub may_be_within-requires-clause-from_high : goal.may_be_within-requires-clause-from_high
may_be_within-requires-clause-from_high c = (told-rank (instance_in c.args.self.now) c.args.k c.args._a.now c.args.of_a.rank c.args.self.now.kept c.requires.covering c.requires.covering_print.rank).high

pub may_be_within-requires-clause-to_low : goal.may_be_within-requires-clause-to_low
may_be_within-requires-clause-to_low c = (told-rank (instance_in c.args.self.now) c.args.k c.args._s.now c.args.of_s.rank c.args.self.now.kept c.requires.state c.requires.print.rank).low

pub may_be_within-requires-clause-to_high : goal.may_be_within-requires-clause-to_high
may_be_within-requires-clause-to_high c = (told-rank (instance_in c.args.self.now) c.args.k c.args._s.now c.args.of_s.rank c.args.self.now.kept c.requires.state c.requires.print.rank).high

pub returns : goal.returns
returns c =
    let i = instance_in c.args.self.now in
    let k = c.args.k in
    let a = c.args._a.now in
    let s = c.args._s.now in
    let long = same-cells i k a s c.requires.covering c.requires.state in
    let from = told-rank i k a c.args.of_a.rank c.args.self.now.kept c.requires.covering c.requires.covering_print.rank in
    let to = told-rank i k s c.args.of_s.rank c.args.self.now.kept c.requires.state c.requires.print.rank in
    let distance = c.least_distance-distance.result in
    let read : to_z w64 (of_z w64 distance) ≡ distance = to_z-of_z w64 distance (omega (arith, ints, c.least_distance-distance.type_inv)) in
    let least : distance ≤ℤ rank_of (differences (drop k a) (drop k s)) =
    c.least_distance-distance.ensures.least (drop k a) (drop k s) long c.requires.covering_print.hash c.requires.print.hash in
    rw (to_z-of_z w64 c.args.most c.ranges.most) at c.may_be_within.ensures (drop k a) (drop k s) long from.is to.is (rw read least)
