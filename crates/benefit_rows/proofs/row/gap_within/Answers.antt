use Rattle.std.proofs.Common.{Some, sym, ap, ◌∙◌}
use Rattle.benefit_rows.specs.Benefits.{differences, rank_of, gap_of}
use Rattle.benefit_rows.proofs.Distances.{gap_facts, LimitFacts, limit_facts, half_facts, by_ranks, within_most, beyond_most, some_within, none_within}
use Rattle.benefit_rows.proofs.Narrow.{below_narrow}
use Rattle.benefit_rows.proofs.row.gap_within.Goals as goal
use Rattle.benefit_rows.proofs.row.gap_within.Goals.{then-from_rank-lt-NARROW, else-from_rank-lt-NARROW}

pub overflow_sub-more : goal.overflow_sub-more
overflow_sub-more c =
    (gap_facts c.args.from.now c.args.to.now c.args.from_rank c.args.to_rank c.requires.lengths c.requires.from_rank c.requires.to_rank c.requires.from_size c.requires.to_size).fits

pub returns-then-most-max : goal.returns-then-most-max
returns-then-most-max c =
    let facts = gap_facts c.args.from.now c.args.to.now c.args.from_rank c.args.to_rank c.requires.lengths c.requires.from_rank c.requires.to_rank c.requires.from_size c.requires.to_size in
    by_ranks c.args.from.now c.args.to.now c.args.from_rank c.args.to_rank c.args.most c.max.result facts c.ranges.most c.max.ensures.value c.if-most-max.true

limit : (c : goal.After-min) → LimitFacts c.args.from.now c.args.to.now c.args.from_rank c.args.to_rank c.args.most c.min.result
limit c =
    let facts = gap_facts c.args.from.now c.args.to.now c.args.from_rank c.args.to_rank c.requires.lengths c.requires.from_rank c.requires.to_rank c.requires.from_size c.requires.to_size in
    limit_facts c.args.from.now c.args.to.now c.args.from_rank c.args.to_rank c.args.most c.max.result c.min.result facts c.requires.to_size c.ranges.most c.max.ensures.value c.if-most-max.false c.min.ensures.value

pub overflow_mul-min : goal.overflow_mul-min
overflow_mul-min c = (limit c).product_fits

pub overflow_sub-min : goal.overflow_sub-min
overflow_sub-min c = (limit c).fits

pub distance_within-requires-clause-narrow : goal.distance_within-requires-clause-narrow
distance_within-requires-clause-narrow c flag =
    elim c.if-from_rank-lt-NARROW.branch [
      | then-from_rank-lt-NARROW w ↦ record {
        from_rank = below_narrow c.args.from.now c.args.from_rank c.ranges.from_rank c.requires.from_rank w.if-from_rank-lt-NARROW.true;
        to_rank = below_narrow c.args.to.now c.args.to_rank c.ranges.to_rank c.requires.to_rank (sym w.narrow-is ∙ flag);
      }
      | else-from_rank-lt-NARROW w ↦ absurd cc
    ]

pub returns-in_err-sizes : goal.returns-in_err-sizes
returns-in_err-sizes c =
    let facts = gap_facts c.args.from.now c.args.to.now c.args.from_rank c.args.to_rank c.requires.lengths c.requires.from_rank c.requires.to_rank c.requires.from_size c.requires.to_size in
    let to = limit_facts c.args.from.now c.args.to.now c.args.from_rank c.args.to_rank c.args.most c.max.result c.min.result facts c.requires.to_size c.ranges.most c.max.ensures.value c.if-most-max.false c.min.ensures.value in
    let more = none_within to.limit (rank_of (differences c.args.from.now c.args.to.now)) (rw to.is at c.in_err-sizes.ensures) in
    c.from_residual.ensures ∙ sym (beyond_most c.args.most (gap_of c.args.from.now c.args.to.now) (to.beyond more))

pub overflow_add-result : goal.overflow_add-result
overflow_add-result c =
    let facts = gap_facts c.args.from.now c.args.to.now c.args.from_rank c.args.to_rank c.requires.lengths c.requires.from_rank c.requires.to_rank c.requires.from_size c.requires.to_size in
    (half_facts c.args.from.now c.args.to.now c.args.from_rank c.args.to_rank c.in_ok-sizes.sizes facts c.requires.to_size (some_within _ _ _ c.in_ok-sizes.ensures).0).fits

pub returns : goal.returns
returns c =
    let facts = gap_facts c.args.from.now c.args.to.now c.args.from_rank c.args.to_rank c.requires.lengths c.requires.from_rank c.requires.to_rank c.requires.from_size c.requires.to_size in
    let to = limit_facts c.args.from.now c.args.to.now c.args.from_rank c.args.to_rank c.args.most c.max.result c.min.result facts c.requires.to_size c.ranges.most c.max.ensures.value c.if-most-max.false c.min.ensures.value in
    let got = some_within to.limit (rank_of (differences c.args.from.now c.args.to.now)) c.in_ok-sizes.sizes (rw to.is at c.in_ok-sizes.ensures) in
    let is = (half_facts c.args.from.now c.args.to.now c.args.from_rank c.args.to_rank c.in_ok-sizes.sizes facts c.requires.to_size got.0).is in
    ap Some is ∙ sym (within_most c.args.most (gap_of c.args.from.now c.args.to.now) (to.within got.1))
