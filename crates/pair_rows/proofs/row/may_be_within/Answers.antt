use Rattle.std.proofs.Common.{w64, sym}
use Rattle.std.proofs.lemmas.Int.{to_z-of_z}
use Rattle.pair_rows.proofs.ByDistance.{Limit, limit-of, more-of, by-ranks, by-distance}
use Rattle.pair_rows.proofs.row.may_be_within.Goals as goal

limit : (c : goal.After-min) → Limit c.args.from_rank c.args.to_rank c.args.most c.min.result
limit c =
    let r = c.requires in
    limit-of c.args.from_rank c.args.to_rank c.args.most c.min.result r.from_low r.from_high r.to_low r.to_high c.ranges.most c.if-more-most.true c.min.ensures.value

pub overflow_sub-result : goal.overflow_sub-result
overflow_sub-result c = (limit c).fits

pub returns-then-more-most : goal.returns-then-more-most
returns-then-more-most c = λ from to long from_is to_is least test.
    by-distance from to c.args.most c.args.least_distance long least
    (rw (sym from_is, sym to_is) (rw (to_z-of_z w64 c.args.least_distance c.ranges.least_distance, (limit c).is) at test))

pub returns-else-more-most : goal.returns-else-more-most
returns-else-more-most c = λ from to long from_is to_is least test.
    let r = c.requires in
    let more = more-of c.args.from_rank c.args.to_rank r.from_low r.from_high r.to_low r.to_high in
    by-ranks from to c.args.most long (rw (sym from_is, sym to_is) (rw (more.is, to_z-of_z w64 c.args.most c.ranges.most) at test))
