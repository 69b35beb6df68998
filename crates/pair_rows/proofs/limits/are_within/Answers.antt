use Rattle.std.proofs.Common.{sym, pos, get_or, w64, rules}
use mir.Val.{SFits}
use Rattle.pair_rows.proofs.LayerLimits.{limit-within, within-more, within-done}
use Rattle.pair_rows.proofs.limits.are_within.Goals as goal

pub is_at_most-requires : goal.is_at_most-requires
is_at_most-requires c =
    let low = (limit-within c.args.limits.now c.loop-i.i c.requires.positive).0 in
    search rules

pub loop-i-preserved : goal.loop-i-preserved
loop-i-preserved c =
    let fits : SFits w64 (get_or c.args.benefits.now c.loop-i.i (pos 0)) = search rules in
    let limit_fits : SFits w64 (get_or c.args.limits.now c.loop-i.i (pos 0)) = search rules in
    let more = within-more c.args.benefits.now c.args.limits.now c.loop-i.i c.is_at_most.result c.loop-i-test.true c.requires.cells fits limit_fits c.is_at_most.ensures c.loop-i.invariant in
    sym (rw c.if-not-is_at_most.false at more)

pub returns : goal.returns
returns c = within-done c.args.benefits.now c.args.limits.now c.loop-i.i c.loop-i-test.false c.loop-i.invariant

pub returns-then-not-is_at_most : goal.returns-then-not-is_at_most
returns-then-not-is_at_most c =
    let fits : SFits w64 (get_or c.args.benefits.now c.loop-i.i (pos 0)) = search rules in
    let limit_fits : SFits w64 (get_or c.args.limits.now c.loop-i.i (pos 0)) = search rules in
    let more = within-more c.args.benefits.now c.args.limits.now c.loop-i.i c.is_at_most.result c.loop-i-test.true c.requires.cells fits limit_fits c.is_at_most.ensures c.loop-i.invariant in
    sym (rw c.if-not-is_at_most.true at more)
