use Rattle.std.proofs.Common.{get_or, pos, w64, rules, sym}
use mir.Val.{SFits}
use Rattle.pair_rows.proofs.ZeroRows.{all_zero-more, all_zero-done}
use Rattle.pair_rows.proofs.row.is_zero_row.Goals as goal

pub loop-i-preserved : goal.loop-i-preserved
loop-i-preserved c =
    let fits : SFits w64 (get_or c.args.row.now c.loop-i.i (pos 0)) = search rules in
    let more = all_zero-more c.args.row.now c.loop-i.i c.is_at_most.result c.loop-i-test.true fits c.is_at_most.ensures c.loop-i.invariant in
    sym (rw c.if-not-is_at_most.false at more)

pub returns : goal.returns
returns c = all_zero-done c.args.row.now c.loop-i.i c.loop-i-test.false c.loop-i.invariant

pub returns-then-not-is_at_most : goal.returns-then-not-is_at_most
returns-then-not-is_at_most c =
    let fits : SFits w64 (get_or c.args.row.now c.loop-i.i (pos 0)) = search rules in
    let more = all_zero-more c.args.row.now c.loop-i.i c.is_at_most.result c.loop-i-test.true fits c.is_at_most.ensures c.loop-i.invariant in
    sym (rw c.if-not-is_at_most.true at more)
