use Rattle.std.proofs.Common.{◌+◌}
use Rattle.max_two_sat.proofs.PrintedLines.{row-printed, row-all-printed}
use Rattle.max_two_sat.proofs.lines.push_row.Goals as goal

pub loop-index-preserved : goal.loop-index-preserved
loop-index-preserved c = row-printed c.args.row.now c.args.i (c.args.i + 1) c.loop-index.index c.loop-index.out.items _ _ c.loop-index-test.true c.in_ok-push_pair.ensures c.loop-index.invariant

pub returns : goal.returns
returns c = row-all-printed c.args.row.now c.args.i (c.args.i + 1) c.loop-index.index c.loop-index.out.items _ c.loop-index-test.false c.loop-index.invariant
