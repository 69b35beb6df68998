use Rattle.qubo.proofs.Passes.{lined, all-lined}
use Rattle.qubo.proofs.printing.push_lines.Goals as goal

pub loop-line-preserved : goal.loop-line-preserved
loop-line-preserved c = lined c.args.lines.now c.loop-line.line-index c.loop-line.out.items _ _ c.loop-line-test.true c.in_ok-push_line.ensures c.loop-line.invariant

pub returns : goal.returns
returns c = all-lined c.args.lines.now c.loop-line.line-index c.loop-line.out.items _ c.loop-line-test.false c.loop-line.invariant
