use Rattle.std.proofs.Common.{arith, sym, ◌∙◌}
use Rattle.tokens.proofs.Chains.{times_more, times_done, times_steps}
use Rattle.qubo.specs.Reading.{line_after}
use Rattle.qubo.proofs.reading.next_lines.Goals as goal

pub loop-preserved : goal.loop-preserved
loop-preserved c = record {
  reads =
      sym (times_more (line_after c.args.variables) c.args.count c.loop.counter c.loop.lines.items c.next_line.new.lines.items c.loop.tokens c.next_line.new.tokens c.loop-test.true c.in_ok-next_line.ensures.reads)
      ∙ c.loop.invariant.reads;
  many = omega (arith, c.in_ok-next_line.ensures.one, c.loop.invariant.many);
  kept = c.in_ok-next_line.ensures.kept;
}

pub returns-clause-reads : goal.returns-clause-reads
returns-clause-reads c = sym c.loop.invariant.reads ∙ times_done (line_after c.args.variables) c.args.count c.loop.counter c.loop.lines.items c.loop.tokens c.loop-test.false

pub returns-in_err-next_line-clause-reads : goal.returns-in_err-next_line-clause-reads
returns-in_err-next_line-clause-reads c = grind (arith, times_steps, c.loop.invariant, c.loop-test.true)
