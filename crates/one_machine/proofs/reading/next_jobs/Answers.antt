use Rattle.std.proofs.Common.{arith, sym, ◌∙◌}
use Rattle.tokens.proofs.Chains.{times_more, times_done, times_steps}
use Rattle.one_machine.specs.Texts.{job_after}
use Rattle.one_machine.proofs.reading.next_jobs.Goals as goal

pub loop-preserved : goal.loop-preserved
loop-preserved c = record {
  reads =
      sym (times_more job_after c.args.count c.loop.counter c.loop.jobs.items c.next_job.new.jobs.items c.loop.tokens c.next_job.new.tokens c.loop-test.true c.in_ok-next_job.ensures.reads)
      ∙ c.loop.invariant.reads;
  many = omega (arith, c.in_ok-next_job.ensures.one, c.loop.invariant.many);
  small = c.in_ok-next_job.ensures.small;
}

pub returns-clause-reads : goal.returns-clause-reads
returns-clause-reads c = sym c.loop.invariant.reads ∙ times_done job_after c.args.count c.loop.counter c.loop.jobs.items c.loop.tokens c.loop-test.false

pub returns-in_err-next_job-clause-reads : goal.returns-in_err-next_job-clause-reads
returns-in_err-next_job-clause-reads c = grind (arith, times_steps, c.loop.invariant, c.loop-test.true)
