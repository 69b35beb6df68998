use Rattle.std.proofs.Common.{◌≡◌, ◌+◌, ◌-◌, length, true}
use Rattle.std.specs.List.{list_all}
use Rattle.tokens.specs.Grammar.{times}
use Rattle.one_machine.specs.Instance.{is_small_job}
use Rattle.one_machine.specs.Texts.{job_after}
use Rattle.one_machine.proofs.reading.next_jobs.Given as goal

-- reading goes on with what was made so far
abbrev pub invariant-loop : goal.invariant-loop
invariant-loop l = record {
  reads : times job_after (l.count - l.counter) l.jobs.items l.tokens ≡ times job_after l.count l.initial.jobs.items l.initial.tokens;
  many : length l.jobs.items ≡ length l.initial.jobs.items + l.counter;
  small : list_all is_small_job l.jobs.items ≡ true;
}
