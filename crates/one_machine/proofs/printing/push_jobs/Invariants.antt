use Rattle.std.proofs.Common.{◌≡◌, ◌++◌, drop}
use Rattle.std.specs.List.{flat_map}
use Rattle.one_machine.specs.Texts.{line_of}
use Rattle.one_machine.proofs.printing.push_jobs.Given as goal

-- what was written and the lines of the jobs that are left make the whole
abbrev pub invariant-loop-job : goal.invariant-loop-job
invariant-loop-job l = l.initial.out.items ++ flat_map line_of l.jobs ≡ l.out.items ++ flat_map line_of (drop l.job-index l.jobs)
