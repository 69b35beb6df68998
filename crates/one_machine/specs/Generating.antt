-- Instances that are drawn from a seed.
use Rattle.std.specs.Prelude.{ℕ, ◌+◌, ◌*◌, ◌%◌, List, [], ◌∷◌, ◌++◌}
use Rattle.draws.specs.Draws.{next, drawn, steps}
use Rattle.one_machine.specs.Instance.{Job}

-- one of n jobs, by three draws: processing time and weight from 1 to 10, and a due time below 10 n
abbrev pub job_drawn : ℕ → ℕ → Job
job_drawn n x = record { processing = 1 + drawn x % 10; weight = 1 + drawn (next x) % 10; due = drawn (next (next x)) % (10 * n) }

-- the draws that it leaves
abbrev pub after_job : ℕ → ℕ
after_job x = next (next (next x))

-- the jobs with one more
abbrev pub with_job : ℕ → List Job → ℕ → List Job × ℕ
with_job n jobs x = (jobs ++ job_drawn n x ∷ [], after_job x)

-- the instance of n jobs from a seed
abbrev pub generated : ℕ → ℕ → List Job
generated n seed = (steps (with_job n) n [] seed).0
