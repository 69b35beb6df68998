-- An instance of one machine with weighted tardiness, and the whole numbers that stand for it: it is the list of its jobs.
use Rattle.std.specs.Prelude.{ℕ, ℤ, pos, unsigned_abs, Bool, ◌&&◌, nat_le, List, [], ◌∷◌, length, get_or}
use Rattle.std.specs.List.{list_all}
pub use Rattle.one_machine.specs.declared.job.Job.{Job}

-- a job of zeros, which stands for a number that is none
abbrev pub no_job : Job
no_job = record { processing = 0; weight = 0; due = 0 }

abbrev pub job_at : List Job → ℕ → Job
job_at jobs d = get_or jobs d no_job

-- a job within the limits: processing time and weight at most 100,000, due at most at 10^9
abbrev pub is_small_job : Job → Bool
is_small_job x = nat_le x.processing 100000 && (nat_le x.weight 100000 && nat_le x.due 1000000000)

-- an instance within the limits: at most 100 jobs
unfoldable pub is_small : List Job → Bool
is_small jobs = nat_le (length jobs) 100 && list_all is_small_job jobs

-- the numbers of an instance: processing time, weight and due time of each job
unfoldable pub numbers_of : List Job → List ℤ
numbers_of [] = []
numbers_of (x ∷ xs) = pos x.processing ∷ (pos x.weight ∷ (pos x.due ∷ numbers_of xs))

-- the instance that a list of numbers spells
unfoldable pub instance_of : List ℤ → List Job
instance_of (p ∷ (w ∷ (t ∷ rest))) = record { processing = unsigned_abs p; weight = unsigned_abs w; due = unsigned_abs t } ∷ instance_of rest
instance_of _ = []
