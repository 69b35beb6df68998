-- An order of the jobs in the problem's own words, and what it costs.
use Rattle.std.specs.Prelude.{ℕ, ◌+◌, ◌-◌, ◌*◌, ℤ, pos, neg_ℤ, cond, List, [], ◌∷◌, length, Option, Some, None}
use Rattle.pending_rows.specs.Orders.{is_order}
use Rattle.one_machine.specs.Instance.{Job, job_at}

-- when a job is completed that begins at a time
abbrev pub completion : List Job → ℕ → ℕ → ℕ
completion jobs time d = time + (job_at jobs d).processing

-- what it costs: its weight for each unit of time that it is late
abbrev pub penalty : List Job → ℕ → ℕ → ℕ
penalty jobs time d = (job_at jobs d).weight * (completion jobs time d - (job_at jobs d).due)

-- what jobs cost that begin at a time and follow one another
abbrev pub cost : List Job → ℕ → List ℕ → ℕ
cost jobs time [] = 0
cost jobs time (d ∷ ds) = penalty jobs time d + cost jobs (completion jobs time d) ds

-- the negated cost of an order of all jobs from time 0 on, or none where the list is no such order
abbrev pub order_value : List Job → List ℕ → Option ℤ
order_value jobs ds = cond (is_order (length jobs) ds) (Some (neg_ℤ (pos (cost jobs 0 ds)))) None
