-- Instances within the limits, and the numbers that stand for them.
use Rattle.std.proofs.Common.{◌≡◌, ℕ, zero, suc, ◌-◌, ◌≤◌, true, List, [], ◌∷◌, length, refl, ap, arith}
use Rattle.std.specs.List.{list_all}
use Rattle.std.proofs.lemmas.Bool.{and_parts, leb-true}
use Rattle.std.proofs.lemmas.Nat.{mul-le}
use Rattle.one_machine.specs.Instance.{Job, job_at, is_small_job, is_small, numbers_of, instance_of}
use Rattle.one_machine.specs.OwnWords.{completion, penalty}

-- the tests, as facts
pub record IsSmallJob (x : Job) : Type 0 where
  pub processing : x.processing ≤ 100000
  pub weight : x.weight ≤ 100000
  pub due : x.due ≤ 1000000000

pub record IsSmallInstance (jobs : List Job) : Type 0 where
  pub few : length jobs ≤ 100
  pub each : (d : ℕ) → IsSmallJob (job_at jobs d)
  pub all : list_all is_small_job jobs ≡ true

pub is_small_job-is : (x : Job) → is_small_job x ≡ true → IsSmallJob x
is_small_job-is x h =
    let parts = and_parts _ _ h in
    let two = and_parts _ _ parts.1 in
    record { processing = leb-true _ _ parts.0; weight = leb-true _ _ two.0; due = leb-true _ _ two.1 }

each_small : (jobs : List Job) → list_all is_small_job jobs ≡ true → (d : ℕ) → IsSmallJob (job_at jobs d)
each_small [] h d = record { processing = omega arith; weight = omega arith; due = omega arith }
each_small (x ∷ xs) h zero = is_small_job-is x (and_parts _ _ h).0
each_small (x ∷ xs) h (suc d) = each_small xs (and_parts _ _ h).1 d

pub is_small-is : (jobs : List Job) → is_small jobs ≡ true → IsSmallInstance jobs
unfolding is_small
is_small-is jobs h =
    let parts = and_parts _ _ h in
    record { few = leb-true _ _ parts.0; each = each_small jobs parts.1; all = parts.1 }

-- what a job costs that begins in time
pub penalty-most : (jobs : List Job) (time d : ℕ) → IsSmallInstance jobs → time ≤ 10000000 → penalty jobs time d ≤ 1010000000000
penalty-most jobs time d small early =
    let x = small.each d in
    let late : completion jobs time d - (job_at jobs d).due ≤ 10100000 = omega (arith, x.processing) in
    mul-le (job_at jobs d).weight (completion jobs time d - (job_at jobs d).due) 100000 10100000 x.weight late

-- the numbers of an instance spell it
pub instance_of-numbers_of : (jobs : List Job) → instance_of (numbers_of jobs) ≡ jobs
unfolding instance_of numbers_of
instance_of-numbers_of [] = refl
instance_of-numbers_of (x ∷ xs) = ap (λ (l : List Job). x ∷ l) (instance_of-numbers_of xs)

pub ruleset round_trip = (instance_of-numbers_of)
