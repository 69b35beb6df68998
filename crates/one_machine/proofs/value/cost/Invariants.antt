use Rattle.std.proofs.Common.{◌≡◌, ◌+◌, ◌*◌, ◌≤◌, true, nat_lt, length}
use Rattle.std.specs.List.{list_all}
use Rattle.one_machine.specs.OwnWords as words
use Rattle.one_machine.proofs.value.cost.Given as goal

-- the cost so far and that of the jobs that are left are the whole cost
abbrev pub invariant-jobs : goal.invariant-jobs
invariant-jobs l = record {
  inside : list_all (λ v. nat_lt v (length l.model.jobs.items)) l.rest ≡ true;
  same : words.cost l.model.jobs.items 0 l.order ≡ l.total + words.cost l.model.jobs.items l.time l.rest;
  early : l.time + 100000 * length l.rest ≤ 10000000;
  small : l.total + 1010000000000 * length l.rest ≤ 101000000000000;
}

abbrev pub decreases-jobs : goal.decreases-jobs
decreases-jobs l = length l.rest
