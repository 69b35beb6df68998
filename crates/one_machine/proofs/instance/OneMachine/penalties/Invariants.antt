use Rattle.std.proofs.Common.{◌≡◌, ◌-◌, ◌≤◌, length}
use Rattle.node_sets.specs.Sums.{sum_below}
use Rattle.node_sets.specs.Sets.{has}
use Rattle.one_machine.specs.OwnWords.{penalty}
use Rattle.one_machine.proofs.instance.OneMachine.penalties.Given as goal

-- the members below the next one are summed up
abbrev pub invariant-members : goal.invariant-members
invariant-members l = record {
  row : l.rest.row ≡ l.members;
  from : l.rest.from ≤ length l.self.jobs.items;
  total : l.total ≡ sum_below l.rest.from (has l.members) (penalty l.self.jobs.items l.time);
}

abbrev pub decreases-members : goal.decreases-members
decreases-members l = length l.self.jobs.items - l.rest.from
