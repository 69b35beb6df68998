use Rattle.std.proofs.Common.{◌≡◌, ◌+◌, ◌++◌, length, map, take, vec_capacity}
use Rattle.layer_candidates.specs.Steps.{step_of, entered}
use Rattle.layer_candidates.proofs.descending.descend.Given as goal

abbrev pub invariant-kept : goal.invariant-kept
invariant-kept l = record {
  members : l.members.items ≡ entered l.ways (length l.fn.steps.items) (take l.i l.kept);
  steps : l.steps.items ≡ l.fn.steps.items ++ map (step_of l.ways) (take l.i l.kept);
  count : length l.members.items ≡ l.i;
  steps_count : length l.steps.items ≡ length l.fn.steps.items + l.i;
  members_capacity : vec_capacity l.members ≡ vec_capacity l.fn.members;
  steps_capacity : vec_capacity l.steps ≡ vec_capacity l.fn.steps;
}
