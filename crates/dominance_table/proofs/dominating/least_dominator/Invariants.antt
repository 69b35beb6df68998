use Rattle.std.proofs.Common.{◌≡◌, ◌<◌, ◌-◌, length}
use Rattle.dominance_table.specs.Groups.{fold_at, group_fold}
use Rattle.dominance_table.proofs.Walks.{IsSoFar}
use Rattle.dominance_table.proofs.dominating.least_dominator.Given as goal

abbrev pub decreases-loop-at : goal.decreases-loop-at
decreases-loop-at g l = length l.runs - l.at

abbrev pub invariant-loop-at : goal.invariant-loop-at
invariant-loop-at g l = record {
  least : IsSoFar (g.M.DpModel.meaning (g.M.DpModel.numbers l.model)) l.sought.depth l.sought.row.now l.sought.value l.seen.words l.seen.entries.now l.seen.cells.now l.runs l.at l.least;
  fold : l.at < length l.runs → fold_at l.runs l.at ≡ group_fold l.sought.depth l.sought.bucket;
}
