use Rattle.std.proofs.Common.{◌≡◌, ◌≤◌, ◌-◌, take}
use Rattle.dominance_table.specs.Dominator.{dominator}
use Rattle.dominance_table.specs.Entries.{with_rows}
use Rattle.dominance_table.proofs.dominating.least_in_run.Given as goal

abbrev pub decreases-loop-at : goal.decreases-loop-at
decreases-loop-at g l = l.end - l.at

abbrev pub invariant-loop-at : goal.invariant-loop-at
invariant-loop-at g l = record {
  least : l.least ≡ dominator (g.M.DpModel.meaning (g.M.DpModel.numbers l.model)) (take l.at (with_rows l.seen.words l.seen.entries.now l.seen.cells.now)) l.sought.depth l.sought.row.now l.sought.value;
  from : l.from ≤ l.at;
  within : l.at ≤ l.end;
}
