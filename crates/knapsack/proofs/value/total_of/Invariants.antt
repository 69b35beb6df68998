use Rattle.std.proofs.Common.{◌≡◌, ◌+◌, ◌*◌, ◌≤◌, drop}
use Rattle.knapsack.specs.OwnWords.{has_copies, total_weight, total_profit}
use Rattle.knapsack.proofs.value.total_of.Given as goal

-- the totals so far and those of the items that are left are the whole totals
abbrev pub invariant-items : goal.invariant-items
invariant-items l = record {
  copies : has_copies l.items l.copies ≡ has_copies (drop l.number l.items) (drop l.number l.copies);
  weighs : total_weight l.items l.copies ≡ l.weight + total_weight (drop l.number l.items) (drop l.number l.copies);
  is_worth : total_profit l.items l.copies ≡ l.profit + total_profit (drop l.number l.items) (drop l.number l.copies);
  small_weight : l.weight ≤ l.number * 1000000000000;
  small_profit : l.profit ≤ l.number * 1000000000000;
}
