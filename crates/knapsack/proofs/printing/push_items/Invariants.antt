use Rattle.std.proofs.Common.{◌≡◌, ◌++◌, drop}
use Rattle.knapsack.specs.Printing.{line_of}
use Rattle.std.specs.List.{flat_map}
use Rattle.knapsack.proofs.printing.push_items.Given as goal

-- what was written and the lines of the items that are left make the whole
abbrev pub invariant-loop-item : goal.invariant-loop-item
invariant-loop-item l = l.initial.out.items ++ flat_map line_of l.items ≡ l.out.items ++ flat_map line_of (drop l.item-index l.items)
