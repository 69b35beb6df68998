-- Instances that are drawn from a seed.
use Rattle.std.specs.Prelude.{ℕ, ◌+◌, ◌*◌, ◌/◌, ◌%◌, List, [], ◌∷◌, ◌++◌}
use Rattle.std.specs.List.{sum_by}
use Rattle.draws.specs.Draws.{next, drawn, steps}
use Rattle.knapsack.specs.declared.item.Item.{Item}
use Rattle.knapsack.specs.Instance.{Instance}

-- an item, by three draws
abbrev pub item_drawn : ℕ → Item
item_drawn x = record { profit = 1 + drawn x % 100; weight = 1 + drawn (next x) % 50; copies = 1 + drawn (next (next x)) % 3 }

-- the draws that it leaves
abbrev pub after_item : ℕ → ℕ
after_item x = next (next (next x))

-- the items with one more
abbrev pub with_item : List Item → ℕ → List Item × ℕ
with_item items x = (items ++ item_drawn x ∷ [], after_item x)

-- this many items, one after another
abbrev pub items_drawn : ℕ → ℕ → List Item
items_drawn n seed = (steps with_item n [] seed).0

-- what all copies of all items weigh
abbrev pub whole_weight : List Item → ℕ
whole_weight items = sum_by (λ x. x.weight * x.copies) items

-- the instance of n items from a seed: its capacity is half of what they weigh, rounded down
abbrev pub generated : ℕ → ℕ → Instance
generated n seed = record { capacity = whole_weight (items_drawn n seed) / 2; items = items_drawn n seed }
