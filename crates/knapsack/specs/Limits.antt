-- What it means that an instance is within the limits.
use Rattle.std.proofs.Common.{◌≡◌, ◌≤◌, true, List, length}
use Rattle.std.specs.List.{list_all}
use Rattle.knapsack.specs.declared.item.Item.{Item}
use Rattle.knapsack.specs.Instance.{is_small_item}

-- an item within the limits
pub record IsSmallItem (x : Item) : Type 0 where
  pub profit : x.profit ≤ 1000000000
  pub weight : x.weight ≤ 1000000000
  pub copies : x.copies ≤ 1000

-- at most 1,000 items, each within the limits
pub record AreSmall (items : List Item) : Type 0 where
  pub count : length items ≤ 1000
  pub each : list_all is_small_item items ≡ true
