-- What it means that an instance is within the limits.
use Rattle.std.proofs.Common.{◌≡◌, ◌≤◌, ◌^◌, true, length}
use Rattle.std.specs.List.{list_all}
use Rattle.std.proofs.lemmas.Bool.{and_parts, leb-true}
use Rattle.knapsack.specs.declared.item.Item.{Item}
use Rattle.knapsack.specs.Instance.{Instance, is_small, is_small_item}
use Rattle.knapsack.specs.Limits.{IsSmallItem}

pub is_small_item-is : (x : Item) → is_small_item x ≡ true → IsSmallItem x
is_small_item-is x h =
    let parts = and_parts _ _ h in
    let two = and_parts _ _ parts.0 in
    record { profit = leb-true _ _ two.0; weight = leb-true _ _ two.1; copies = leb-true _ _ parts.1 }

-- an instance within the limits
pub record IsSmallInstance (i : Instance) : Type 0 where
  pub capacity : i.capacity ≤ 2 ^ 40
  pub count : length i.items ≤ 1000
  pub items : list_all is_small_item i.items ≡ true

pub is_small-is : (i : Instance) → is_small i ≡ true → IsSmallInstance i
is_small-is i h =
    let parts = and_parts _ _ h in
    let two = and_parts _ _ parts.0 in
    record { capacity = leb-true _ _ two.0; count = leb-true _ _ two.1; items = parts.1 }
