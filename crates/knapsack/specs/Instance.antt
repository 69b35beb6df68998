-- An instance of the bounded knapsack, and the whole numbers that stand for it.
use Rattle.std.specs.Prelude.{ℕ, ◌^◌, ℤ, pos, unsigned_abs, Bool, ◌&&◌, nat_le, List, [], ◌∷◌, length}
use Rattle.std.specs.List.{list_all}
use Rattle.knapsack.specs.declared.item.Item.{Item}

-- a capacity, and the items in the order of the text
pub record Instance : Type 0 where
  pub capacity : ℕ
  pub items : List Item

-- an item within the limits: profit and weight at most 10^9, at most 1,000 copies
abbrev pub is_small_item : Item → Bool
is_small_item x = nat_le x.profit 1000000000 && nat_le x.weight 1000000000 && nat_le x.copies 1000

-- an instance within the limits: at most 1,000 items, each within its own, and a capacity of at most 2^40
abbrev pub is_small : Instance → Bool
is_small i = nat_le i.capacity (2 ^ 40) && nat_le (length i.items) 1000 && list_all is_small_item i.items

-- the numbers of the items: profit, weight and copies of each
abbrev pub item_numbers : List Item → List ℤ
item_numbers [] = []
item_numbers (x ∷ xs) = pos x.profit ∷ (pos x.weight ∷ (pos x.copies ∷ item_numbers xs))

-- the numbers of an instance: the capacity, then those of the items
abbrev pub numbers_of : Instance → List ℤ
numbers_of i = pos i.capacity ∷ item_numbers i.items

-- the items that a list of numbers spells
unfoldable pub items_of : List ℤ → List Item
items_of (p ∷ (w ∷ (c ∷ rest))) = record { profit = unsigned_abs p; weight = unsigned_abs w; copies = unsigned_abs c } ∷ items_of rest
items_of _ = []

-- the instance that a list of numbers spells
abbrev pub instance_of : List ℤ → Instance
instance_of [] = record { capacity = 0; items = [] }
instance_of (c ∷ rest) = record { capacity = unsigned_abs c; items = items_of rest }
