-- The bounded knapsack as a dynamic program: layer k decides the copies of item k, and a state is the capacity that is left.
use Rattle.std.specs.Prelude.{ℕ, ◌+◌, ◌-◌, ◌*◌, max, ℤ, pos, unsigned_abs, Bool, false, cond, nat_le, List, [], ◌∷◌, length, drop, Some, None, slice_index_or}
use Rattle.dp_model.specs.Dp.{Dp}
use Rattle.knapsack.specs.declared.item.Item.{Item}
use Rattle.knapsack.specs.Instance.{Instance, instance_of}
use Rattle.knapsack.specs.Order.{ratio_order, fill}

-- the capacity that a state has left
abbrev pub left : List ℤ → ℕ
left (r ∷ _) = unsigned_abs r
left [] = 0

-- one number from 0 to the capacity
abbrev pub is_left : ℕ → List ℤ → Bool
is_left capacity (pos r ∷ []) = nat_le r capacity
is_left capacity _ = false

-- the item that a layer decides
abbrev pub item_at : List Item → ℕ → Item
item_at items k = slice_index_or items k (record { profit = 0; weight = 0; copies = 0 })

-- the greedy fill of what is left by the items from the layer on
abbrev pub rough_from : List Item → ℕ → ℕ → ℕ
rough_from items k rest = fill (ratio_order (drop k items)) rest

-- the dynamic program of an instance
abbrev pub program_of : Instance → Dp
program_of i = record {
  vars = length i.items;
  words = 1;
  choices = λ k. (item_at i.items k).copies + 1;
  root = pos i.capacity ∷ [];
  root_value = pos 0;
  is_state = λ k s. is_left i.capacity s;
  allowed = λ k s d. nat_le (d * (item_at i.items k).weight) (left s);
  step = λ k s d. pos (left s - d * (item_at i.items k).weight) ∷ [];
  gain = λ k s d. pos (d * (item_at i.items k).profit);
  merged = λ k a s. pos (max (left a) (left s)) ∷ [];
  gap = λ k a s. cond (nat_le (left s) (left a)) (Some (pos 0)) None;
  rough = λ k s. Some (pos (rough_from i.items k (left s)));
  rank = λ k s. pos (left s);
  bucket = λ k s. 0;
  hash = λ k s. left s;
}

-- the dynamic program that the numbers of an instance spell
abbrev pub program : List ℤ → Dp
program numbers = program_of (instance_of numbers)
