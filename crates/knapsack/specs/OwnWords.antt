-- A solution in the problem's own words: copies of each item, within the capacity.
use Rattle.std.specs.Prelude.{◌≡◌, ℕ, ◌+◌, ◌*◌, ◌^◌, ◌<◌, ℤ, pos, Bool, true, false, ◌&&◌, cond, nat_le, List, [], ◌∷◌, Option, Some, None}
use Rattle.knapsack.specs.declared.item.Item.{Item}
use Rattle.knapsack.specs.Instance.{Instance}

-- a number of copies for each item, none above what the item has
abbrev pub has_copies : List Item → List ℕ → Bool
has_copies [] [] = true
has_copies (x ∷ xs) (d ∷ ds) = nat_le d x.copies && has_copies xs ds
has_copies _ _ = false

-- what the copies weigh in all
abbrev pub total_weight : List Item → List ℕ → ℕ
total_weight (x ∷ xs) (d ∷ ds) = d * x.weight + total_weight xs ds
total_weight _ _ = 0

-- what the copies are worth in all
abbrev pub total_profit : List Item → List ℕ → ℕ
total_profit (x ∷ xs) (d ∷ ds) = d * x.profit + total_profit xs ds
total_profit _ _ = 0

-- the total profit of a solution; none where an item has too few copies or the copies weigh too much
abbrev pub packed_value : Instance → List ℕ → Option ℤ
packed_value i ds =
    cond (has_copies i.items ds && nat_le (total_weight i.items ds) i.capacity) (Some (pos (total_profit i.items ds))) None

-- copies of the items, with what they weigh and what they are worth in all
pub record IsTotal (items : List Item) (ds : List ℕ) (weight profit : ℕ) : Type 0 where
  pub copies : has_copies items ds ≡ true
  pub weighs : weight ≡ total_weight items ds
  pub is_worth : profit ≡ total_profit items ds
  pub small : profit < 2 ^ 63
