-- The canonical text of an instance.
use Rattle.std.specs.Prelude.{ℕ, pos, List, [], ◌∷◌, ◌++◌, cond, nat_eq, length}
use Rattle.std.specs.List.{flat_map}
use Rattle.tokens.specs.Decimal.{decimal_of}
use Rattle.knapsack.specs.declared.item.Item.{Item}
use Rattle.knapsack.specs.Instance.{Instance}

-- the copies of an item after a space, where they are not one
abbrev pub copies_text : ℕ → List ℕ
copies_text c = cond (nat_eq c 1) [] (32 ∷ decimal_of (pos c))

-- the line of an item: profit, weight and copies
abbrev pub line_of : Item → List ℕ
line_of x = decimal_of (pos x.profit) ++ (32 ∷ (decimal_of (pos x.weight) ++ (copies_text x.copies ++ 10 ∷ [])))

-- how many items and the capacity on the first line, then a line for each item
abbrev pub text_of : Instance → List ℕ
text_of i = decimal_of (pos (length i.items)) ++ (32 ∷ (decimal_of (pos i.capacity) ++ (10 ∷ flat_map line_of i.items)))
