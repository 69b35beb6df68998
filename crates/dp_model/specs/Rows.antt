-- Rows of numbers: whether two are the same, and which one is smaller.
use Rattle.std.specs.Prelude.{ℤ, int_lt, Bool, true, false, ◌&&◌, ◌||◌, List, [], ◌∷◌}
use Rattle.dp_model.specs.Numbers.{int_same}

-- whether two rows are the same
abbrev pub row_same : List ℤ → List ℤ → Bool
row_same [] [] = true
row_same [] (b ∷ bs) = false
row_same (a ∷ rest) [] = false
row_same (a ∷ rest) (b ∷ bs) = int_same a b && row_same rest bs

-- whether the first row is lexicographically smaller
abbrev pub row_smaller : List ℤ → List ℤ → Bool
row_smaller [] [] = false
row_smaller [] (b ∷ bs) = true
row_smaller (a ∷ rest) [] = false
row_smaller (a ∷ rest) (b ∷ bs) = int_lt a b || (int_same a b && row_smaller rest bs)
