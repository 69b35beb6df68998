-- The value of an assignment in plain words: the sum of what all entries give.
use Rattle.std.specs.Prelude.{ℕ, zero, suc, ℤ, pos, ◌+ℤ◌, Bool, true, ◌&&◌, nat_lt, ◌==◌, List, [], ◌∷◌, length, Option, Some, None, if◌then◌else◌}
use Rattle.std.specs.List.{list_all}
use Rattle.pair_rows.specs.declared.values.UnitValues.{UnitValues}
use Rattle.pair_rows.specs.declared.values.PairValues.{PairValues}
use Rattle.pair_rows.specs.Pairs.{rows_of}
use Rattle.pair_rows.specs.Instance.{Instance}
use Rattle.pair_rows.specs.Program.{given_yes, given_no}

-- what a variable of value x gives
abbrev pub unit_value : UnitValues → ℕ → ℤ
unit_value u zero = u.if_no
unit_value u (suc _) = u.if_yes

-- what two variables of values x and y give
abbrev pub pair_value : PairValues → ℕ → ℕ → ℤ
pair_value p x zero = given_no p x
pair_value p x (suc _) = given_yes p x

-- the sums over the variables, over a variable with each later one, and over all pairs
abbrev pub units_value : List UnitValues → List ℕ → ℤ
units_value [] xs = pos 0
units_value (u ∷ us) [] = pos 0
units_value (u ∷ us) (x ∷ xs) = unit_value u x +ℤ units_value us xs

abbrev pub row_value : List PairValues → ℕ → List ℕ → ℤ
row_value [] x ys = pos 0
row_value (p ∷ ps) x [] = pos 0
row_value (p ∷ ps) x (y ∷ ys) = pair_value p x y +ℤ row_value ps x ys

abbrev pub rows_value : List (List PairValues) → List ℕ → ℤ
rows_value [] xs = pos 0
rows_value (row ∷ rows) [] = pos 0
rows_value (row ∷ rows) (x ∷ xs) = row_value row x xs +ℤ rows_value rows xs

abbrev pub value_of_all : Instance → List ℕ → ℤ
value_of_all i xs = i.constant +ℤ (units_value i.units xs +ℤ rows_value (rows_of (length i.units) i.pairs) xs)

-- whether each value is 0 or 1
abbrev pub are_binary : List ℕ → Bool
are_binary xs = list_all (λ x. nat_lt x 2) xs

-- whether the first variable, where there is one, takes one of its values
abbrev pub begins_within : ℕ → List ℕ → Bool
begins_within first [] = true
begins_within first (x ∷ xs) = nat_lt x first

-- whether there is a value for each variable
abbrev pub is_assignment : Instance → List ℕ → Bool
is_assignment i xs = (length xs == length i.units) && (begins_within i.first xs && are_binary xs)

-- the value of an assignment, and none for another list
abbrev pub own_value : Instance → List ℕ → Option ℤ
own_value i xs = if is_assignment i xs then Some (value_of_all i xs) else None
