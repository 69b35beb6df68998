-- The problem's own words: a truth value for each variable, and the weight of the clauses that it satisfies.
use Rattle.std.specs.Prelude.{ℕ, zero, suc, ℤ, pos, ◌+ℤ◌, Bool, true, false, ◌&&◌, ◌||◌, not, ◌==◌, List, [], ◌∷◌, length, Option, Some, None, if◌then◌else◌}
use Rattle.max_two_sat.specs.declared.weights.UnitWeights.{UnitWeights}
use Rattle.max_two_sat.specs.declared.weights.PairWeights.{PairWeights}
use Rattle.max_two_sat.specs.Instance.{Instance}
use Rattle.pair_rows.specs.OwnWords.{are_binary}
use Rattle.pair_rows.specs.Pairs.{rows_of}

-- whether the value makes the variable true: 1 does, 0 does not
abbrev pub is_true : ℕ → Bool
is_true zero = false
is_true (suc x) = true

-- what weighs, where it is satisfied
abbrev pub weight_where : Bool → ℤ → ℤ
weight_where satisfied weight = if satisfied then weight else pos 0

-- the satisfied weight of the clauses with one literal on a variable of value x
abbrev pub unit_value : UnitWeights → ℕ → ℤ
unit_value u x = weight_where (is_true x) u.positive +ℤ weight_where (not (is_true x)) u.negative

-- the satisfied weight of the clauses on two variables of values x and y
abbrev pub pair_value : PairWeights → ℕ → ℕ → ℤ
pair_value p x y =
    (weight_where (is_true x || is_true y) p.both +ℤ weight_where (is_true x || not (is_true y)) p.first) +ℤ
    (weight_where (not (is_true x) || is_true y) p.second +ℤ weight_where (not (is_true x) || not (is_true y)) p.neither)

-- the weight of those that the values leave unsatisfied, since both literals are false
abbrev pub pair_left : PairWeights → ℕ → ℕ → ℤ
pair_left p zero zero = p.both
pair_left p zero (suc _) = p.first
pair_left p (suc _) zero = p.second
pair_left p (suc _) (suc _) = p.neither

-- the sums over the variables, over a variable with each later one, and over all pairs
abbrev pub units_value : List UnitWeights → List ℕ → ℤ
units_value [] xs = pos 0
units_value (u ∷ us) [] = pos 0
units_value (u ∷ us) (x ∷ xs) = unit_value u x +ℤ units_value us xs

abbrev pub row_value : List PairWeights → ℕ → List ℕ → ℤ
row_value [] x ys = pos 0
row_value (p ∷ ps) x [] = pos 0
row_value (p ∷ ps) x (y ∷ ys) = pair_value p x y +ℤ row_value ps x ys

abbrev pub rows_value : List (List PairWeights) → List ℕ → ℤ
rows_value [] xs = pos 0
rows_value (row ∷ rows) [] = pos 0
rows_value (row ∷ rows) (x ∷ xs) = row_value row x xs +ℤ rows_value rows xs

-- the weight of the satisfied clauses; a tautology always is
abbrev pub weight_of : Instance → List ℕ → ℤ
weight_of i xs = i.tautologies +ℤ (units_value i.units xs +ℤ rows_value (rows_of (length i.units) i.pairs) xs)

-- the value of a solution, and none for a list that is no truth value for each variable
abbrev pub own_value : Instance → List ℕ → Option ℤ
own_value i xs = if (length xs == length i.units) && are_binary xs then Some (weight_of i xs) else None
