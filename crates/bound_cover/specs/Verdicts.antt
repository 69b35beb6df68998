-- The tests of a cover, in order.
use Rattle.std.specs.Prelude.{ℕ, ◌+◌, nat_eq, nat_lt, ℤ, pos, ◌+ℤ◌, int_le, Bool, false, cond, ◌&&◌, ◌||◌, List, [], ◌∷◌, length, Option, Some, None}
use Rattle.dp_model.specs.Dp.{Dp}
use Rattle.dp_model.specs.Numbers.{add_some}
use Rattle.bound_cover.specs.declared.cover.Why.{Why}
use Rattle.bound_cover.specs.declared.cover.Why.TheVariants.{Root, Assignment, Value, Layers}
use Rattle.bound_cover.specs.declared.cover.Verdict.{Verdict}
use Rattle.bound_cover.specs.declared.cover.Verdict.TheVariants.{Accepted, Refused}
use Rattle.bound_cover.specs.Covers.{CoverRow}
use Rattle.bound_cover.specs.Tests.{is_at_most, unless, first_of, is_state_row, row_fault}

-- the first layer, or no rows
abbrev pub first_layer : List (List CoverRow) → List CoverRow
first_layer [] = []
first_layer (layer ∷ more) = layer

-- the first failure of the rows of a layer, from the row number i on
abbrev pub rows_fault : Dp → ℕ → List CoverRow → ℕ → List CoverRow → Option Why
rows_fault dp k next i [] = None
rows_fault dp k next i (row ∷ rows) = first_of (row_fault dp k i next row) (rows_fault dp k next (i + 1) rows)

-- layer by layer, from the layer k on
abbrev pub layers_fault : Dp → ℕ → List (List CoverRow) → Option Why
layers_fault dp k [] = None
layers_fault dp k (layer ∷ more) = first_of (rows_fault dp k (first_layer more) 0 layer) (layers_fault dp (k + 1) more)

-- whether a gap to the root lifts the bound to at most the claim
abbrev pub covers_root : Option ℤ → ℤ → Option ℤ → Option ℤ → Bool
covers_root None root_value bound claim = false
covers_root (Some gap) root_value bound claim = is_at_most (add_some (root_value +ℤ gap) bound) claim

-- whether the row is a state that covers the root within the claim
abbrev pub root_test : Dp → Option ℤ → CoverRow → Bool
root_test dp claim row = is_state_row dp 0 row.words && covers_root (dp.gap 0 row.words dp.root) dp.root_value row.bound claim

-- whether one of the rows is such a row
abbrev pub has_root : Dp → Option ℤ → List CoverRow → Bool
has_root dp claim [] = false
has_root dp claim (row ∷ rows) = root_test dp claim row || has_root dp claim rows

-- the tests from Root on
abbrev pub cover_fault : Dp → Option ℤ → List (List CoverRow) → Option Why
cover_fault dp claim layers = first_of (unless (has_root dp claim (first_layer layers)) Root) (layers_fault dp 0 layers)

-- what check_rows answers: the first failure, without Assignment and Value
abbrev pub checked_rows : Dp → Option ℤ → List (List CoverRow) → Option Why
checked_rows dp claim layers = cond (nat_eq (length layers) (dp.vars + 1)) (cover_fault dp claim layers) (Some Layers)

-- the gain of decisions that lead from the state to the last layer, and none where they don't
abbrev pub worth_from : Dp → ℕ → List ℤ → List ℕ → Option ℤ
worth_from dp k s [] = cond (nat_eq k dp.vars) (Some (pos 0)) None
worth_from dp k s (d ∷ ds) =
    cond (nat_lt k dp.vars && (nat_lt d (dp.choices k) && dp.allowed k s d)) (add_some (dp.gain k s d) (worth_from dp (k + 1) (dp.step k s d) ds)) None

-- the value of a feasible solution, and none where the decisions are none
abbrev pub worth : Dp → List ℕ → Option ℤ
worth dp x = add_some dp.root_value (worth_from dp 0 dp.root x)

-- the value of the assignment is the reported one
abbrev pub value_fault : Option ℤ → ℤ → Option Why
value_fault None best = Some Assignment
value_fault (Some value) best = unless (int_le value best && int_le best value) Value

-- where a best value is reported, the assignment is a feasible solution of that value
abbrev pub solution_fault : Dp → Option ℤ → List ℕ → Option Why
solution_fault dp None x = None
solution_fault dp (Some best) x = value_fault (worth dp x) best

-- what no feasible solution may exceed: the reported value and the distance, and none where no value is reported
abbrev pub claim_of : Option ℤ → ℤ → Option ℤ
claim_of None within = None
claim_of (Some best) within = Some (best +ℤ within)

-- the first failure of all
abbrev pub checked : Dp → Option ℤ → ℤ → List ℕ → List (List CoverRow) → Option Why
checked dp best within x layers =
    cond (nat_eq (length layers) (dp.vars + 1)) (first_of (solution_fault dp best x) (cover_fault dp (claim_of best within) layers)) (Some Layers)

-- accepted where no test fails
abbrev pub verdict_of : Option Why → Verdict
verdict_of None = Accepted
verdict_of (Some why) = Refused why

-- what check answers
abbrev pub verdict : Dp → Option ℤ → ℤ → List ℕ → List (List CoverRow) → Verdict
verdict dp best within x layers = verdict_of (checked dp best within x layers)
