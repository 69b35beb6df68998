-- Passes over a list of truth values.
use Rattle.std.proofs.Common.{◌≡◌, ℕ, zero, suc, ◌+◌, ◌-◌, ◌^◌, ◌<◌, ◌≤◌, ℤ, pos, ◌+ℤ◌, ◌-ℤ◌, ◌≤ℤ◌, Bool, true, false, List, [], ◌∷◌, length, take, drop, map, get_or, refl, arith, ap, subst, sym, ◌∙◌, FitsSigned, to_z, of_z, w64}
use Rattle.std.specs.Prelude.{IsTrue, ◌&&◌, ◌==◌, nat_lt, Some, None, if◌then◌else◌}
use Rattle.std.specs.List.{list_all}
use Rattle.std.proofs.lemmas.Bool.{eqb-true, and_parts}
use Rattle.std.proofs.lemmas.Bool.Decides.{nat_tests}
use Rattle.std.proofs.lemmas.Int.{ints}
use Rattle.std.proofs.lemmas.List.{drop_more, drop_all, length-map}
use Rattle.dp_model.specs.Prefixes.{IsSolution}
use Rattle.dp_model.specs.Solution.{IsSolutionWith, SolutionGives}
use Rattle.pair_rows.specs.OwnWords.{are_binary}
use Rattle.pair_rows.specs.Pairs.{rows_of, row_at, pair_count, entries_before}
use Rattle.pair_rows.specs.Laws.Pairs.{length-rows_of, length-row_at, row_at-is, drop-rows, all-take, all-drop, all-rows_of, all-row_at, total_by-cut, rows_of-map}
use Rattle.pair_rows.specs.Laws.Gaps as plain
use Rattle.pair_rows.specs.Laws.Totals.{positive-rows_of, rows_most-rows_of}
use Rattle.pair_rows.proofs.RunningSums.{SumGrows, sum-grows, sum-done}
use Rattle.max_two_sat.specs.declared.weights.UnitWeights.{UnitWeights}
use Rattle.max_two_sat.specs.declared.weights.PairWeights.{PairWeights}
use Rattle.max_two_sat.specs.Instance.{Instance, unit_total, pair_total, units_total, pairs_total, no_pair, no_unit}
use Rattle.max_two_sat.specs.Limits.{IsWithinLimits, PairIsPositive, UnitIsPositive, pairs_are_positive, units_are_positive, pair_is_positive, unit_is_positive}
use Rattle.max_two_sat.specs.Laws.Limits.{unit-positive, pair-positive}
use Rattle.max_two_sat.specs.Laws.Listing.{pairs-in_range, pairs-most, row-same, rows-same}
use Rattle.max_two_sat.specs.Laws.Solutions.{own_value-agrees}
use Rattle.max_two_sat.specs.Laws.Totals.{units_total-positive, pairs_total-positive}
use Rattle.max_two_sat.specs.OwnWords.{own_value, weight_of, unit_value, pair_value, pair_left, units_value, row_value, rows_value}
use Rattle.pair_rows.specs.Program.{program_of}
use Rattle.max_two_sat.specs.Program.{pair_values, rows_in}
use Rattle.max_two_sat.proofs.Entries.{unit-at, pair-at}

-- one variable

pub unit_value-false : (u : UnitWeights) (x : ℕ) → x ≡ 0 → u.negative ≡ unit_value u x
unit_value-false u zero h = omega (arith, ints)
unit_value-false u (suc x) h = absurd (omega arith)

pub unit_value-true : (u : UnitWeights) (x : ℕ) → (x ≡ 0 → ⊥) → u.positive ≡ unit_value u x
unit_value-true u zero h = absurd (h refl)
unit_value-true u (suc x) h = omega (arith, ints)

pub unit_value-positive : (u : UnitWeights) (x : ℕ) → UnitIsPositive u → pos 0 ≤ℤ unit_value u x
unit_value-positive u zero here = omega (arith, ints)
unit_value-positive u (suc x) here = omega (arith, ints)

pub unit_value-most : (u : UnitWeights) (x : ℕ) → UnitIsPositive u → unit_value u x ≤ℤ unit_total u
unit_value-most u zero here = omega (arith, ints)
unit_value-most u (suc x) here = omega (arith, ints)

pub units_value-positive : (us : List UnitWeights) (xs : List ℕ) → IsTrue (units_are_positive us) → pos 0 ≤ℤ units_value us xs
units_value-positive [] xs h = omega (arith, ints)
units_value-positive (u ∷ us) [] h = omega (arith, ints)
units_value-positive (u ∷ us) (x ∷ xs) h =
    omega (arith, ints, unit_value-positive u x (unit-positive u (and_parts _ _ h).0), units_value-positive us xs (and_parts (unit_is_positive u) _ h).1)

pub units_value-most : (us : List UnitWeights) (xs : List ℕ) → IsTrue (units_are_positive us) → units_value us xs ≤ℤ units_total us
units_value-most [] xs h = omega (arith, ints)
units_value-most (u ∷ us) [] h = units_total-positive (u ∷ us) h
units_value-most (u ∷ us) (x ∷ xs) h =
    omega (arith, ints, unit_value-most u x (unit-positive u (and_parts _ _ h).0), units_value-most us xs (and_parts (unit_is_positive u) _ h).1)

-- the sum so far, and one variable more
pub units-grow : (us : List UnitWeights) (xs : List ℕ) (i : ℕ) (total cell : ℤ) → i < length us → length xs ≡ length us → IsTrue (units_are_positive us) → units_total us ≤ℤ pos (2 ^ 48) →
    cell ≡ unit_value (get_or us i no_unit) (get_or xs i 0) → (total +ℤ units_value (drop i us) (drop i xs) ≡ units_value us xs) × (pos 0 ≤ℤ total) →
    SumGrows (units_value us xs) (units_value (drop (i + 1) us) (drop (i + 1) xs)) total cell
units-grow us xs i total cell h e positive weight is before =
    let below : i < length xs = omega arith in
    let cut : units_value (drop i us) (drop i xs) ≡ unit_value (get_or us i no_unit) (get_or xs i 0) +ℤ units_value (drop (i + 1) us) (drop (i + 1) xs) = rw (drop_more us i no_unit h, drop_more xs i 0 below) refl in
    sum-grows (units_value us xs) (units_value (drop i us) (drop i xs)) cell (units_value (drop (i + 1) us) (drop (i + 1) xs)) total (rw is cut)
    (rw is (unit_value-positive (get_or us i no_unit) (get_or xs i 0) (unit-at us i no_unit h positive)))
    (units_value-positive (drop (i + 1) us) (drop (i + 1) xs) (all-drop unit_is_positive (i + 1) us positive)) (omega (arith, ints, units_value-most us xs positive)) before

pub units-done : (us : List UnitWeights) (xs : List ℕ) (i : ℕ) (total : ℤ) → length us ≤ i → total +ℤ units_value (drop i us) (drop i xs) ≡ units_value us xs → total ≡ units_value us xs
units-done us xs i total h before =
    sum-done (units_value us xs) (units_value (drop i us) (drop i xs)) total (ap (λ vs. units_value vs (drop i xs)) (drop_all i us h)) before

-- two variables

pub pair_left-is : (p : PairWeights) (x y : ℕ) → pair_total p -ℤ pair_left p x y ≡ pair_value p x y
pair_left-is p zero zero = omega (arith, ints)
pair_left-is p zero (suc y) = omega (arith, ints)
pair_left-is p (suc x) zero = omega (arith, ints)
pair_left-is p (suc x) (suc y) = omega (arith, ints)

pub pair_left-positive : (p : PairWeights) (x y : ℕ) → PairIsPositive p → pos 0 ≤ℤ pair_left p x y
pair_left-positive p zero zero here = here.both
pair_left-positive p zero (suc y) here = here.first
pair_left-positive p (suc x) zero here = here.second
pair_left-positive p (suc x) (suc y) here = here.neither

pub pair_left-most : (p : PairWeights) (x y : ℕ) → PairIsPositive p → pair_left p x y ≤ℤ pair_total p
pair_left-most p zero zero here = omega (arith, ints)
pair_left-most p zero (suc y) here = omega (arith, ints)
pair_left-most p (suc x) zero here = omega (arith, ints)
pair_left-most p (suc x) (suc y) here = omega (arith, ints)

pub left-both : (p : PairWeights) (x y : ℕ) → x ≡ 0 → y ≡ 0 → p.both ≡ pair_left p x y
left-both p zero zero h g = refl
left-both p zero (suc y) h g = absurd (omega arith)
left-both p (suc x) y h g = absurd (omega arith)

pub left-first : (p : PairWeights) (x y : ℕ) → x ≡ 0 → (y ≡ 0 → ⊥) → p.first ≡ pair_left p x y
left-first p zero zero h g = absurd (g refl)
left-first p zero (suc y) h g = refl
left-first p (suc x) y h g = absurd (omega arith)

pair_value-positive : (p : PairWeights) (x y : ℕ) → PairIsPositive p → pos 0 ≤ℤ pair_value p x y
pair_value-positive p x y here = omega (arith, ints, pair_left-is p x y, pair_left-most p x y here)

row_value-positive : (ps : List PairWeights) (x : ℕ) (ys : List ℕ) → IsTrue (pairs_are_positive ps) → pos 0 ≤ℤ row_value ps x ys
row_value-positive [] x ys h = omega (arith, ints)
row_value-positive (p ∷ ps) x [] h = omega (arith, ints)
row_value-positive (p ∷ ps) x (y ∷ ys) h =
    omega (arith, ints, pair_value-positive p x y (pair-positive p (and_parts _ _ h).0), row_value-positive ps x ys (and_parts (pair_is_positive p) _ h).1)

-- a row gives at most its weight, and so do all rows
row_value-most : (ps : List PairWeights) (x : ℕ) (ys : List ℕ) → IsTrue (pairs_are_positive ps) → row_value ps x ys ≤ℤ pairs_total ps
row_value-most ps x ys h =
    omega (arith, ints, row-same ps x ys, pairs-most ps, plain.row_value-most (map pair_values ps) x ys (pairs-in_range ps h))

rows_value-most : (n : ℕ) (ps : List PairWeights) (xs : List ℕ) → length ps ≡ pair_count n → IsTrue (pairs_are_positive ps) → rows_value (rows_of n ps) xs ≤ℤ pairs_total ps
rows_value-most n ps xs whole h =
    let fits = pairs-in_range ps h in
    let listed = rw (rows_of-map pair_values n ps) at (plain.rows_value-most (rows_of n (map pair_values ps)) xs (positive-rows_of n (map pair_values ps) fits)) in
    let total = rw (rows_of-map pair_values n ps) at (rows_most-rows_of n (map pair_values ps) (length-map ps pair_values ∙ whole)) in
    omega (arith, ints, rows-same (rows_of n ps) xs, pairs-most ps, listed, total)

abbrev rows_are_positive : List (List PairWeights) → Bool
rows_are_positive rows = list_all pairs_are_positive rows

rows_value-positive : (rows : List (List PairWeights)) (xs : List ℕ) → IsTrue (rows_are_positive rows) → pos 0 ≤ℤ rows_value rows xs
rows_value-positive [] xs h = omega (arith, ints)
rows_value-positive (row ∷ rows) [] h = omega (arith, ints)
rows_value-positive (row ∷ rows) (x ∷ xs) h =
    omega (arith, ints, row_value-positive row x xs (and_parts _ _ h).0, rows_value-positive rows xs (and_parts (pairs_are_positive row) _ h).1)

pub row-grows : (ps : List PairWeights) (x : ℕ) (ys : List ℕ) (i : ℕ) (total cell : ℤ) → i < length ps → length ps ≡ length ys → IsTrue (pairs_are_positive ps) → pairs_total ps ≤ℤ pos (2 ^ 48) →
    cell ≡ pair_value (get_or ps i no_pair) x (get_or ys i 0) → (total +ℤ row_value (drop i ps) x (drop i ys) ≡ row_value ps x ys) × (pos 0 ≤ℤ total) →
    SumGrows (row_value ps x ys) (row_value (drop (i + 1) ps) x (drop (i + 1) ys)) total cell
row-grows ps x ys i total cell h e positive weight is before =
    let below : i < length ys = omega arith in
    let cut : row_value (drop i ps) x (drop i ys) ≡ pair_value (get_or ps i no_pair) x (get_or ys i 0) +ℤ row_value (drop (i + 1) ps) x (drop (i + 1) ys) = rw (drop_more ps i no_pair h, drop_more ys i 0 below) refl in
    sum-grows (row_value ps x ys) (row_value (drop i ps) x (drop i ys)) cell (row_value (drop (i + 1) ps) x (drop (i + 1) ys)) total (rw is cut)
    (rw is (pair_value-positive (get_or ps i no_pair) x (get_or ys i 0) (pair-at ps i no_pair h positive)))
    (row_value-positive (drop (i + 1) ps) x (drop (i + 1) ys) (all-drop pair_is_positive (i + 1) ps positive)) (omega (arith, ints, row_value-most ps x ys positive)) before

pub row-done : (ps : List PairWeights) (x : ℕ) (ys : List ℕ) (i : ℕ) (total : ℤ) → length ps ≤ i → total +ℤ row_value (drop i ps) x (drop i ys) ≡ row_value ps x ys → total ≡ row_value ps x ys
row-done ps x ys i total h before =
    sum-done (row_value ps x ys) (row_value (drop i ps) x (drop i ys)) total (ap (λ qs. row_value qs x (drop i ys)) (drop_all i ps h)) before

pub row-bounds : (ps : List PairWeights) (x : ℕ) (ys : List ℕ) → IsTrue (pairs_are_positive ps) → (pos 0 ≤ℤ row_value ps x ys) × (row_value ps x ys ≤ℤ pairs_total ps)
row-bounds ps x ys positive = (row_value-positive ps x ys positive, row_value-most ps x ys positive)

-- the row of a variable among all pairs
pub record RowThere (ps : List PairWeights) (n k : ℕ) (row : List PairWeights) : Type 0 where
  pub entries : length row + suc k ≡ n
  pub positive : IsTrue (pairs_are_positive row)
  pub weight : pairs_total row ≤ℤ pairs_total ps

pub row-there : (ps : List PairWeights) (n k : ℕ) (row : List PairWeights) → length ps ≡ pair_count n → k < n → IsTrue (pairs_are_positive ps) → row ≡ row_at (rows_of n ps) k → RowThere ps n k row
row-there ps n k row whole h positive is =
    let here : List PairWeights = drop (entries_before n k) ps in
    let cut : row ≡ take (n - suc k) here = is ∙ row_at-is n k ps h in
    let from : IsTrue (pairs_are_positive here) = all-drop pair_is_positive (entries_before n k) ps positive in
    let own : IsTrue (pairs_are_positive (take (n - suc k) here)) = all-take pair_is_positive (n - suc k) here from in
    let before = pairs_total-positive (take (entries_before n k) ps) (all-take pair_is_positive (entries_before n k) ps positive) in
    let later = pairs_total-positive (drop (n - suc k) here) (all-drop pair_is_positive (n - suc k) here from) in
    record {
      entries = omega (arith, ap length is, length-row_at n ps k whole h);
      positive = rw cut own;
      weight = rw cut (omega (arith, ints, total_by-cut pair_total (entries_before n k) ps, total_by-cut pair_total (n - suc k) here));
    }

pub rows-grow : (ps : List PairWeights) (xs : List ℕ) (k : ℕ) (row : List PairWeights) (total cell : ℤ) → k < length xs → length ps ≡ pair_count (length xs) → IsTrue (pairs_are_positive ps) → pairs_total ps ≤ℤ pos (2 ^ 48) →
    row ≡ row_at (rows_of (length xs) ps) k → cell ≡ row_value row (get_or xs k 0) (drop (k + 1) xs) →
    (total +ℤ rows_value (drop k (rows_of (length xs) ps)) (drop k xs) ≡ rows_value (rows_of (length xs) ps) xs) × (pos 0 ≤ℤ total) →
    SumGrows (rows_value (rows_of (length xs) ps) xs) (rows_value (drop (k + 1) (rows_of (length xs) ps)) (drop (k + 1) xs)) total cell
rows-grow ps xs k row total cell h whole positive weight is cell_is before =
    let rows : List (List PairWeights) = rows_of (length xs) ps in
    let all = all-rows_of pair_is_positive (length xs) ps positive in
    let one : suc k ≡ k + 1 = omega arith in
    let cut : rows_value (drop k rows) (drop k xs) ≡ row_value (row_at rows k) (get_or xs k 0) (drop (k + 1) xs) +ℤ rows_value (drop (k + 1) rows) (drop (k + 1) xs) =
    rw (drop-rows rows k (omega (arith, length-rows_of (length xs) ps)), drop_more xs k 0 h) (ap (λ n. row_value (row_at rows k) (get_or xs k 0) (drop (k + 1) xs) +ℤ rows_value (drop n rows) (drop (k + 1) xs)) one) in
    let same : cell ≡ row_value (row_at rows k) (get_or xs k 0) (drop (k + 1) xs) = cell_is ∙ ap (λ r. row_value r (get_or xs k 0) (drop (k + 1) xs)) is in
    sum-grows (rows_value rows xs) (rows_value (drop k rows) (drop k xs)) cell (rows_value (drop (k + 1) rows) (drop (k + 1) xs)) total (rw same cut)
    (rw same (row_value-positive (row_at rows k) (get_or xs k 0) (drop (k + 1) xs) (all-row_at pair_is_positive rows k all)))
    (rows_value-positive (drop (k + 1) rows) (drop (k + 1) xs) (all-drop pairs_are_positive (k + 1) rows all)) (omega (arith, ints, rows_value-most (length xs) ps xs whole positive)) before

pub rows-done : (ps : List PairWeights) (xs : List ℕ) (k : ℕ) (total : ℤ) → length xs ≤ k →
    total +ℤ rows_value (drop k (rows_of (length xs) ps)) (drop k xs) ≡ rows_value (rows_of (length xs) ps) xs → total ≡ rows_value (rows_of (length xs) ps) xs
rows-done ps xs k total h before =
    let none : drop k (rows_of (length xs) ps) ≡ [] = drop_all k (rows_of (length xs) ps) (omega (arith, length-rows_of (length xs) ps)) in
    sum-done (rows_value (rows_of (length xs) ps) xs) (rows_value (drop k (rows_of (length xs) ps)) (drop k xs)) total (ap (λ rows. rows_value rows (drop k xs)) none) before

pub rows-bounds : (ps : List PairWeights) (n : ℕ) (xs : List ℕ) → length ps ≡ pair_count n → IsTrue (pairs_are_positive ps) → (pos 0 ≤ℤ rows_value (rows_of n ps) xs) × (rows_value (rows_of n ps) xs ≤ℤ pairs_total ps)
rows-bounds ps n xs whole positive =
    (rows_value-positive (rows_of n ps) xs (all-rows_of pair_is_positive n ps positive), rows_value-most n ps xs whole positive)

-- what value_of answers

pub value-none : (i : Instance) (xs : List ℕ) (answer : Bool) → IsWithinLimits i → answer ≡ ((length xs == length i.units) && are_binary xs) → answer ≡ false → ¬ IsSolution (program_of (rows_in i)) xs
value-none i xs answer kept is no_assignment =
    let test : ((length xs == length i.units) && are_binary xs) ≡ false = sym is ∙ no_assignment in
    subst (λ (b : Bool). SolutionGives (program_of (rows_in i)) xs (if b then Some (weight_of i xs) else None)) test (own_value-agrees i xs kept)

pub own-none : (i : Instance) (xs : List ℕ) (answer : Bool) → answer ≡ ((length xs == length i.units) && are_binary xs) → answer ≡ false → None ≡ own_value i xs
own-none i xs answer is no_assignment =
    let test : ((length xs == length i.units) && are_binary xs) ≡ false = sym is ∙ no_assignment in
    subst (λ (b : Bool). None ≡ (if b then Some (weight_of i xs) else None)) (sym test) refl

-- an assignment has a value for each variable
pub assigned : (i : Instance) (xs : List ℕ) (answer : Bool) → answer ≡ ((length xs == length i.units) && are_binary xs) → answer ≡ true → length xs ≡ length i.units
assigned i xs answer is yes_assignment = eqb-true (length xs) (length i.units) (and_parts _ _ (sym is ∙ yes_assignment)).0

pub record ValueIs (i : Instance) (xs : List ℕ) (units_part pairs_part : ℤ) : Type 0 where
  pub value : Some (i.tautologies +ℤ (units_part +ℤ pairs_part)) ≡ own_value i xs
  pub solution : IsSolutionWith (program_of (rows_in i)) xs (i.tautologies +ℤ (units_part +ℤ pairs_part))
  pub parts_fit : FitsSigned w64 (to_z w64 (of_z w64 units_part) +ℤ to_z w64 (of_z w64 pairs_part))
  pub sum_fits : FitsSigned w64 (to_z w64 (of_z w64 i.tautologies) +ℤ to_z w64 (of_z w64 (to_z w64 (of_z w64 units_part) +ℤ to_z w64 (of_z w64 pairs_part))))
  pub read : to_z w64 (of_z w64 (to_z w64 (of_z w64 i.tautologies) +ℤ to_z w64 (of_z w64 (to_z w64 (of_z w64 units_part) +ℤ to_z w64 (of_z w64 pairs_part))))) ≡ i.tautologies +ℤ (units_part +ℤ pairs_part)

pub value-is : (i : Instance) (xs : List ℕ) (answer : Bool) (units_part pairs_part : ℤ) → IsWithinLimits i → answer ≡ ((length xs == length i.units) && are_binary xs) → answer ≡ true →
    units_part ≡ units_value i.units xs → pairs_part ≡ rows_value (rows_of (length xs) i.pairs) xs → ValueIs i xs units_part pairs_part
value-is i xs answer units_part pairs_part kept is yes_assignment units_is pairs_is =
    let test : ((length xs == length i.units) && are_binary xs) ≡ true = sym is ∙ yes_assignment in
    let whole : length xs ≡ length i.units = assigned i xs answer is yes_assignment in
    let pairs : pairs_part ≡ rows_value (rows_of (length i.units) i.pairs) xs = pairs_is ∙ ap (λ n. rows_value (rows_of n i.pairs) xs) whole in
    let sum : i.tautologies +ℤ (units_part +ℤ pairs_part) ≡ weight_of i xs = omega (arith, ints) in
    let agrees : IsSolutionWith (program_of (rows_in i)) xs (weight_of i xs) =
    subst (λ (b : Bool). SolutionGives (program_of (rows_in i)) xs (if b then Some (weight_of i xs) else None)) test (own_value-agrees i xs kept) in
    let units_low = units_value-positive i.units xs kept.units in
    let units_high = units_value-most i.units xs kept.units in
    let pairs_bounds = rows-bounds i.pairs (length i.units) xs kept.whole kept.pairs in
    record {
      value = subst (λ (b : Bool). Some (i.tautologies +ℤ (units_part +ℤ pairs_part)) ≡ (if b then Some (weight_of i xs) else None)) (sym test) (ap (λ v. Some v) sum);
      solution = record { solution = agrees.solution; value = sum ∙ agrees.value };
      parts_fit = omega (arith, ints, kept.total, kept.tautologies, pairs_bounds.0, pairs_bounds.1);
      sum_fits = omega (arith, ints, kept.total, kept.tautologies, pairs_bounds.0, pairs_bounds.1);
      read = omega (arith, ints, kept.total, kept.tautologies, pairs_bounds.0, pairs_bounds.1);
    }
