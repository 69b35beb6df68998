-- What holds of the rows of pairs, and of sums over them.
use Rattle.std.specs.Prelude.{◌≡◌, ℕ, zero, suc, ◌+◌, ◌-◌, ◌*◌, ◌^◌, ◌<◌, ◌≤◌, ℤ, pos, ◌+ℤ◌, ◌≤ℤ◌, Bool, List, [], ◌∷◌, length, take, drop, map, IsTrue, refl}
use Rattle.std.specs.List.{list_all, take-map}
use Rattle.std.proofs.Common.{arith, get_or, ap, ◌∙◌}
use Rattle.std.proofs.lemmas.Int.{ints}
use Rattle.std.proofs.lemmas.List.{drop-drop, drop-map, length-take-le, length-drop}
use Rattle.std.proofs.lemmas.Bool.{and_parts, and_from}
use Rattle.std.proofs.lemmas.Nat.{mul-le}
use native.Mathlib.Numerals.{unary_clauses}
use Rattle.pair_rows.specs.Pairs.{rows_of, row_at, pair_count, entries_before, total_by}

-- rows

pub length-rows_of : {X : Type 0} (n : ℕ) (pairs : List X) → length (rows_of n pairs) ≡ n
length-rows_of zero pairs = refl
length-rows_of (suc later) pairs = omega (arith, length-rows_of later (drop later pairs))

-- a row has an entry for each later variable
pub length-row_at : {X : Type 0} (n : ℕ) (pairs : List X) (k : ℕ) → length pairs ≡ pair_count n → k < n → length (row_at (rows_of n pairs) k) + suc k ≡ n
length-row_at zero pairs k e h = absurd (omega arith)
length-row_at (suc later) pairs zero e h = omega (arith, length-take-le later pairs (omega arith))
length-row_at (suc later) pairs (suc k) e h =
    omega (arith, length-row_at later (drop later pairs) k (omega (arith, length-drop later pairs)) (omega arith))

-- the rows from a layer on begin with its own
pub drop-rows : {X : Type 0} (rows : List (List X)) (k : ℕ) → k < length rows → drop k rows ≡ row_at rows k ∷ drop (suc k) rows
drop-rows [] k h = absurd (omega arith)
drop-rows (row ∷ rows) zero h = refl
drop-rows (row ∷ rows) (suc k) h = drop-rows rows k (omega arith)

-- where a row begins

pub entries_before-is : (n k : ℕ) → k ≤ n → 2 * entries_before n k + k * k + k ≡ 2 * k * n
entries_before-is n zero h = omega arith
entries_before-is zero (suc k) h = absurd (omega arith)
entries_before-is (suc n) (suc k) h = omega (arith, entries_before-is n k (omega arith))

pub row_at-is : {X : Type 0} (n k : ℕ) (pairs : List X) → k < n → row_at (rows_of n pairs) k ≡ take (n - suc k) (drop (entries_before n k) pairs)
row_at-is zero k pairs h = absurd (omega arith)
row_at-is (suc n) zero pairs h = simp unary_clauses
row_at-is (suc n) (suc k) pairs h =
    row_at-is n k (drop n pairs) (omega arith) ∙
    (ap (take (n - suc k)) (drop-drop (entries_before n k) n pairs) ∙ ap (λ m. take m (drop (n + entries_before n k) pairs)) (omega arith))

pub entries_before-more : (n k : ℕ) → k < n → entries_before n (suc k) ≡ entries_before n k + (n - suc k)
entries_before-more zero k h = absurd (omega arith)
entries_before-more (suc n) zero h = omega arith
entries_before-more (suc n) (suc k) h = omega (arith, entries_before-more n k (omega arith))

pub entries_before-most : (n k : ℕ) → entries_before n k ≤ pair_count n
entries_before-most n zero = omega arith
entries_before-most zero (suc k) = omega arith
entries_before-most (suc n) (suc k) = omega (arith, entries_before-most n k)

pub pair_count-is : (n : ℕ) → 2 * pair_count n + n ≡ n * n
pair_count-is zero = refl
pair_count-is (suc n) = omega (arith, pair_count-is n)

pub pair_count-most : (n : ℕ) → n ≤ 1024 → pair_count n ≤ 2 ^ 20
pair_count-most n h =
    let square : n * n ≤ 1024 * 1024 = mul-le n n 1024 1024 h h in
    omega (arith, pair_count-is n)

-- entries that pass a test

pub all-take : {X : Type 0} (test : X → Bool) (m : ℕ) (xs : List X) → IsTrue (list_all test xs) → IsTrue (list_all test (take m xs))
all-take test zero xs h = refl
all-take test (suc m) [] h = refl
all-take test (suc m) (x ∷ xs) h = and_from (test x) _ (and_parts _ _ h).0 (all-take test m xs (and_parts (test x) _ h).1)

pub all-drop : {X : Type 0} (test : X → Bool) (m : ℕ) (xs : List X) → IsTrue (list_all test xs) → IsTrue (list_all test (drop m xs))
all-drop test zero xs h = h
all-drop test (suc m) [] h = refl
all-drop test (suc m) (x ∷ xs) h = all-drop test m xs (and_parts (test x) _ h).1

pub all-at : {X : Type 0} (test : X → Bool) (xs : List X) (i : ℕ) (none : X) → i < length xs → IsTrue (list_all test xs) → IsTrue (test (get_or xs i none))
all-at test [] i none h g = absurd (omega arith)
all-at test (x ∷ xs) zero none h g = (and_parts _ _ g).0
all-at test (x ∷ xs) (suc i) none h g = all-at test xs i none (omega arith) (and_parts (test x) _ g).1

-- sums of numbers that are not negative where the entries pass a test

pub total_by-positive : {X : Type 0} (number : X → ℤ) (test : X → Bool) → ((x : X) → IsTrue (test x) → pos 0 ≤ℤ number x) → (xs : List X) →
    IsTrue (list_all test xs) → pos 0 ≤ℤ total_by number xs
total_by-positive number test low [] h = omega (arith, ints)
total_by-positive number test low (x ∷ xs) h =
    omega (arith, ints, low x (and_parts _ _ h).0, total_by-positive number test low xs (and_parts (test x) _ h).1)

pub total_by-at : {X : Type 0} (number : X → ℤ) (test : X → Bool) → ((x : X) → IsTrue (test x) → pos 0 ≤ℤ number x) → (xs : List X) (i : ℕ) (none : X) →
    i < length xs → IsTrue (list_all test xs) → number (get_or xs i none) ≤ℤ total_by number xs
total_by-at number test low [] i none h g = absurd (omega arith)
total_by-at number test low (x ∷ xs) zero none h g = omega (arith, ints, total_by-positive number test low xs (and_parts (test x) _ g).1)
total_by-at number test low (x ∷ xs) (suc i) none h g =
    omega (arith, ints, low x (and_parts _ _ g).0, total_by-at number test low xs i none (omega arith) (and_parts (test x) _ g).1)

-- a sum is that of the front and that of the rest
pub total_by-cut : {X : Type 0} (number : X → ℤ) (m : ℕ) (xs : List X) → total_by number (take m xs) +ℤ total_by number (drop m xs) ≡ total_by number xs
total_by-cut number zero xs = omega (arith, ints)
total_by-cut number (suc m) [] = refl
total_by-cut number (suc m) (x ∷ xs) = omega (arith, ints, total_by-cut number m xs)

-- all rows together

pub total-rows_of : {X : Type 0} (number : X → ℤ) (n : ℕ) (ps : List X) → length ps ≡ pair_count n → total_by (total_by number) (rows_of n ps) ≡ total_by number ps
total-rows_of number zero [] e = refl
total-rows_of number zero (p ∷ ps) e = absurd (omega arith)
total-rows_of number (suc later) ps e =
    omega (arith, ints, total_by-cut number later ps, total-rows_of number later (drop later ps) (omega (arith, length-drop later ps)))

pub all-rows_of : {X : Type 0} (test : X → Bool) (n : ℕ) (ps : List X) → IsTrue (list_all test ps) → IsTrue (list_all (list_all test) (rows_of n ps))
all-rows_of test zero ps h = refl
all-rows_of test (suc later) ps h =
    and_from (list_all test (take later ps)) _ (all-take test later ps h) (all-rows_of test later (drop later ps) (all-drop test later ps h))

pub all-row_at : {X : Type 0} (test : X → Bool) (rows : List (List X)) (k : ℕ) → IsTrue (list_all (list_all test) rows) → IsTrue (list_all test (row_at rows k))
all-row_at test [] k h = refl
all-row_at test (row ∷ rows) zero h = (and_parts (list_all test row) _ h).0
all-row_at test (row ∷ rows) (suc k) h = all-row_at test rows k (and_parts (list_all test row) _ h).1

-- the rows of what is made of each entry

pub rows_of-map : {X Y : Type 0} (f : X → Y) (n : ℕ) (ps : List X) → rows_of n (map f ps) ≡ map (map f) (rows_of n ps)
rows_of-map f zero ps = refl
rows_of-map f (suc later) ps =
    ap (λ row. row ∷ rows_of later (drop later (map f ps))) (take-map f later ps)
    ∙ (ap (λ rest. map f (take later ps) ∷ rows_of later rest) (drop-map f later ps) ∙ ap (λ rows. map f (take later ps) ∷ rows) (rows_of-map f later (drop later ps)))
