-- What belongs to each two of n variables, listed by the first variable, then by the second.
use Rattle.std.specs.Prelude.{ℕ, zero, suc, ◌+◌, ℤ, pos, ◌+ℤ◌, List, [], ◌∷◌, take, drop}

-- as a row for each variable, with one entry for each later variable
abbrev pub rows_of : {X : Type 0} → ℕ → List X → List (List X)
rows_of zero pairs = []
rows_of (suc later) pairs = take later pairs ∷ rows_of later (drop later pairs)

-- the number of pairs of n variables
abbrev pub pair_count : ℕ → ℕ
pair_count zero = 0
pair_count (suc later) = later + pair_count later

-- the row of a variable, and no entry past the last one
abbrev pub row_at : {X : Type 0} → List (List X) → ℕ → List X
row_at [] k = []
row_at (row ∷ rows) zero = row
row_at (row ∷ rows) (suc k) = row_at rows k

-- how many entries of n variables stand before the row of variable k
abbrev pub entries_before : ℕ → ℕ → ℕ
entries_before n zero = 0
entries_before zero (suc k) = 0
entries_before (suc n) (suc k) = n + entries_before n k

-- the sum of a number of each entry
abbrev pub total_by : {X : Type 0} → (X → ℤ) → List X → ℤ
total_by number [] = pos 0
total_by number (x ∷ xs) = number x +ℤ total_by number xs
