-- A layer made by sorting the places of its candidates.
use Rattle.std.specs.Prelude.{◌≡◌, ℕ, ◌<◌, nat_lt, pos, ◌<ℤ◌, ◌≤ℤ◌, int_lt, Bool, cond, ◌&&◌, ◌||◌, List, [], ◌∷◌, length, map, slice_index_or, IsPermutation, IsSortedBy}
use Rattle.std.specs.Cmp.{IsStrictWeakOrder}
use Rattle.dp_model.specs.Decisions.{below}
use Rattle.dp_model.specs.Dp.{Dp}
use Rattle.dp_model.specs.Numbers.{int_same}
use Rattle.dp_model.specs.Reached.{Reached}
use Rattle.dp_model.specs.Rows.{row_same, row_smaller}
use Rattle.dp_laws.specs.Restricted.BestOfState.{IsBestOfState}
use Rattle.dp_laws.specs.Restricted.Extensions.{all_joined}
use Rattle.dp_laws.specs.Restricted.ReductionOrder.{stands_before, in_order}

-- the candidate at the place
abbrev pub at : List Reached → ℕ → Reached
at cs i = slice_index_or cs i (record { decisions = []; row = []; value = pos 0 })

-- whether a candidate comes before another by state: the smaller row, then the greater value, then the earlier place
abbrev pub comes_before : List Reached → ℕ → ℕ → Bool
comes_before cs i j =
    row_smaller (at cs i).row (at cs j).row || (row_same (at cs i).row (at cs j).row &&
    (int_lt (at cs j).value (at cs i).value || (int_same (at cs j).value (at cs i).value &&
    nat_lt i j)))

-- of places after i those whose state is not that of the one before them, which i is for the first
abbrev pub firsts_after : List Reached → ℕ → List ℕ → List ℕ
firsts_after cs i [] = []
firsts_after cs i (j ∷ rest) = cond (row_same (at cs i).row (at cs j).row) (firsts_after cs i rest) (j ∷ firsts_after cs j rest)

-- of some places those whose state is not that of the one before them
abbrev pub firsts : List Reached → List ℕ → List ℕ
firsts cs [] = []
firsts cs (i ∷ rest) = i ∷ firsts_after cs i rest

-- whether the candidate at a place stands before that at another in the reduction order
abbrev pub places_before : Dp → ℕ → List Reached → ℕ → ℕ → Bool
places_before dp k cs i j = stands_before dp k (at cs i) (at cs j)

-- the candidate at the place is the first of greatest value of its state
pub record IsBestAt (cs : List Reached) (i : ℕ) : Type 0 where
  pub within : i < length cs
  pub earlier : (j : ℕ) → j < i → (at cs j).row ≡ (at cs i).row → (at cs j).value <ℤ (at cs i).value
  pub later : (j : ℕ) → i < j → j < length cs → (at cs j).row ≡ (at cs i).row → (at cs j).value ≤ℤ (at cs i).value

-- all places sorted by state, the firsts of them sorted by the reduction order, are the next layer before anything is struck
pub record SortingExpands (dp : Dp) : Type 0 where
  pub by_state : (cs : List Reached) → IsStrictWeakOrder (comes_before cs)
  pub by_order : (k : ℕ) (cs : List Reached) → IsStrictWeakOrder (places_before dp k cs)
  pub best : (cs : List Reached) (i : ℕ) → IsBestAt cs i → IsBestOfState cs (at cs i)
  pub gives : (k : ℕ) (cs : List Reached) (sorted kept : List ℕ) → IsPermutation (below (length cs)) sorted → IsSortedBy (comes_before cs) sorted
      → IsPermutation (firsts cs sorted) kept → IsSortedBy (places_before dp k cs) kept → map (at cs) kept ≡ in_order dp k (all_joined [] cs)
