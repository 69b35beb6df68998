-- Which entry of a table dominates a new state.
use Rattle.std.specs.Prelude.{◌≡◌, ℕ, ℤ, Bool, ◌&&◌, nat_eq, nat_le, cond, List, [], ◌∷◌, map, filter, Option, Some, None}
use Rattle.dp_model.specs.Dp.{Dp}
use Rattle.dp_model.specs.Gaps.{IsStateOf, covers_at}
use Rattle.dp_model.specs.Lists.{Each}
use Rattle.dominance_table.specs.Entries.{TableEntry}

-- the lesser of two numbers, where none is greater than every number
abbrev pub lesser : Option ℕ → Option ℕ → Option ℕ
lesser None n = n
lesser (Some m) None = Some m
lesser (Some m) (Some n) = Some (cond (nat_le m n) m n)

-- the least number of a list, or none where it is empty
abbrev pub least : List ℕ → Option ℕ
least [] = None
least (n ∷ ns) = lesser (Some n) (least ns)

-- an entry of the depth and of the state's bucket, whose value is no less than the new one and the entry's gap to the state
abbrev pub entry_dominates : Dp → ℕ → List ℤ → ℤ → TableEntry → Bool
entry_dominates dp depth row value e =
    nat_eq e.depth depth && (nat_eq e.bucket (dp.bucket depth row) && covers_at (dp.gap depth e.row row) e.value value)

-- the least ticket of the entries that dominate
abbrev pub dominator : Dp → List TableEntry → ℕ → List ℤ → ℤ → Option ℕ
dominator dp entries depth row value = least (map (λ e. e.ticket) (filter (entry_dominates dp depth row value) entries))

-- the entry of a state that was reached with the value
abbrev pub entry_of_state : Dp → ℕ → List ℤ → ℤ → ℕ → TableEntry
entry_of_state dp depth row value ticket = record { depth = depth; bucket = dp.bucket depth row; row = row; rank = dp.rank depth row; value = value; ticket = ticket }

-- the row is a state of the depth, and the rank is the state's
pub record IsReached (dp : Dp) (depth : ℕ) (row : List ℤ) (rank : ℤ) : Type 0 where
  pub state : IsStateOf dp depth row
  pub rank_is : rank ≡ dp.rank depth row

-- the rows of all entries of the depth are states of that layer, and their ranks are those of the states
abbrev pub AreStates : Dp → ℕ → List TableEntry → Type 0
AreStates dp depth entries = Each (λ e. e.depth ≡ depth → IsReached dp depth e.row e.rank) entries
