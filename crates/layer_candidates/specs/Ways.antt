-- The ways to the states of a layer: of each state the best candidate.
use Rattle.std.specs.Prelude.{◌≡◌, ◌≢◌, ℕ, ◌+◌, ◌^◌, ◌<◌, ℤ, pos, ◌≤ℤ◌, int_lt, cond, set, List, [], ◌∷◌, ◌++◌, length, map, slice_index_or}
use lib.IntN.{neg_ℤ}
use Rattle.dp_model.specs.Dp.{Dp}
use Rattle.dp_model.specs.Gaps.{IsStateOf}
use Rattle.dp_model.specs.Reached.{Reached}
use Rattle.layer_candidates.specs.declared.way.Way.{Way}
use Rattle.layer_candidates.specs.Rows.{HasZeros}
use Rattle.layer_candidates.specs.HeldRows.{held_row}
use Rattle.layer_candidates.specs.Table.{IsTable}
use Rattle.row_region.specs.Layout.{table}
use Rattle.row_region.specs.Region.{RegionView}

-- the way at the place
abbrev pub way_at : List Way → ℕ → Way
way_at ways i = slice_index_or ways i (record { value = pos 0; rank = pos 0; hash = 0; row = 0; parent = 0; decision = 0 })

-- the places of the rows of the ways' states
abbrev pub rows_of : List Way → List ℕ
rows_of ways = map (λ (w : Way). w.row) ways

-- the row of the state of the way at the place
abbrev pub way_row : RegionView → List Way → ℕ → List ℤ
way_row region ways i = held_row region (way_at ways i).row

-- the prefix that a way with a row stands for, where the layer above has these paths
abbrev pub reached_by : (ℕ → List ℕ) → List ℤ → Way → Reached
reached_by paths row way = record { decisions = paths way.parent ++ way.decision ∷ []; row = row; value = way.value }

-- the prefix that the way at the place stands for
abbrev pub reached_at : (ℕ → List ℕ) → (ℕ → List ℤ) → List Way → ℕ → Reached
reached_at paths row ways i = reached_by paths (row i) (way_at ways i)

-- all of them
abbrev pub all_reached : (ℕ → List ℕ) → (ℕ → List ℤ) → List Way → List Reached
all_reached paths row ways = table (reached_at paths row ways) (length ways)

-- the ways with a new one at the place where its value is greater; the state keeps its row
abbrev pub bettered : List Way → ℕ → Way → List Way
bettered ways place way = cond (int_lt (way_at ways place).value way.value) (set ways place (record way { row = (way_at ways place).row })) ways

-- at most 2^61 in size
pub record IsNear (z : ℤ) : Type 0 where
  pub low : neg_ℤ (pos (2 ^ 61)) ≤ℤ z
  pub high : z ≤ℤ pos (2 ^ 61)

-- and by a gain more
pub record IsNearly (z : ℤ) : Type 0 where
  pub low : neg_ℤ (pos (2 ^ 61 + 2 ^ 50)) ≤ℤ z
  pub high : z ≤ℤ pos (2 ^ 61 + 2 ^ 50)

-- a way leads to a state of the layer at depth k, with its rank, its hash and a value that leaves room for gaps and rough bounds
pub record IsWay (dp : Dp) (k : ℕ) (row : List ℤ) (way : Way) : Type 0 where
  pub state : IsStateOf dp k row
  pub rank : way.rank ≡ dp.rank k row
  pub hash : way.hash ≡ dp.hash k row
  pub value : IsNearly way.value

-- this many first cells are zero in each state of the layer at depth k
abbrev pub AllHaveZeros : Dp → ℕ → ℕ → Type 0
AllHaveZeros dp k count = (s : List ℤ) → IsStateOf dp k s → HasZeros count s

-- no two rows are the same
abbrev pub AreDistinctRows : (ℕ → List ℤ) → ℕ → Type 0
AreDistinctRows row count = (j k : ℕ) → j < k → k < count → row j ≢ row k

-- each way leads to a state of the layer at depth k
abbrev pub AreWays : Dp → ℕ → (ℕ → List ℤ) → List Way → Type 0
AreWays dp k row ways = (i : ℕ) → i < length ways → IsWay dp k (row i) (way_at ways i)

-- the ways lead to different states of the layer at depth k
pub record AreDistinct (dp : Dp) (k : ℕ) (row : ℕ → List ℤ) (ways : List Way) : Type 0 where
  pub apart : AreDistinctRows row (length ways)
  pub good : AreWays dp k row ways

-- the hashes are the hashes of the states
abbrev pub AreHashed : Dp → ℕ → (ℕ → List ℤ) → ℕ → List ℕ → Type 0
AreHashed dp k row count hashes = (i : ℕ) → i < count → slice_index_or hashes i 0 ≡ dp.hash k (row i)

-- the ways lead to different states, which the table has
pub record AreJoined (dp : Dp) (k : ℕ) (row : ℕ → List ℤ) (live : ℕ) (ways : List Way) (hashes heads next : List ℕ) : Type 0 where
  pub table : IsTable (length ways) hashes heads next
  pub hashed : AreHashed dp k row (length ways) hashes
  pub apart : AreDistinctRows row (length ways)
  pub good : AreWays dp k row ways
