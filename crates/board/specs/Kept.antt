-- What the fields of a board keep.
use Rattle.std.specs.Prelude.{◌≡◌, ℕ, ◌+◌, ◌≤◌, ℤ, ◌⊎◌, List, length, Option, Some, None}
use Rattle.dp_model.specs.Solution.{Solution}
use Rattle.dp_model.specs.Dp.{Dp}
use Rattle.fringe.specs.Fringe.{FringeView}
use Rattle.dominance_table.specs.Entries.{TableView}
use Rattle.board_laws.specs.Board.{BoardState, full_slots}
use Rattle.board_laws.specs.GoodBoard.{IsBoard, IsGood}

-- decisions with their value, or none where there is no value
abbrev pub best_of : List ℕ → Option ℤ → Option Solution
best_of decisions None = None
best_of decisions (Some value) = Some (record { decisions = decisions; value = value })

-- the table has room for this many entries more, or for all that its limit leaves
abbrev pub HasRows : ℕ → TableView → Type 0
HasRows n t = (n ≤ t.spare) ⊎ (t.limit ≤ length t.entries + t.spare)

-- the fringe and the table are of the instance and the settings, and have room for this many children beside what is out
pub record HasRoomForChildren (dp : Dp) (b : BoardState) (fringe : FringeView) (table : TableView) (room : ℕ) : Type 0 where
  pub fringe_words : fringe.words ≡ dp.words
  pub table_words : table.words ≡ dp.words
  pub limit : table.limit ≡ b.settings.table_limit
  pub open_room : room + length (full_slots b.slots) ≤ fringe.spare
  pub table_room : HasRows room table

-- there is room for the decisions of an incumbent and for two states
pub record HasBuffers (dp : Dp) (for_best cells spare_cells : ℕ) : Type 0 where
  pub best : dp.vars ≤ for_best
  pub row : cells ≡ dp.words
  pub spare : spare_cells ≡ dp.words

-- a board with its room, which is good where the first one was
pub record IsBoardInMemory (dp : Dp) (first b : BoardState) (fringe : FringeView) (table : TableView) (room for_best cells spare_cells : ℕ) : Type 0 where
  pub board : IsBoard dp b
  pub good : IsGood dp first → IsGood dp b
  pub has_room : HasRoomForChildren dp b fringe table room
  pub buffers : HasBuffers dp for_best cells spare_cells
