-- What a board starts with, and the board that has such a start.
use Rattle.std.specs.Prelude.{◌≡◌, ◌≤◌, Option, vec_capacity}
use Rattle.dp_model.specs.Dp.{Dp}
use Rattle.dp_model.specs.Solution.{Solution}
use Rattle.board_laws.specs.declared.settings.Settings.{Settings}
use Rattle.board_laws.specs.Board.{BoardState}
use Rattle.board_laws.specs.Steps.{fresh_board}
use Rattle.board.specs.Kept.{best_of}
use Rattle.board.specs.declared.start.Start.{Start}

-- the incumbent of a start
abbrev pub start_best : Start → Option Solution
start_best s = best_of s.best.items s.best_value

-- the board of these settings that has the start
abbrev pub board_of : Settings → Start → BoardState
board_of settings s = fresh_board settings (start_best s) s.fringe.open_ones s.next_ticket

-- a start of the instance: its rows have the instance's cells, and there is room for the decisions of an incumbent
pub record IsStart (dp : Dp) (s : Start) : Type 0 where
  pub words : s.fringe.words ≡ dp.words
  pub best : dp.vars ≤ vec_capacity s.best
