-- A board as its callers see it.
use Rattle.std.specs.Prelude.{ℕ, ℤ, List}
use Rattle.board_laws.specs.Board.{BoardState}
use Rattle.board.specs.declared.tag.BoardTag.{BoardTag}

-- the instance's numbers, the board as data, the board that it was when it was made, and for how many children more there is room
pub record BoardView : Type 0 where
  pub numbers : List ℤ
  pub board : BoardState
  pub first : BoardState
  pub room : ℕ

-- what stays through a search: the instance's numbers, the settings and the first board
abbrev pub Tag : Type 0
Tag = BoardTag

-- what no step of a board changes
abbrev pub tag_of : BoardView → Tag
tag_of v = record { numbers = v.numbers; settings = v.board.settings; first = v.first }
