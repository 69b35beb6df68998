-- What a round makes of a subproblem.
use Rattle.std.specs.Prelude.{ℕ, ◌^◌, ◌<◌, ℤ, List, Option}
use Rattle.dp_model.specs.Dp.{Dp}
use Rattle.dp_model.specs.Numbers.{OptionAtMost}
use Rattle.dp_model.specs.Subproblem.{Subproblem}
use Rattle.dp_laws.specs.Children.{AreChildren, StandDeep, children_size}
use Rattle.dp_laws.specs.Restricted.Beams.{wide}
use Rattle.board_laws.specs.Board.{BoardState, reach}

-- the children may take the place of the prefix where all that is at most this number is left out, by a diagram of this width with a
-- threshold that is at most the number; and a record that names them all is not too large
pub record AreBranched (dp : Dp) (width : ℕ) (most : Option ℤ) (p : List ℕ) (threshold : Option ℤ) (cs : List Subproblem) : Type 0 where
  pub below : OptionAtMost threshold most
  pub children : AreChildren dp most p cs
  pub deep : StandDeep (wide dp p width threshold) cs
  pub size : children_size cs < 2 ^ 32

-- the same on a board, with its width and its reach
abbrev pub IsBranched : Dp → BoardState → List ℕ → Option ℤ → List Subproblem → Type 0
IsBranched dp b p threshold cs = AreBranched dp b.settings.width (reach b) p threshold cs
