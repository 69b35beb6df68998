-- What a Finish asks.
use Rattle.std.specs.Prelude.{◌≡◌, ℕ, ℤ, List, Option, Some}
use Rattle.dp_model.specs.Dp.{Dp}
use Rattle.dp_model.specs.Numbers.{OptionAtMost}
use Rattle.dp_model.specs.Subproblem.{Subproblem}
use Rattle.fringe.specs.Tickets.{Ticketed}
use Rattle.board_laws.specs.declared.fate.Fate.{Fate}
use Rattle.board_laws.specs.Board.{BoardState, reach, slot_at}
use Rattle.dp_laws.specs.Children.{AreChildren, StandDeep}
use Rattle.dp_laws.specs.Restricted.Beams.{wide}
use Rattle.board_laws.specs.Fates.{fates_on}

-- the slot is full; the threshold of the diagram that the children come from is at most the reach; the children are those of the
-- slot's prefix, and stand where a diagram of the width of the settings and this threshold is last exact, or deeper; and the fates
-- are those of the board
pub record MayFinish (dp : Dp) (b : BoardState) (who : ℕ) (threshold : Option ℤ) (cs : List Subproblem) (fs : List Fate) : Type 0 where
  pub parent : Ticketed
  pub full : slot_at b who ≡ Some parent
  pub below : OptionAtMost threshold (reach b)
  pub children : AreChildren dp (reach b) parent.subproblem.decisions cs
  pub deep : StandDeep (wide dp parent.subproblem.decisions b.settings.width threshold) cs
  pub fates : fs ≡ fates_on dp b cs
