-- Rounds on a board.
use Rattle.std.specs.Prelude.{◌≡◌, ◌^◌, ◌≤◌, false, List, None, IsTrue}
use Rattle.dp_model.specs.Counts.{tree}
use Rattle.dp_model.specs.Dp.{Dp}
use Rattle.board_laws.specs.Board.{BoardState, is_explored}
use Rattle.board_laws.specs.Runs.{Step, IsRun}
use Rattle.board_laws.specs.Taking.{is_budget_up}

-- a board some rounds later, which are a run: the slots have what they had. A run never ends a cause, and halts a search for want of
-- memory or for the journal alone.
pub record IsLater (dp : Dp) (b later : BoardState) : Type 0 where
  pub steps : List Step
  pub run : IsRun dp b steps later
  pub slots : later.slots ≡ b.slots

-- no round can follow: where something is open or out and no cause is held, the budget is used up
abbrev pub NoRoundFollows : BoardState → Type 0
NoRoundFollows b = is_explored b ≡ false → b.cause ≡ None → IsTrue (is_budget_up b)

-- where the budget and the tickets suffice for every prefix and no cause is held, nothing is open or out
abbrev pub IsComplete : Dp → BoardState → Type 0
IsComplete dp b = tree dp ≤ b.settings.budget → tree dp ≤ 2 ^ 63 → b.cause ≡ None → IsTrue (is_explored b)
