-- A board whose search is over.
use Rattle.std.specs.Prelude.{◌≡◌, ◌^◌, ◌≤◌, false, List, [], None, IsTrue}
use Rattle.dp_model.specs.Counts.{tree}
use Rattle.dp_model.specs.Dp.{Dp}
use Rattle.board_laws.specs.Board.{BoardState, full_slots, is_explored}
use Rattle.board_laws.specs.GoodBoard.{IsGood}
use Rattle.board_laws.specs.Runs.{Step, IsRun}
use Rattle.board_laws.specs.Taking.{is_budget_up}
use Rattle.solver_words.specs.declared.job.JobSettings.{JobSettings}
use Rattle.answers.specs.Widths.{IsSearchWidth}

-- a run from the first board, which has this width, this number of workers, this budget and this distance from the best, led to it, and nothing is out;
-- where something is open and no cause is held the budget is used up, which it is not where the first board was good and the budget and the tickets
-- suffice for every prefix
pub record IsOver (dp : Dp) (search : JobSettings) (first b : BoardState) : Type 0 where
  pub steps : List Step
  pub run : IsRun dp first steps b
  pub wide : IsSearchWidth dp search.width first.settings.width
  pub crew : first.settings.workers ≡ search.workers
  pub budget : first.settings.budget ≡ search.budget
  pub distance : first.settings.within ≡ search.within
  pub idle : full_slots b.slots ≡ []
  pub ended : is_explored b ≡ false → b.cause ≡ None → IsTrue (is_budget_up b)
  pub complete : IsGood dp first → tree dp ≤ search.budget → tree dp ≤ 2 ^ 63 → b.cause ≡ None → IsTrue (is_explored b)
