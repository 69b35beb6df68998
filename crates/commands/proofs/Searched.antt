-- A search in other words.
use Rattle.std.proofs.Common.{◌≡◌, ℕ, ℤ, List, Option, subst}
use Rattle.dp_model.specs.Dp.{Dp}
use Rattle.board_laws.specs.Board.{BoardState}
use Rattle.board_laws.specs.GoodBoard.{IsGood}
use Rattle.board_laws.specs.declared.settings.Settings.{Settings}
use Rattle.solver_report.specs.declared.answer.Counts.{Counts}
use Rattle.solver_report.specs.declared.answer.Outcome.{Outcome}
use Rattle.answers.specs.Outcomes.{HasSearched, IsConcluded}
use Rattle.answers.specs.Over.{IsOver}
use Rattle.solver_words.specs.declared.job.JobSettings.{JobSettings}

-- by how its first board is made, what is trusted for that to be good, and what its last board keeps
pub in-words : (dp : Dp) (own : List ℕ → Option ℤ) (search : JobSettings) (f : BoardState) (first : Settings → BoardState) (Trusted : Type 0) (Keeps Other : BoardState → Type 0) → f ≡ first f.settings → (Trusted → IsGood dp f)
    → ((b : BoardState) → IsOver dp search f b → Keeps b → Other b) → (outcome : Outcome) (counts : Option Counts) → HasSearched dp own (λ settings. f) (IsGood dp f) search Keeps outcome counts → HasSearched dp own first Trusted search Other outcome counts
in-words dp own search f first Trusted Keeps Other is good other outcome counts h = record {
  settings = f.settings;
  board = h.board;
  over = subst (λ (x : BoardState). IsOver dp search x h.board) is h.over;
  concluded = subst (λ (x : BoardState). IsConcluded dp own search x h.board outcome counts) is h.concluded;
  trusted = λ t. subst (IsGood dp) is (good t);
  keeps = other h.board h.over h.keeps;
}
