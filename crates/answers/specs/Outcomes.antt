-- What is told of a search, and when it is true.
use Rattle.std.specs.Prelude.{◌≡◌, ◌≢◌, ℕ, ◌^◌, ◌<◌, ◌≤◌, Bool, true, false, ℤ, List, [], Option, Some, None, IsTrue}
use Rattle.dp_model.specs.Solution.{Solution}
use Rattle.dp_model.specs.Counts.{tree}
use Rattle.dp_model.specs.Dp.{Dp}
use Rattle.dp_model.specs.Numbers.{AtMost}
use Rattle.dp_model.specs.Prefixes.{IsSolution, value_of}
use Rattle.board_laws.specs.Board.{BoardState, is_explored}
use Rattle.board_laws.specs.Bound.{board_bound}
use Rattle.board_laws.specs.GoodBoard.{IsBoard, IsGood}
use Rattle.board_laws.specs.Taking.{is_budget_up}
use Rattle.board_laws.specs.declared.cause.Cause.TheVariants as causes
use Rattle.board_laws.specs.declared.settings.Settings.{Settings}
use Rattle.dp_model.specs.Distances.{IsDistance}
use Rattle.solver_report.specs.declared.answer.Stop.{Stop}
use Rattle.solver_report.specs.declared.answer.Stop.TheVariants.{Budget, Memory, Journal}
use Rattle.solver_report.specs.declared.answer.Counts.{Counts}
use Rattle.solver_report.specs.declared.answer.Outcome.{Outcome}
use Rattle.solver_report.specs.declared.answer.Outcome.TheVariants.{Proved, Infeasible, Stopped}
use Rattle.solver_words.specs.declared.job.JobSettings.{JobSettings}
use Rattle.answers.specs.Over.{IsOver}
use Rattle.answers.specs.Reports.{IncumbentIsFeasible, IsInfeasible, IsProvedWithin, NoneIsWorthMore}

-- why a board is not explored: the budget is used up and no cause is held, or want of memory or a failed journal is held
abbrev pub StopHolds : BoardState → Stop → Type 0
StopHolds b Budget = IsTrue (is_budget_up b) × (b.cause ≡ None)
StopHolds b Memory = b.cause ≡ Some causes.Memory
StopHolds b Journal = b.cause ≡ Some causes.Journal

-- nothing is open or out, and this is the incumbent, which is feasible with its value
pub record IsExploredWith (dp : Dp) (own : List ℕ → Option ℤ) (board : BoardState) (incumbent : Option Solution) : Type 0 where
  pub explored : IsTrue (is_explored board)
  pub held : board.incumbent ≡ incumbent
  pub found_one : IncumbentIsFeasible dp own incumbent

-- something is open for this reason, and these are the incumbent, which is feasible with its value, and the bound
pub record IsStopped (dp : Dp) (own : List ℕ → Option ℤ) (board : BoardState) (stop : Stop) (incumbent : Option Solution) (bound : ℤ) : Type 0 where
  pub something_open : board.open_ones ≢ []
  pub holds : StopHolds board stop
  pub held : board.incumbent ≡ incumbent
  pub found_one : IncumbentIsFeasible dp own incumbent
  pub bound_is : board_bound board ≡ Some bound

-- what is told of a board
abbrev pub IsTold : Dp → (List ℕ → Option ℤ) → BoardState → Outcome → Type 0
IsTold dp own board (Proved found within) = IsExploredWith dp own board (Some found) × (within ≡ board.settings.within)
IsTold dp own board Infeasible = IsExploredWith dp own board None
IsTold dp own board (Stopped stop incumbent bound) = IsStopped dp own board stop incumbent bound

-- no feasible solution exceeds the bound; a search stops for its budget only where that is less than the number of prefixes, or these are more than 2^63
pub record IsBounded (dp : Dp) (own : List ℕ → Option ℤ) (budget : ℕ) (stop : Stop) (bound : ℤ) : Type 0 where
  pub most : (x : List ℕ) → IsSolution dp x → AtMost (value_of dp x) (Some bound)
  pub own_most : NoneIsWorthMore own bound
  pub incomplete : stop ≡ Budget → tree dp ≤ budget → tree dp ≤ 2 ^ 63 → ⊥

-- what is told is true, and its distance is from 0 to 2^50
abbrev pub IsTrueOf : Dp → (List ℕ → Option ℤ) → ℕ → Outcome → Type 0
IsTrueOf dp own budget (Proved found within) = IsDistance within × IsProvedWithin dp own within found
IsTrueOf dp own budget Infeasible = IsInfeasible dp own
IsTrueOf dp own budget (Stopped stop incumbent bound) = IsBounded dp own budget stop bound

-- the counts of a board, of 64 bits
pub record AreCounts (board : BoardState) (counts : Counts) : Type 0 where
  pub taken : counts.taken ≡ board.taken
  pub finished : counts.finished ≡ board.finished
  pub sized : counts.taken < 2 ^ 64

-- they are told exactly where they are asked for
abbrev pub IsCounted : BoardState → Bool → Option Counts → Type 0
IsCounted board true (Some counts) = AreCounts board counts
IsCounted board false None = Unit {0}
IsCounted board _ _ = ⊥

-- what is told of a board at which a search is over, and true where its first board was good
pub record IsConcluded (dp : Dp) (own : List ℕ → Option ℤ) (search : JobSettings) (first board : BoardState) (outcome : Outcome) (counts : Option Counts) : Type 0 where
  pub kept : IsBoard dp board
  pub told : IsTold dp own board outcome
  pub counted : IsCounted board search.stats counts
  pub good : IsGood dp first → IsGood dp board
  pub ends : IsGood dp first → IsTrueOf dp own search.budget outcome

-- a search from a first board with some settings is over, and this is told of the last one, of which the disk keeps its journal; the first board is good
-- where what is trusted is true
pub record HasSearched (dp : Dp) (own : List ℕ → Option ℤ) (first : Settings → BoardState) (Trusted : Type 0) (search : JobSettings) (Keeps : BoardState → Type 0) (outcome : Outcome) (counts : Option Counts) : Type 0 where
  pub settings : Settings
  pub board : BoardState
  pub over : IsOver dp search (first settings) board
  pub concluded : IsConcluded dp own search (first settings) board outcome counts
  pub trusted : Trusted → IsGood dp (first settings)
  pub keeps : Keeps board
