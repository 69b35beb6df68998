-- What is told of the search of a part, which begins with some start prefixes, and when it is true.
use Rattle.std.specs.Prelude.{◌≡◌, ℕ, ℤ, List, Option, Some, None}
use Rattle.dp_model.specs.Distances.{IsDistance}
use Rattle.dp_model.specs.Dp.{Dp}
use Rattle.dp_model.specs.Numbers.{AtMost}
use Rattle.dp_model.specs.Solution.{Solution}
use Rattle.board_laws.specs.Board.{BoardState, reach_of, value_held}
use Rattle.board_laws.specs.GoodBoard.{IsBoard, IsGoodFrom}
use Rattle.board_laws.specs.Starts.{BeginsWithOne}
use Rattle.board_laws.specs.declared.settings.Settings.{Settings}
use Rattle.frontier_parts.specs.Searches.{AreSettledBy, HoldsFrom}
use Rattle.solver_report.specs.declared.answer.Counts.{Counts}
use Rattle.solver_report.specs.declared.answer.Outcome.{Outcome}
use Rattle.solver_report.specs.declared.answer.Outcome.TheVariants as outcomes
use Rattle.solver_report.specs.declared.answer.PartOutcome.{PartOutcome}
use Rattle.solver_report.specs.declared.answer.PartOutcome.TheVariants.{Settled, Stopped}
use Rattle.solver_words.specs.declared.job.JobSettings.{JobSettings}
use Rattle.answers.specs.Outcomes.{IsCounted, IsExploredWith, IsStopped}
use Rattle.answers.specs.Over.{IsOver}

-- what a search within a distance tells of a part, by how it ended
abbrev pub part_outcome : ℤ → Outcome → PartOutcome
part_outcome within (outcomes.Proved best near) = Settled (Some best) near
part_outcome within outcomes.Infeasible = Settled None within
part_outcome within (outcomes.Stopped stop best bound) = Stopped stop best bound

-- what is told of a board
abbrev pub IsPartTold : Dp → (List ℕ → Option ℤ) → BoardState → PartOutcome → Type 0
IsPartTold dp own board (Settled best within) = IsExploredWith dp own board best × (within ≡ board.settings.within)
IsPartTold dp own board (Stopped stop best bound) = IsStopped dp own board stop best bound

-- no feasible solution that begins with a start prefix exceeds the number, and no list that begins with one is worth more in the problem's own words
pub record NoneExceedsFrom (dp : Dp) (own : List ℕ → Option ℤ) (starts : List (List ℕ)) (most : Option ℤ) : Type 0 where
  pub holds : HoldsFrom dp starts most
  pub own_holds : (x : List ℕ) (worth : ℤ) → own x ≡ Some worth → BeginsWithOne starts x → AtMost worth most

-- no solution that begins with a start prefix is further above the best one than the distance, so that its value settles each of the prefixes
pub record AreSettledWithin (dp : Dp) (own : List ℕ → Option ℤ) (starts : List (List ℕ)) (within : ℤ) (best : Option Solution) : Type 0 where
  pub distance : IsDistance within
  pub none_further : NoneExceedsFrom dp own starts (reach_of within (value_held best))
  pub settled : AreSettledBy dp starts within (value_held best)

-- what is told is true: the start prefixes are settled, or no solution that begins with one of them exceeds the bound
abbrev pub IsTrueFrom : Dp → (List ℕ → Option ℤ) → List (List ℕ) → PartOutcome → Type 0
IsTrueFrom dp own starts (Settled best within) = AreSettledWithin dp own starts within best
IsTrueFrom dp own starts (Stopped stop best bound) = NoneExceedsFrom dp own starts (Some bound)

-- what is told of a board at which a search is over, and true where its first board was good from the start prefixes
pub record IsPartConcluded (dp : Dp) (own : List ℕ → Option ℤ) (starts : List (List ℕ)) (search : JobSettings) (first board : BoardState) (outcome : PartOutcome) (counts : Option Counts) : Type 0 where
  pub kept : IsBoard dp board
  pub told : IsPartTold dp own board outcome
  pub counted : IsCounted board search.stats counts
  pub good : IsGoodFrom dp starts first → IsGoodFrom dp starts board
  pub ends : IsGoodFrom dp starts first → IsTrueFrom dp own starts outcome

-- a search from a first board with some settings is over, and this is told of the last one, of which the disk keeps its journal; the first board is good
-- from the start prefixes where what is trusted is true
pub record HasSearchedPart (dp : Dp) (own : List ℕ → Option ℤ) (starts : List (List ℕ)) (first : Settings → BoardState) (Trusted : Type 0) (search : JobSettings) (Keeps : BoardState → Type 0) (outcome : PartOutcome) (counts : Option Counts) : Type 0 where
  pub settings : Settings
  pub board : BoardState
  pub over : IsOver dp search (first settings) board
  pub concluded : IsPartConcluded dp own starts search (first settings) board outcome counts
  pub trusted : Trusted → IsGoodFrom dp starts (first settings)
  pub keeps : Keeps board
