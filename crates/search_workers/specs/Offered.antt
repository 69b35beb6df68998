-- What offered solutions change.
use Rattle.std.specs.Prelude.{◌≡◌, ℤ, List, Option, option_map}
use Rattle.dp_model.specs.Dp.{Dp}
use Rattle.dp_model.specs.Reached.{Reached}
use Rattle.dp_model.specs.Solution.{Solution}
use Rattle.dp_model.specs.declared.found.Found.{Found}
use Rattle.board_laws.specs.Board.{BoardState}
use Rattle.board_laws.specs.Runs.{Step, IsRun}

-- what was found, as data
abbrev pub found_solution : Option Found → Option Solution
found_solution found = option_map (λ (f : Found). record { decisions = f.decisions.now; value = f.value }) found

-- the value of a beam
abbrev pub beam_value : Option Reached → Option ℤ
beam_value b = option_map (λ (r : Reached). r.value) b

-- a board after offers, which are steps of a run: beside the incumbent only what is open may have changed
pub record IsOffered (dp : Dp) (b later : BoardState) : Type 0 where
  pub steps : List Step
  pub run : IsRun dp b steps later
  pub slots : later.slots ≡ b.slots
  pub taken : later.taken ≡ b.taken
  pub finished : later.finished ≡ b.finished
  pub next_ticket : later.next_ticket ≡ b.next_ticket
  pub cause : later.cause ≡ b.cause
