-- Runs of a board.
use Rattle.std.specs.Prelude.{◌≡◌, ℕ, ◌≤◌, ℤ, cond, List, [], ◌∷◌, slice_get, Option, Some, None, IsSome}
use Rattle.dp_model.specs.Dp.{Dp}
use Rattle.dp_model.specs.Numbers.{OptionAtMost, is_above}
use Rattle.dp_model.specs.Prefixes.{IsSolution, value_of}
use Rattle.dp_model.specs.Subproblem.{Subproblem}
use Rattle.board_laws.specs.declared.cause.Cause.{Cause}
use Rattle.board_laws.specs.declared.cause.Cause.TheVariants.{Budget, Memory, Journal}
use Rattle.board_laws.specs.Board.{BoardState, incumbent_value, slot_at}
use Rattle.board_laws.specs.Fates.{fates_on}
use Rattle.board_laws.specs.Finishing.{MayFinish}
use Rattle.board_laws.specs.Steps.{improved, finished_by, given_back, halted}
use Rattle.board_laws.specs.Taking.{after_take}

-- a step of a worker, or of no one in particular
pub data Step : Type 0 where
  Take : (who : ℕ) → Step
  Improve : (decisions : List ℕ) → Step
  Finish : (who : ℕ) (threshold : Option ℤ) (children : List Subproblem) → Step
  GiveBack : (who : ℕ) → Step
  Halt : (cause : Cause) → Step

-- the slot is full, and a cause is held
pub record MayGiveBack (b : BoardState) (who : ℕ) : Type 0 where
  pub full : IsSome (slot_at b who)
  pub halted : IsSome b.cause

-- the budget is no cause that a board holds
abbrev pub MayHalt : Cause → Type 0
MayHalt Budget = ⊥
MayHalt Memory = Unit {0}
MayHalt Journal = Unit {0}

-- the step is allowed where the board stands
abbrev pub May : Dp → BoardState → Step → Type 0
May dp b (Take who) = slice_get b.slots who ≡ Some None
May dp b (Improve x) = IsSolution dp x
May dp b (Finish who threshold cs) = MayFinish dp b who threshold cs (fates_on dp b cs)
May dp b (GiveBack who) = MayGiveBack b who
May dp b (Halt cause) = MayHalt cause

-- Improve by any feasible solution: only a better one changes the board
abbrev pub offered : Dp → BoardState → List ℕ → BoardState
offered dp b x = cond (is_above (incumbent_value b) (value_of dp x)) (improved b (record { decisions = x; value = value_of dp x })) b

-- the board after the step
abbrev pub after : Dp → BoardState → Step → BoardState
after dp b (Take who) = after_take b who
after dp b (Improve x) = offered dp b x
after dp b (Finish who threshold cs) = finished_by dp b who cs
after dp b (GiveBack who) = given_back b who
after dp b (Halt cause) = halted b cause

-- the worker whose slot a step may change
abbrev pub worker_of : Step → Option ℕ
worker_of (Take who) = Some who
worker_of (Improve x) = None
worker_of (Finish who threshold cs) = Some who
worker_of (GiveBack who) = Some who
worker_of (Halt cause) = None

-- the steps, each allowed where it stands, lead from the first board to the last
abbrev pub IsRun : Dp → BoardState → List Step → BoardState → Type 0
IsRun dp b [] last = b ≡ last
IsRun dp b (step ∷ steps) last = May dp b step × IsRun dp (after dp b step) steps last

-- a later board of a run: the settings are the same, the incumbent is no worse, and no count and no ticket begins anew
pub record IsLaterInRun (b later : BoardState) : Type 0 where
  pub settings : later.settings ≡ b.settings
  pub better : OptionAtMost (incumbent_value b) (incumbent_value later)
  pub taken : b.taken ≤ later.taken
  pub finished : b.finished ≤ later.finished
  pub next_ticket : b.next_ticket ≤ later.next_ticket
