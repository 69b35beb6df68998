-- The history of a board under a turn is a run.
use Rattle.std.proofs.Common.{◌≡◌, ℕ, ℤ, List, [], ◌∷◌, Option, Some, None, refl, sym, ap, subst, ⊎_elim, ◌∙◌, length, set, length-set}
use Rattle.turn.specs.History.{Moved, HasMoved}
use Rattle.dp_model.specs.Dp.{Dp}
use Rattle.board_laws.specs.declared.cause.Cause.TheVariants.{Journal}
use Rattle.board_laws.specs.declared.taken.Taken.{Taken}
use Rattle.board_laws.specs.declared.taken.Taken.TheVariants.{Sub, WaitForOthers, Finished, Halted}
use Rattle.board_laws.specs.Board.{BoardState, slot_at}
use Rattle.board_laws.specs.Runs.Step.{Take, Improve, Finish, GiveBack, Halt}
use Rattle.board_laws.specs.Runs.{Step, after, IsRun}
use Rattle.board_laws.specs.Steps.{given_back_from, halted}
use Rattle.board_laws.specs.Taking.{take_gives, checked_out, after_answer}
use Rattle.board_laws.proofs.Running.{run-then, run-one, offered-is}
use Rattle.fringe.specs.Firsts.{first_taken}
use Rattle.fringe.specs.Tickets.{Ticketed}
use Rattle.disk.specs.declared.disk.Disk.{Ghosts}
use Rattle.kept_board.specs.Moves.{Stays, Snaps, Steps, Fails, IsMove}
use Rattle.kept_board.specs.View.{KeptView}
use Rattle.board.specs.Moves.{IsStepOf}
use Rattle.search_workers.specs.Later.{IsLater}

-- a run after which there are as many slots
pub record HasRun (dp : Dp) (b later : BoardState) : Type 0 where
  pub steps : List Step
  pub run : IsRun dp b steps later
  pub long : length later.slots ≡ length b.slots

set-long : (b : BoardState) (who : ℕ) (slot : Option Ticketed) → length (set b.slots who slot) ≡ length b.slots
set-long b who slot = length-set b.slots who slot

out-long : (b : BoardState) (who : ℕ) (first : Option Ticketed) → length (checked_out b who first).slots ≡ length b.slots
out-long b who None = refl
out-long b who (Some o) = set-long b who (Some o)

answer-long : (b : BoardState) (who : ℕ) (answer : Taken) → length (after_answer b who answer).slots ≡ length b.slots
answer-long b who Sub = out-long b who (first_taken b.open_ones)
answer-long b who WaitForOthers = refl
answer-long b who Finished = refl
answer-long b who (Halted cause) = refl

back-long : (b : BoardState) (who : ℕ) (slot : Option Ticketed) → length (given_back_from b who slot).slots ≡ length b.slots
back-long b who None = refl
back-long b who (Some o) = set-long b who None

step-long : (dp : Dp) (b : BoardState) (step : Step) → length (after dp b step).slots ≡ length b.slots
step-long dp b (Take who) = answer-long b who (take_gives b)
step-long dp b (Improve x) = offered-is (λ later. length later.slots ≡ length b.slots) dp b x refl (λ up. refl)
step-long dp b (Finish who threshold cs) = set-long b who None
step-long dp b (GiveBack who) = back-long b who (slot_at b who)
step-long dp b (Halt cause) = refl

no-run : (dp : Dp) (b later : BoardState) → later ≡ b → HasRun dp b later
no-run dp b later same = record { steps = []; run = sym same; long = ap (λ x. length x.slots) same }

one-run : (dp : Dp) (who : ℕ) (b later : BoardState) → IsStepOf dp who b later → HasRun dp b later
one-run dp who b later s =
    record { steps = s.step ∷ []; run = run-one dp b s.step later s.may s.is; long = ap (λ (x : BoardState). length x.slots) s.is ∙ step-long dp b s.step }

runs-then : (dp : Dp) (a b c : BoardState) → HasRun dp a b → HasRun dp b c → HasRun dp a c
runs-then dp a b c h k = record { steps = _; run = run-then dp a b c h.steps k.steps h.run k.run; long = k.long ∙ h.long }

-- a halt for the journal
halt-run : (dp : Dp) (b later : BoardState) → later ≡ halted b Journal → HasRun dp b later
halt-run dp b later is =
    record { steps = Halt Journal ∷ []; run = run-one dp b (Halt Journal) later tt is; long = ap (λ (x : BoardState). length x.slots) is }

module _ {D : Type 0} (on : Ghosts D) (meaning : List ℤ → Dp) where
  move-runs : (before now : KeptView D) (who : ℕ) → IsMove on meaning before now who → HasRun (meaning before.board.numbers) before.board.board now.board.board
  move-runs before now who m =
      let dp = meaning before.board.numbers in
      let b = before.board.board in
      ⊎_elim (λ (s : Stays on before now). no-run dp b now.board.board s.board)
      (λ others. ⊎_elim (λ (s : Snaps on before now). no-run dp b now.board.board s.board)
      (λ rest. ⊎_elim (λ (s : Steps on dp who before now). one-run dp who b now.board.board s.made) (λ (f : Fails on dp who before now). halt-run dp b now.board.board f.halts) rest) others) m.step

  moved-runs : (first : KeptView D) (line : List (ℕ × KeptView D)) (last : KeptView D) → Moved (IsMove on meaning) first line last → HasRun (meaning first.board.numbers) first.board.board last.board.board
  moved-runs first [] last h = no-run (meaning first.board.numbers) first.board.board last.board.board (ap (λ (v : KeptView D). v.board.board) (sym h))
  moved-runs first (m ∷ line) last h =
      runs-then (meaning first.board.numbers) first.board.board m.1.board.board last.board.board (move-runs first m.1 m.0 h.0)
      (subst (λ ns. HasRun (meaning ns) m.1.board.board last.board.board) h.0.numbers (moved-runs m.1 line last h.1))

  pub history-runs : (first last : KeptView D) → HasMoved (IsMove on meaning) first last → HasRun (meaning first.board.numbers) first.board.board last.board.board
  history-runs first last h = moved-runs first h.line last h.moved

-- what is later than a later board is later
pub later-then : (dp : Dp) (a b c : BoardState) → IsLater dp a b → IsLater dp b c → IsLater dp a c
later-then dp a b c h k = record { steps = _; run = run-then dp a b c h.steps k.steps h.run k.run; slots = k.slots ∙ h.slots }
