-- A run never lowers the incumbent, and never ends the failure of a journal.
use Rattle.std.proofs.Common.{◌≡◌, ⊎_elim, ℕ, ℤ, List, [], ◌∷◌, Bool, Option, Some, None, is_some, Result, IfOk, refl, sym, ap, subst, ◌∙◌}
use Rattle.std.specs.declared.alloc.AllocError.{AllocError}
use Rattle.disk.specs.declared.disk.Disk.{Ghosts}
use Rattle.disk.specs.Counts.{Rose}
use Rattle.dp_model.specs.Dp.{Dp}
use Rattle.dp_model.specs.Numbers.{OptionAtMost}
use Rattle.fringe.specs.Firsts.{first_taken}
use Rattle.fringe.specs.Tickets.{Ticketed}
use Rattle.board_laws.specs.Board.{BoardState, incumbent_value, slot_at, value_held}
use Rattle.board_laws.specs.Runs.{Step, IsRun, after}
use Rattle.board_laws.specs.Runs.Step.{Take, Improve, Finish, GiveBack, Halt}
use Rattle.board_laws.specs.Steps.{cause_after, given_back_from}
use Rattle.board_laws.specs.Taking.{after_answer, checked_out, take_gives}
use Rattle.board_laws.specs.declared.cause.Cause.{Cause}
use Rattle.board_laws.specs.declared.cause.Cause.TheVariants.{Budget, Memory, Journal}
use Rattle.board_laws.specs.declared.taken.Taken.{Taken}
use Rattle.board_laws.specs.declared.taken.Taken.TheVariants.{Sub}
use Rattle.board_laws.proofs.Running.{offered-is, run-follows}
use Rattle.journal_bytes.specs.declared.tail.Tail.{Tail}
use Rattle.kept_board.specs.Kept.{Goes, HasStopped, KeepsJournal}
use Rattle.kept_board.specs.View.{KeptView}
use Rattle.board.specs.View.{BoardView}
use Rattle.solver_report.specs.declared.answer.Outcome.{Outcome}
use Rattle.solver_report.specs.declared.answer.Outcome.TheVariants.{Proved, Infeasible, Stopped}
use Rattle.solver_words.specs.declared.job.JobSettings.{JobSettings}
use Rattle.answers.specs.Offers.{told_value}
use Rattle.answers.specs.Outcomes.{IsConcluded, IsTold}
use Rattle.answers.specs.declared.concluding.Conclusion.{Conclusion}
use Rattle.commands.specs.Searches.{HasExplored, IsKeptOn}
use Rattle.commands.proofs.Told.{if-told}

-- the value that is told is that of the incumbent
told-held : (dp : Dp) (own : List ℕ → Option ℤ) (b : BoardState) (outcome : Outcome) → IsTold dp own b outcome → told_value outcome ≡ incumbent_value b
told-held dp own b (Proved found within) h = ap value_held (sym h.0.held)
told-held dp own b Infeasible h = ap value_held (sym h.held)
told-held dp own b (Stopped stop incumbent bound) h = ap value_held (sym h.held)

-- no step changes the cause but a halt, and the journal's cause stays for good
cause-out : (b : BoardState) (who : ℕ) (first : Option Ticketed) → (checked_out b who first).cause ≡ b.cause
cause-out b who None = refl
cause-out b who (Some o) = refl

cause-answer : (b : BoardState) (who : ℕ) (answer : Taken) → (after_answer b who answer).cause ≡ b.cause
cause-answer b who Sub = cause-out b who (first_taken b.open_ones)
cause-answer b who answer = refl

cause-back : (b : BoardState) (who : ℕ) (slot : Option Ticketed) → (given_back_from b who slot).cause ≡ b.cause
cause-back b who None = refl
cause-back b who (Some o) = refl

cause-lasts : (cause : Cause) → cause_after (Some Journal) cause ≡ Some Journal
cause-lasts Budget = refl
cause-lasts Memory = refl
cause-lasts Journal = refl

still-stopped : (dp : Dp) (b : BoardState) (step : Step) → b.cause ≡ Some Journal → (after dp b step).cause ≡ Some Journal
still-stopped dp b (Take who) is = cause-answer b who (take_gives b) ∙ is
still-stopped dp b (Improve x) is = offered-is (λ later. later.cause ≡ Some Journal) dp b x is (λ up. is)
still-stopped dp b (Finish who threshold cs) is = is
still-stopped dp b (GiveBack who) is = cause-back b who (slot_at b who) ∙ is
still-stopped dp b (Halt cause) is = subst (λ held. cause_after held cause ≡ Some Journal) (sym is) (cause-lasts cause)

-- a board that is halted for its journal stays so
pub stays-failed : (dp : Dp) (b : BoardState) (steps : List Step) (last : BoardState) → IsRun dp b steps last → b.cause ≡ Some Journal → last.cause ≡ Some Journal
stays-failed dp b [] last run failed = ap (λ (x : BoardState). x.cause) (sym run) ∙ failed
stays-failed dp b (step ∷ steps) last run failed = stays-failed dp (after dp b step) steps last run.1 (still-stopped dp b step failed)

module _ {D : Type 0} (on : Ghosts D) (dp : Dp) where
  -- its disk has failed
  failed-at : (b : BoardState) (made now : D) (tail : Option Tail) → KeepsJournal on dp b made now tail → b.cause ≡ Some Journal → Rose (on.faults made) (on.faults now)
  failed-at b made now None kept failed = absurd (kept.0 failed)
  failed-at b made now (Some tail) kept failed = ⊎_elim (λ (goes : Goes on dp b made now tail). absurd (goes.cause failed)) (λ (stopped : HasStopped on dp b made now). stopped.rose) kept.state

  pub has-failed : (has : Bool) (made now : D) (b : BoardState) → IsKeptOn on dp has made now b → b.cause ≡ Some Journal → Rose (on.faults made) (on.faults now)
  has-failed has made now b k failed = failed-at b made now k.tail k.kept.journal failed

  module _ (first : KeptView D) (now : D) (b : BoardView) (e : HasExplored on dp first now b) where
    -- what is told is worth at least the incumbent that a search goes on from
    pub rises : (own : List ℕ → Option ℤ) (search : JobSettings) (ended : Result Conclusion AllocError) → IfOk ended (λ told. IsConcluded dp own search b.first b.board told.outcome told.counts)
        → IfOk ended (λ told. OptionAtMost (incumbent_value first.board.board) (told_value told.outcome))
    rises own search ended h = if-told (λ told. IsConcluded dp own search b.first b.board told.outcome told.counts) (λ told. OptionAtMost (incumbent_value first.board.board) (told_value told.outcome))
        (λ told c. subst (OptionAtMost (incumbent_value first.board.board)) (sym (told-held dp own b.board told.outcome c.told)) (run-follows dp first.board.board e.later.steps b.board e.later.run).better) ended h

    pub still-failed : first.board.board.cause ≡ Some Journal → Rose (on.faults first.made) (on.faults now)
    still-failed failed = has-failed (is_some first.tail) first.made now b.board e.keeps (stays-failed dp first.board.board e.later.steps b.board e.later.run failed)
