-- The steps that have a record, by what the calls of the board say.
use Rattle.std.proofs.Common.{◌≡◌, ℕ, ℤ, true, cond, List, Option, Some, None, option_map, sym, ◌∙◌, ap, subst, arith}
use Rattle.std.proofs.lemmas.Int.{ints}
use Rattle.dp_model.specs.Dp.{Dp}
use Rattle.dp_model.specs.Numbers.{AtMost, is_above}
use Rattle.dp_model.specs.Prefixes.{value_of}
use Rattle.dp_model.specs.Subproblem.{Subproblem}
use Rattle.fringe.specs.Tickets.{Ticketed}
use Rattle.board_laws.specs.declared.improved.Improved.{Improved}
use Rattle.board_laws.specs.declared.improved.Improved.TheVariants.{Yes, NotBetter, NoSolution}
use Rattle.board_laws.specs.Board.{BoardState, incumbent_value, slot_at}
use Rattle.board_laws.specs.Fates.{fates_on}
use Rattle.board_laws.specs.Improving.{ImproveGives, IsBetter, after_offer}
use Rattle.board_laws.specs.Runs.Step.{Improve as StepImprove, Finish as StepFinish}
use Rattle.board_laws.specs.Runs.{after}
use Rattle.board_laws.specs.Steps.{finished_by}
use Rattle.board_laws.proofs.Running.{better-offered}
use Rattle.journal_bytes.specs.Bodies.{Improve, Finish}
use Rattle.journal_replay.specs.Following.{record_of_step, recorded_children}
use Rattle.board.specs.View.{BoardView, tag_of}

above-not-most : (most : Option ℤ) (v : ℤ) → is_above most v ≡ true → AtMost v most → ⊥
above-not-most None v up at_most = at_most
above-not-most (Some z) v up at_most = grind (arith, ints)

offered-by : (dp : Dp) (b : BoardState) (x : List ℕ) (v : ℤ) (answer : Improved) → IsBetter dp b x v → ImproveGives dp b x answer → after_offer dp answer b x ≡ after dp b (StepImprove x)
offered-by dp b x v Yes better gives = better-offered dp b x gives.1
offered-by dp b x v NotBetter better gives = absurd (above-not-most (incumbent_value b) v better.above (subst (λ w. AtMost w (incumbent_value b)) (sym better.solution.value) gives.1))
offered-by dp b x v NoSolution better gives = absurd (gives better.solution.solution)

-- an offer of a better solution is the step
pub offer-steps : (meaning : List ℤ → Dp) (old mid : BoardView) (later : BoardState) (x : List ℕ) (v : ℤ) (answer : Improved) → mid ≡ old → IsBetter (meaning old.numbers) old.board x v → ImproveGives (meaning mid.numbers) mid.board x answer
    → later ≡ after_offer (meaning mid.numbers) answer mid.board x → later ≡ after (meaning old.numbers) old.board (StepImprove x)
offer-steps meaning old mid later x v answer same better gives is =
    is ∙ (ap (λ (m : BoardView). after_offer (meaning m.numbers) answer m.board x) same
    ∙ offered-by (meaning old.numbers) old.board x v answer better (subst (λ (m : BoardView). ImproveGives (meaning m.numbers) m.board x answer) same gives))

-- and has a record
pub offer-recorded : (dp : Dp) (b : BoardState) (x : List ℕ) (v w : ℤ) → IsBetter dp b x v → w ≡ v → record_of_step dp b (StepImprove x) ≡ Some (Improve w x)
offer-recorded dp b x v w better same =
    subst (λ z. record_of_step dp b (StepImprove x) ≡ Some (Improve z x)) (sym same)
    (subst (λ z. cond (is_above (incumbent_value b) z) (Some (Improve z x)) None ≡ Some (Improve v x)) better.solution.value
    (ap (λ up. cond up (Some (Improve v x)) None) better.above))

-- which is that of the solution
pub offer-record : (dp : Dp) (b : BoardState) (x : List ℕ) (v w : ℤ) → IsBetter dp b x v → w ≡ v → Improve w x ≡ Improve (value_of dp x) x
offer-record dp b x v w better same = ap (λ z. Improve z x) (same ∙ better.solution.value)

-- a Finish has one
pub finish-recorded : (dp : Dp) (b : BoardState) (who : ℕ) (o : Ticketed) (threshold : Option ℤ) (cs : List Subproblem) → slot_at b who ≡ Some o → record_of_step dp b (StepFinish who threshold cs) ≡ Some (Finish o.ticket (recorded_children cs (fates_on dp b cs)))
finish-recorded dp b who o threshold cs full = ap (option_map (λ o. Finish o.ticket (recorded_children cs (fates_on dp b cs)))) full

pub finish-steps : (meaning : List ℤ → Dp) (old mid : BoardView) (later : BoardState) (who : ℕ) (threshold : Option ℤ) (cs : List Subproblem) → tag_of mid ≡ tag_of old → mid.board ≡ old.board → later ≡ finished_by (meaning mid.numbers) mid.board who cs
    → later ≡ after (meaning old.numbers) old.board (StepFinish who threshold cs)
finish-steps meaning old mid later who threshold cs tag board is =
    is ∙ (ap (λ ns. finished_by (meaning ns) mid.board who cs) (ap (λ t. t.numbers) tag) ∙ ap (λ b. finished_by (meaning old.numbers) b who cs) board)
