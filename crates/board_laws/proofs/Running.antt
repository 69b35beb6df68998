-- What a step and a run keep beside the board.
use Rattle.std.proofs.Common.{◌≡◌, ◌≢◌, ℕ, zero, suc, ◌≤◌, ℤ, List, [], ◌∷◌, ◌++◌, set, Bool, true, false, cond, Option, Some, None, refl, ◌∙◌, ap, subst, arith, sym}
use Rattle.std.proofs.lemmas.Int.{ints}
use Rattle.std.specs.List.{slice_get}
use Rattle.dp_model.specs.Solution.{Solution}
use Rattle.dp_model.specs.Dp.{Dp}
use Rattle.dp_model.specs.Laws.{IsLawful}
use Rattle.dp_model.specs.Numbers.{OptionAtMost, is_above, AtMost}
use Rattle.dp_model.specs.Prefixes.{value_of}
use Rattle.dp_laws.proofs.Reaches.{at-most-raised}
use Rattle.fringe.specs.Firsts.{first_taken}
use Rattle.fringe.specs.Tickets.{Ticketed}
use Rattle.board_laws.specs.Runs.Step.{Take, Improve, Finish, GiveBack, Halt}
use Rattle.board_laws.proofs.Carrying.{option-self}
use Rattle.board_laws.proofs.FinishingBoard.{finish-keeps}
use Rattle.board_laws.proofs.GivingBack.{give-back-keeps}
use Rattle.board_laws.proofs.Halting.{halt-keeps}
use Rattle.board_laws.proofs.Improving.{improve-keeps}
use Rattle.board_laws.proofs.Taking.{same-kept, take-keeps}
use Rattle.board_laws.specs.Board.{BoardState, incumbent_value, slot_content, slot_at}
use Rattle.board_laws.specs.Fates.{ticket_after, tickets_after, fates_on}
use Rattle.board_laws.specs.Laws.{KeepsBoard, StepsKeep, RunKeeps, RunsKeep}
use Rattle.board_laws.specs.Runs.{Step, May, after, offered, worker_of, IsLaterInRun, IsRun}
use Rattle.board_laws.specs.Steps.{improved, given_back_from}
use Rattle.board_laws.specs.Taking.{take_gives, checked_out, after_answer}
use Rattle.board_laws.specs.declared.fate.Fate.{Fate}
use Rattle.board_laws.specs.declared.fate.Fate.TheVariants.{Below, Kept, Dominated, Replaced, Entered}
use Rattle.board_laws.specs.declared.taken.Taken.{Taken}
use Rattle.board_laws.specs.declared.taken.Taken.TheVariants.{Sub, WaitForOthers, Finished, Halted}
use Rattle.board_laws.proofs.Frontier.{not-above}
use Rattle.board_laws.specs.Improving.{ImproveGives, after_offer}
use Rattle.board_laws.specs.declared.improved.Improved.{Improved}
use Rattle.board_laws.specs.declared.improved.Improved.TheVariants.{Yes, NotBetter, NoSolution}

-- A board follows another.

pub option-then : (a b c : Option ℤ) → OptionAtMost a b → OptionAtMost b c → OptionAtMost a c
option-then None b c h k = tt
option-then (Some z) b c h k = at-most-raised z b c k h

pub follows-self : (b : BoardState) → IsLaterInRun b b
follows-self b = record { settings = refl; better = option-self (incumbent_value b); taken = omega arith; finished = omega arith; next_ticket = omega arith }

pub follows-then : (a b c : BoardState) → IsLaterInRun a b → IsLaterInRun b c → IsLaterInRun a c
follows-then a b c h k = record {
  settings = k.settings ∙ h.settings;
  better = option-then (incumbent_value a) (incumbent_value b) (incumbent_value c) h.better k.better;
  taken = (let first = h.taken in let second = k.taken in omega arith);
  finished = (let first = h.finished in let second = k.finished in omega arith);
  next_ticket = (let first = h.next_ticket in let second = k.next_ticket in omega arith);
}

out-follows : (b : BoardState) (who : ℕ) (first : Option Ticketed) → IsLaterInRun b (checked_out b who first)
out-follows b who None = follows-self b
out-follows b who (Some o) = record { settings = refl; better = option-self (incumbent_value b); taken = omega arith; finished = omega arith; next_ticket = omega arith }

answer-follows : (b : BoardState) (who : ℕ) (answer : Taken) → IsLaterInRun b (after_answer b who answer)
answer-follows b who Sub = out-follows b who (first_taken b.open_ones)
answer-follows b who WaitForOthers = follows-self b
answer-follows b who Finished = follows-self b
answer-follows b who (Halted cause) = follows-self b

above-less : (inc : Option ℤ) (value : ℤ) → is_above inc value ≡ true → OptionAtMost inc (Some value)
above-less None value h = tt
above-less (Some old) value h = grind (arith, ints)

pub improved-follows : (b : BoardState) (best : Solution) → is_above (incumbent_value b) best.value ≡ true → IsLaterInRun b (improved b best)
improved-follows b best up = record { settings = refl; better = above-less (incumbent_value b) best.value up; taken = omega arith; finished = omega arith; next_ticket = omega arith }

fate-later : (ticket : ℕ) (f : Fate) → ticket ≤ ticket_after ticket f
fate-later ticket Below = omega arith
fate-later ticket (Kept by) = omega arith
fate-later ticket (Dominated by) = omega arith
fate-later ticket (Replaced own old) = omega arith
fate-later ticket (Entered own) = omega arith

pub tickets-later : (ticket : ℕ) (fs : List Fate) → ticket ≤ tickets_after ticket fs
tickets-later ticket [] = omega arith
tickets-later ticket (f ∷ fs) = let first = fate-later ticket f in let rest = tickets-later (ticket_after ticket f) fs in omega arith

back-follows : (b : BoardState) (who : ℕ) (slot : Option Ticketed) → IsLaterInRun b (given_back_from b who slot)
back-follows b who None = follows-self b
back-follows b who (Some o) = record { settings = refl; better = option-self (incumbent_value b); taken = omega arith; finished = omega arith; next_ticket = omega arith }

-- Improve by any solution: only a better one changes the board.
pub offered-is : (P : BoardState → Type 0) (dp : Dp) (b : BoardState) (x : List ℕ) → P b
    → (is_above (incumbent_value b) (value_of dp x) ≡ true → P (improved b (record { decisions = x; value = value_of dp x }))) → P (offered dp b x)
offered-is P dp b x same better =
    let later = improved b (record { decisions = x; value = value_of dp x }) in
    let go : (up : Bool) → is_above (incumbent_value b) (value_of dp x) ≡ up → P (cond up later b) = λ up. elim up as (λ up. is_above (incumbent_value b) (value_of dp x) ≡ up → P (cond up later b)) [ true ↦ λ e. better e | false ↦ λ e. same ] in
    go (is_above (incumbent_value b) (value_of dp x)) refl

pub step-follows : (dp : Dp) (b : BoardState) (step : Step) → IsLaterInRun b (after dp b step)
step-follows dp b (Take who) = answer-follows b who (take_gives b)
step-follows dp b (Improve x) = offered-is (IsLaterInRun b) dp b x (follows-self b) (improved-follows b (record { decisions = x; value = value_of dp x }))
step-follows dp b (Finish who threshold cs) = record {
  settings = refl;
  better = option-self (incumbent_value b);
  taken = omega arith;
  finished = omega arith;
  next_ticket = tickets-later b.next_ticket (fates_on dp b cs);
}
step-follows dp b (GiveBack who) = back-follows b who (slot_at b who)
step-follows dp b (Halt cause) = record { settings = refl; better = option-self (incumbent_value b); taken = omega arith; finished = omega arith; next_ticket = omega arith }

-- The slots of the others.

pub set-other : {X : Type 0} (xs : List X) (i j : ℕ) (x : X) → i ≢ j → slice_get (set xs i x) j ≡ slice_get xs j
set-other [] i j x differ = refl
set-other (y ∷ xs) zero zero x differ = absurd (differ refl)
set-other (y ∷ xs) zero (suc j) x differ = refl
set-other (y ∷ xs) (suc i) zero x differ = refl
set-other (y ∷ xs) (suc i) (suc j) x differ = set-other xs i j x (λ e. differ (ap suc e))

slot-other : (slots : List (Option Ticketed)) (who other : ℕ) (slot : Option Ticketed) → Some who ≢ Some other → slot_content (slice_get (set slots who slot) other) ≡ slot_content (slice_get slots other)
slot-other slots who other slot differ = ap slot_content (set-other slots who other slot (λ e. differ (ap Some e)))

out-others : (b : BoardState) (who : ℕ) (first : Option Ticketed) (other : ℕ) → Some who ≢ Some other → slot_at (checked_out b who first) other ≡ slot_at b other
out-others b who None other differ = refl
out-others b who (Some o) other differ = slot-other b.slots who other (Some o) differ

answer-others : (b : BoardState) (who : ℕ) (answer : Taken) (other : ℕ) → Some who ≢ Some other → slot_at (after_answer b who answer) other ≡ slot_at b other
answer-others b who Sub other differ = out-others b who (first_taken b.open_ones) other differ
answer-others b who WaitForOthers other differ = refl
answer-others b who Finished other differ = refl
answer-others b who (Halted cause) other differ = refl

back-others : (b : BoardState) (who : ℕ) (slot : Option Ticketed) (other : ℕ) → Some who ≢ Some other → slot_at (given_back_from b who slot) other ≡ slot_at b other
back-others b who None other differ = refl
back-others b who (Some o) other differ = slot-other b.slots who other None differ

pub step-others : (dp : Dp) (b : BoardState) (step : Step) (other : ℕ) → worker_of step ≢ Some other → slot_at (after dp b step) other ≡ slot_at b other
step-others dp b (Take who) other differ = answer-others b who (take_gives b) other differ
step-others dp b (Improve x) other differ = offered-is (λ later. slot_at later other ≡ slot_at b other) dp b x refl (λ up. refl)
step-others dp b (Finish who threshold cs) other differ = slot-other b.slots who other None differ
step-others dp b (GiveBack who) other differ = back-others b who (slot_at b who) other differ
step-others dp b (Halt cause) other differ = refl

-- The board.

step-keeps : (dp : Dp) → IsLawful dp → (b : BoardState) (step : Step) → May dp b step → KeepsBoard dp b (after dp b step)
step-keeps dp laws b (Take who) may = take-keeps dp b who may
step-keeps dp laws b (Improve x) may = offered-is (KeepsBoard dp b) dp b x (same-kept dp b) (improve-keeps dp b (record { decisions = x; value = value_of dp x }) (record { solution = may; value = refl }))
step-keeps dp laws b (Finish who threshold cs) may = finish-keeps dp laws b who threshold cs (fates_on dp b cs) may
step-keeps dp laws b (GiveBack who) may = (let h = give-back-keeps dp laws in record { board = h.board b who; good = λ {starts}. h.good b who may.halted })
step-keeps dp laws b (Halt cause) may = halt-keeps dp b cause

pub steps-keep : (dp : Dp) → IsLawful dp → StepsKeep dp
steps-keep dp laws b step may = record { keeps = step-keeps dp laws b step may; follows = step-follows dp b step; others = step-others dp b step }

keeps-then : (dp : Dp) (a b c : BoardState) → KeepsBoard dp a b → KeepsBoard dp b c → KeepsBoard dp a c
keeps-then dp a b c h k = record { board = λ g. k.board (h.board g); good = λ {starts} g x. k.good (h.board g) (h.good g x) }

pub runs-keep : (dp : Dp) → IsLawful dp → RunsKeep dp
runs-keep dp laws b [] last run = subst (RunKeeps dp b) run (record { keeps = same-kept dp b; follows = follows-self b })
runs-keep dp laws b (step ∷ steps) last run =
    let first = steps-keep dp laws b step run.0 in
    let rest = runs-keep dp laws (after dp b step) steps last run.1 in
    record { keeps = keeps-then dp b (after dp b step) last first.keeps rest.keeps; follows = follows-then b (after dp b step) last first.follows rest.follows }

-- Runs one after another.

pub run-then : (dp : Dp) (a b c : BoardState) (first then : List Step) → IsRun dp a first b → IsRun dp b then c → IsRun dp a (first ++ then) c
run-then dp a b c [] then h k = subst (λ x. IsRun dp x then c) (sym h) k
run-then dp a b c (step ∷ first) then h k = (h.0, run-then dp (after dp a step) b c first then h.1 k)

pub run-one : (dp : Dp) (b : BoardState) (step : Step) (later : BoardState) → May dp b step → later ≡ after dp b step → IsRun dp b (step ∷ []) later
run-one dp b step later may is = (may, sym is)

pub run-follows : (dp : Dp) (b : BoardState) (steps : List Step) (last : BoardState) → IsRun dp b steps last → IsLaterInRun b last
run-follows dp b [] last run = subst (IsLaterInRun b) run (follows-self b)
run-follows dp b (step ∷ steps) last run = follows-then b (after dp b step) last (step-follows dp b step) (run-follows dp (after dp b step) steps last run.1)

-- a run by an offer
pub record OfferRuns (dp : Dp) (b later : BoardState) : Type 0 where
  pub steps : List Step
  pub run : IsRun dp b steps later

pub better-offered : (dp : Dp) (b : BoardState) (x : List ℕ) → (AtMost (value_of dp x) (incumbent_value b) → ⊥) → improved b (record { decisions = x; value = value_of dp x }) ≡ offered dp b x
better-offered dp b x more =
    let later = improved b (record { decisions = x; value = value_of dp x }) in
    let go : (up : Bool) → is_above (incumbent_value b) (value_of dp x) ≡ up → later ≡ cond up later b = λ up. elim up as (λ up. is_above (incumbent_value b) (value_of dp x) ≡ up → later ≡ cond up later b) [
      | true ↦ λ e. refl
      | false ↦ λ e. absurd (more (not-above (incumbent_value b) (value_of dp x) e))
    ] in
    go (is_above (incumbent_value b) (value_of dp x)) refl

pub offer-runs : (dp : Dp) (b later : BoardState) (x : List ℕ) (answer : Improved) → ImproveGives dp b x answer → later ≡ after_offer dp answer b x → OfferRuns dp b later
offer-runs dp b later x Yes gives is = record { steps = Improve x ∷ []; run = (gives.0, sym (is ∙ better-offered dp b x gives.1)) }
offer-runs dp b later x NotBetter gives is = record { steps = []; run = sym is }
offer-runs dp b later x NoSolution gives is = record { steps = []; run = sym is }
