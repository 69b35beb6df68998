-- Each step that is allowed is recorded.
use Rattle.std.proofs.Common.{◌≡◌, ℕ, ℤ, Bool, true, false, cond, List, ◌++◌, set, Option, Some, None, refl, sym, ◌∙◌, subst}
use Rattle.std.specs.List.{slice_get}
use Rattle.std.specs.Prelude.{IfSome, option_map}
use Rattle.dp_model.specs.Dp.{Dp}
use Rattle.dp_model.specs.Laws.{IsLawful}
use Rattle.dp_model.specs.Lists.{Each}
use Rattle.dp_model.specs.Numbers.{is_above}
use Rattle.dp_model.specs.Prefixes.{IsSolution, value_of}
use Rattle.dp_model.specs.Solution.{Solution}
use Rattle.dp_model.specs.Subproblem.{Subproblem}
use Rattle.dp_model.proofs.Members.{Each-append}
use Rattle.dp_laws.specs.Pairs.{EachTwo}
use Rattle.fringe.specs.Firsts.{first_taken}
use Rattle.fringe.specs.Tickets.{Ticketed, IsEarlier, without}
use Rattle.board_laws.specs.Board.{BoardState, full_slots, frontier, incumbent_value, reach, reach_of, slot_at, value_held}
use Rattle.board_laws.specs.Fates.{fates_on}
use Rattle.board_laws.specs.Finishing.{MayFinish}
use Rattle.board_laws.specs.GoodBoard.{IsBoard, IsGoodFrom}
use Rattle.board_laws.specs.Runs.Step.{Take, Improve as StepImprove, Finish as StepFinish, GiveBack, Halt}
use Rattle.board_laws.specs.Runs.{offered}
use Rattle.board_laws.specs.Steps.{back_among, improved, finished_by, given_back_from}
use Rattle.board_laws.specs.Taking.{take_gives, checked_out, after_answer}
use Rattle.board_laws.specs.declared.taken.Taken.{Taken}
use Rattle.board_laws.specs.declared.taken.Taken.TheVariants.{Sub, WaitForOthers, Finished, Halted}
use Rattle.board_laws.proofs.Frontier.{each-moved}
use Rattle.board_laws.proofs.Improving.{improve-keeps}
use Rattle.board_laws.proofs.Lists.{each-less, each-front, each-back}
use Rattle.board_laws.proofs.Slots.{filled, emptied, slot-full}
use Rattle.board_laws.proofs.Taking.{first-out}
use Rattle.board_laws.proofs.With.{with-left, with-right, each-out}
use Rattle.journal_bytes.specs.Base.{is_snapshot}
use Rattle.journal_bytes.specs.Bodies.{RecordView, Improve, Finish}
use Rattle.journal_replay.specs.Replay.{Replayed, listed_at, after_record}
use Rattle.journal_replay.specs.Accepting.{MayFollow}
use Rattle.journal_replay.specs.Following.{IsReplayOf, after_recorded, recorded_children, record_of_step}
use Rattle.journal_replay.specs.Sound.{IsSoundStateOf, finished_after}
use Rattle.journal_replay.specs.Laws.{StepsAreRecorded}
use Rattle.journal_replay.proofs.Beside.{each-back-among}
use Rattle.journal_replay.proofs.Finishing.{finish-may, finish-beside}
use Rattle.journal_replay.proofs.Sounding.{improve-sound, finish-sound}

-- a board with the same incumbent and next ticket, whose frontier is part of the old one
beside-less : (dp : Dp) (s : Replayed) (b later : BoardState) → IsReplayOf dp s b → later.incumbent ≡ b.incumbent → later.next_ticket ≡ b.next_ticket
    → ((P : Ticketed → Type 0) → Each P (frontier b) → Each P (frontier later)) → IsReplayOf dp s later
beside-less dp s b later h incumbent next each = record {
  incumbent = incumbent ∙ h.incumbent;
  next_ticket = next ∙ h.next_ticket;
  listed = each (λ o. listed_at o.ticket s.listed ≡ Some o) h.listed;
  restores = h.restores;
}

-- Take.

checked-out-beside : (dp : Dp) (s : Replayed) (b : BoardState) (who : ℕ) → IsReplayOf dp s b → EachTwo IsEarlier b.open_ones → slice_get b.slots who ≡ Some None
    → (first : Option Ticketed) → first_taken b.open_ones ≡ first → IsReplayOf dp s (checked_out b who first)
checked-out-beside dp s b who h rise at None is = h
checked-out-beside dp s b who h rise at (Some o) is =
    let os = b.open_ones in
    let full = full_slots b.slots in
    let full2 = full_slots (set b.slots who (Some o)) in
    let rest = without o.ticket os in
    let whole = with-left o full rest os (first-out os o is rise) in
    let to = with-right o full full2 rest (filled b.slots who o at) in
    beside-less dp s b (checked_out b who (Some o)) h refl refl (λ P x. each-moved P o (full ++ rest) (frontier b) (full2 ++ rest) whole to x)

take-beside : (dp : Dp) (s : Replayed) (b : BoardState) (who : ℕ) → IsReplayOf dp s b → EachTwo IsEarlier b.open_ones → slice_get b.slots who ≡ Some None → (answer : Taken) → IsReplayOf dp s (after_answer b who answer)
take-beside dp s b who h rise at Sub = checked-out-beside dp s b who h rise at (first_taken b.open_ones) refl
take-beside dp s b who h rise at WaitForOthers = h
take-beside dp s b who h rise at Finished = h
take-beside dp s b who h rise at (Halted cause) = h

-- GiveBack.

back-beside : (dp : Dp) (s : Replayed) (b : BoardState) (who : ℕ) → IsReplayOf dp s b → (slot : Option Ticketed) → slot_at b who ≡ slot → IsReplayOf dp s (given_back_from b who slot)
back-beside dp s b who h None is = h
back-beside dp s b who h (Some o) is =
    let os = b.open_ones in
    let full = full_slots b.slots in
    let rest = full_slots (set b.slots who None) in
    let out = with-right o rest full os (emptied b.slots who o (slot-full (slice_get b.slots who) o is)) in
    beside-less dp s b (given_back_from b who (Some o)) h refl refl
    (λ P x.
    let parts = each-out P o (rest ++ os) (frontier b) out x in
    Each-append P rest (back_among (reach b) o os) (each-front P rest os parts.1) (each-back-among P (reach b) o os parts.0 (each-back P rest os parts.1)))

-- Improve.

improved-beside : (dp : Dp) (s : Replayed) (b : BoardState) (x : List ℕ) → IsReplayOf dp s b → IsSolution dp x
    → IsReplayOf dp (after_record dp s (Improve (value_of dp x) x)) (improved b (record { decisions = x; value = value_of dp x }))
improved-beside dp s b x h may =
    let may_restore = h.restores in
    record {
      incumbent = refl;
      next_ticket = h.next_ticket;
      listed = each-less (λ o. listed_at o.ticket s.listed ≡ Some o) (λ o. is_above (reach_of b.settings.within (Some (value_of dp x))) o.subproblem.bound) (full_slots b.slots) b.open_ones h.listed;
      restores = record { incumbent = record { solution = may; value = refl }; own = may_restore.own; far = may_restore.far; ordered = may_restore.ordered; given = may_restore.given };
    }

-- for an offer and a Finish: the record, what is made of it, and the board after it
pub record IsRecorded (dp : Dp) (s : Replayed) (b later : BoardState) (one : Option RecordView) : Type 0 where
  pub may : IfSome one (MayFollow dp s)
  pub plain : IfSome one (λ r. is_snapshot r ≡ false)
  pub beside : IsReplayOf dp (after_recorded dp s one) later
  pub sound : {starts : List (List ℕ)} → (n : ℕ) → IsGoodFrom dp starts b → IsSoundStateOf dp starts b.settings.within n s → IfSome one (λ r. IsSoundStateOf dp starts b.settings.within (finished_after n r) (after_record dp s r))

none-recorded : (dp : Dp) (s : Replayed) (b later : BoardState) → IsReplayOf dp s later → IsRecorded dp s b later None
none-recorded dp s b later h = record { may = tt; plain = tt; beside = h; sound = λ {starts} n good sound. tt }

better-recorded : (dp : Dp) (s : Replayed) (b : BoardState) (x : List ℕ) → IsBoard dp b → IsReplayOf dp s b → IsSolution dp x → is_above (incumbent_value b) (value_of dp x) ≡ true
    → IsRecorded dp s b (improved b (record { decisions = x; value = value_of dp x })) (Some (Improve (value_of dp x) x))
better-recorded dp s b x g h may up =
    let best : Solution = record { decisions = x; value = value_of dp x } in
    let up_here = subst (λ held. is_above (value_held held) (value_of dp x) ≡ true) h.incumbent up in
    let beside = improved-beside dp s b x h may in
    record {
      may = record { solution = record { solution = may; value = refl }; better = up_here };
      plain = refl;
      beside = beside;
      sound = λ {starts} n good sound. improve-sound dp starts n s b best (record { solution = may; value = refl }) up_here
          ((improve-keeps dp b best (record { solution = may; value = refl }) up).good g good) beside sound;
    }

offer-recorded : (dp : Dp) (s : Replayed) (b : BoardState) (x : List ℕ) → IsBoard dp b → IsReplayOf dp s b → IsSolution dp x → IsRecorded dp s b (offered dp b x) (record_of_step dp b (StepImprove x))
offer-recorded dp s b x g h may =
    let Goal : Bool → Type 0 = λ up. IsRecorded dp s b (cond up (improved b (record { decisions = x; value = value_of dp x })) b) (cond up (Some (Improve (value_of dp x) x)) None) in
    let go : (up : Bool) → is_above (incumbent_value b) (value_of dp x) ≡ up → Goal up = λ up. elim up as (λ up. is_above (incumbent_value b) (value_of dp x) ≡ up → Goal up) [
      | true ↦ λ e. better-recorded dp s b x g h may e
      | false ↦ λ e. none-recorded dp s b b h
    ] in go (is_above (incumbent_value b) (value_of dp x)) refl

finish-recorded : (dp : Dp) → IsLawful dp → (s : Replayed) (b : BoardState) (who : ℕ) (threshold : Option ℤ) (cs : List Subproblem) → IsBoard dp b → IsReplayOf dp s b
    → MayFinish dp b who threshold cs (fates_on dp b cs) → IsRecorded dp s b (finished_by dp b who cs) (record_of_step dp b (StepFinish who threshold cs))
finish-recorded dp laws s b who threshold cs g h m =
    let fs = fates_on dp b cs in
    let one : IsRecorded dp s b (finished_by dp b who cs) (Some (Finish m.parent.ticket (recorded_children cs fs))) = record {
      may = finish-may dp s b who threshold cs fs g h m;
      plain = refl;
      beside = finish-beside dp s b who threshold cs fs g h m;
      sound = λ {starts} n good sound. finish-sound dp laws starts n s b who threshold cs fs g good h m sound;
    } in
    subst (λ slot. IsRecorded dp s b (finished_by dp b who cs) (option_map (λ (o : Ticketed). Finish o.ticket (recorded_children cs fs)) slot)) (sym m.full) one

pub steps-recorded : (dp : Dp) → IsLawful dp → StepsAreRecorded dp
steps-recorded dp laws s b (Take who) g h may = record { may = tt; plain = tt; beside = take-beside dp s b who h g.ordered may (take_gives b); sound = λ {starts} n good sound. tt }
steps-recorded dp laws s b (StepImprove x) g h may = (let r = offer-recorded dp s b x g h may in record { may = r.may; plain = r.plain; beside = r.beside; sound = λ {starts} n good sound. r.sound n good sound })
steps-recorded dp laws s b (StepFinish who threshold cs) g h may = (let r = finish-recorded dp laws s b who threshold cs g h may in record { may = r.may; plain = r.plain; beside = r.beside; sound = λ {starts} n good sound. r.sound n good sound })
steps-recorded dp laws s b (GiveBack who) g h may = record { may = tt; plain = tt; beside = back-beside dp s b who h (slot_at b who) refl; sound = λ {starts} n good sound. tt }
steps-recorded dp laws s b (Halt cause) g h may = record { may = tt; plain = tt; beside = beside-less dp s b _ h refl refl (λ P x. x); sound = λ {starts} n good sound. tt }
