-- What a history of moves leaves on the disk, from its first move on.
use Rattle.std.proofs.Common.{◌≡◌, ◌≢◌, ◌⊎◌, inl, inr, ⊎_elim, ℕ, ℤ, List, [], ◌∷◌, ◌++◌, Option, Some, None, refl, sym, ◌∙◌, ap, subst, append-nil, arith, IsTrue, IsSome, is_some}
use Rattle.disk.specs.declared.disk.Disk.{Ghosts}
use Rattle.disk.specs.Disk.{Only}
use Rattle.dp_model.specs.Dp.{Dp}
use Rattle.turn.specs.History.{Moved}
use Rattle.board_laws.specs.declared.cause.Cause.TheVariants.{Journal}
use Rattle.board_laws.specs.Board.{BoardState}
use Rattle.board_laws.specs.Runs.Step.{Halt}
use Rattle.board_laws.specs.Runs.{Step, after, IsRun}
use Rattle.board_laws.proofs.Running.{run-then, run-one}
use Rattle.journal_bytes.specs.declared.tail.Tail.{Tail}
use Rattle.journal_bytes.specs.Bodies.{RecordView}
use Rattle.journal_bytes.specs.Journal.{HeadView, HasRecords}
use Rattle.journal_replay.specs.Following.{record_of_step, snapshot_record}
use Rattle.board.specs.Moves.{IsStepOf}
use Rattle.kept_board.proofs.Keeping.{regrouped, fronts-begun, fronts-longer, goes-on, stays-stopped}
use Rattle.kept_board.specs.Adding.{HasAtMost}
use Rattle.kept_board.specs.Histories.Event.{Made, Snapped}
use Rattle.kept_board.specs.Histories.{Event, record_beside, steps_of, records_of, StartsFrom, HasLeft, IsTimed, HistoriesLeave}
use Rattle.kept_board.specs.Kept.{LeftFronts}
use Rattle.kept_board.specs.Moves.{IsAdded, IsRecorded, Stays, Snaps, Steps, Fails, IsMove}
use Rattle.kept_board.specs.View.{KeptView}

-- the records of a run with one event more
records-more : (dp : Dp) (b last : BoardState) (events : List Event) (event : Event) → IsRun dp b (steps_of events) last → records_of dp b (events ++ event ∷ []) ≡ records_of dp b events ++ records_of dp last (event ∷ [])
records-more dp b last [] event run = subst (λ x. records_of dp b (event ∷ []) ≡ records_of dp x (event ∷ [])) run refl
records-more dp b last (Made step ∷ events) event run =
    let later = records-more dp (after dp b step) last events event run.1 in
    beside (record_of_step dp b step) (records_of dp (after dp b step) (events ++ event ∷ [])) (records_of dp (after dp b step) events) (records_of dp last (event ∷ [])) later
  where
    beside : (r : Option RecordView) (all done new : List RecordView) → all ≡ done ++ new → record_beside r all ≡ record_beside r done ++ new
    beside None all done new e = e
    beside (Some r) all done new e = ap (λ l. r ∷ l) e
records-more dp b last (Snapped ∷ events) event run = ap (λ l. snapshot_record b ∷ l) (records-more dp b last events event run)

steps-more : (events : List Event) (event : Event) → steps_of (events ++ event ∷ []) ≡ steps_of events ++ steps_of (event ∷ [])
steps-more [] event = refl
steps-more (Made step ∷ events) event = ap (λ l. step ∷ l) (steps-more events event)
steps-more (Snapped ∷ events) event = steps-more events event

-- a step more
run-more : (dp : Dp) (b middle last : BoardState) (events : List Event) (step : Step) → IsRun dp b (steps_of events) middle → IsRun dp middle (step ∷ []) last → IsRun dp b (steps_of (events ++ Made step ∷ [])) last
run-more dp b middle last events step run one = subst (λ steps. IsRun dp b steps last) (sym (steps-more events (Made step))) (run-then dp b middle last (steps_of events) (step ∷ []) run one)

-- a snapshot more
run-still : (dp : Dp) (b last : BoardState) (events : List Event) → IsRun dp b (steps_of events) last → IsRun dp b (steps_of (events ++ Snapped ∷ [])) last
run-still dp b last events run = subst (λ steps. IsRun dp b steps last) (sym (steps-more events Snapped ∙ append-nil (steps_of events))) run

module _ {D : Type 0} (on : Ghosts D) (timed : IsTimed on) (dp : Dp) (head : HeadView) (old : List RecordView) (first : KeptView D) where
  -- the journal has the records of the run so far, all on the disk
  record IsWhole (events : List Event) (b : BoardState) (disk : D) : Type 0 where
    pub going : b.cause ≢ Some Journal
    pub tells : IsTrue (on.tells disk)
    pub reads : HasRecords head (old ++ records_of dp first.board.board events) (on.seen disk)
    pub durable : Only (on.seen disk) (on.may_leave disk)
    pub since : LeftFronts on first.disk disk head old (records_of dp first.board.board events)

  -- it has failed at one more
  record IsCut (events : List Event) (b : BoardState) (disk : D) : Type 0 where
    pub stopped : b.cause ≡ Some Journal
    pub last : RecordView
    pub since : LeftFronts on first.disk disk head old (records_of dp first.board.board events ++ last ∷ [])
    pub left : (c : List ℕ) → on.may_leave disk c → HasAtMost head (old ++ records_of dp first.board.board events) last c

  record IsAt (now : KeptView D) : Type 0 where
    pub events : List Event
    pub run : IsRun dp first.board.board (steps_of events) now.board.board
    pub has : IsSome now.tail
    pub state : IsWhole events now.board.board now.disk ⊎ IsCut events now.board.board now.disk

  at-first : StartsFrom on head old first → IsAt first
  at-first s = record {
    events = [];
    run = refl;
    has = s.has;
    state = inl (record {
      going = s.going;
      tells = s.tells;
      reads = subst (λ rs. HasRecords head rs (on.seen first.disk)) (sym (append-nil old)) s.reads;
      durable = s.durable;
      since = fronts-begun on first.disk head old (timed.only_now first.disk) s.durable s.reads;
    });
  }

  has-still : (now next : Option Tail) → is_some next ≡ is_some now → IsSome now → IsSome next
  has-still now next same has = same ∙ has

  -- the records stay where the step has none
  none-more : (events : List Event) (step : Step) (b : BoardState) → IsRun dp first.board.board (steps_of events) b → record_of_step dp b step ≡ None → records_of dp first.board.board (events ++ Made step ∷ []) ≡ records_of dp first.board.board events
  none-more events step b run is = records-more dp first.board.board b events (Made step) run ∙ (ap (λ r. records_of dp first.board.board events ++ record_beside r []) is ∙ append-nil (records_of dp first.board.board events))

  one-more : (events : List Event) (step : Step) (b : BoardState) (r : RecordView) → IsRun dp first.board.board (steps_of events) b → record_of_step dp b step ≡ Some r → records_of dp first.board.board (events ++ Made step ∷ []) ≡ records_of dp first.board.board events ++ r ∷ []
  one-more events step b r run is = records-more dp first.board.board b events (Made step) run ∙ ap (λ r. records_of dp first.board.board events ++ record_beside r []) is

  after-stay : (now next : KeptView D) → Stays on now next → is_some next.tail ≡ is_some now.tail → IsAt now → IsAt next
  after-stay now next s has at = record {
    events = at.events;
    run = subst (IsRun dp first.board.board (steps_of at.events)) (sym s.board) at.run;
    has = has-still now.tail next.tail has at.has;
    state = subst (λ d. IsWhole at.events next.board.board d ⊎ IsCut at.events next.board.board d) (sym s.disk)
        (subst (λ b. IsWhole at.events b now.disk ⊎ IsCut at.events b now.disk) (sym s.board) at.state);
  }

  -- a step without a record
  after-quiet : (now next : KeptView D) (who : ℕ) (s : IsStepOf dp who now.board.board next.board.board) → record_of_step dp now.board.board s.step ≡ None → next.disk ≡ now.disk → is_some next.tail ≡ is_some now.tail → IsAt now → IsAt next
  after-quiet now next who s none disk has at =
      let b = now.board.board in
      let all = at.events ++ Made s.step ∷ [] in
      let same = none-more at.events s.step b at.run none in
      let made = after dp b s.step in
      record {
        events = all;
        run = run-more dp first.board.board b next.board.board at.events s.step at.run (run-one dp b s.step next.board.board s.may s.is);
        has = has-still now.tail next.tail has at.has;
        state = subst (λ d. IsWhole all next.board.board d ⊎ IsCut all next.board.board d) (sym disk)
            (subst (λ x. IsWhole all x now.disk ⊎ IsCut all x now.disk) (sym s.is)
            (⊎_elim
            (λ w. inl (record {
              going = goes-on dp b s.step s.alone w.going;
              tells = w.tells;
              reads = subst (λ rs. HasRecords head (old ++ rs) (on.seen now.disk)) (sym same) w.reads;
              durable = w.durable;
              since = subst (LeftFronts on first.disk now.disk head old) (sym same) w.since;
            }))
            (λ cut. inr (record {
              stopped = stays-stopped dp b s.step cut.stopped;
              last = cut.last;
              since = subst (λ rs. LeftFronts on first.disk now.disk head old (rs ++ cut.last ∷ [])) (sym same) cut.since;
              left = subst (λ rs. (c : List ℕ) → on.may_leave now.disk c → HasAtMost head (old ++ rs) cut.last c) (sym same) cut.left;
            })) at.state));
      }

  whole-of : (events : List Event) (b : BoardState) (disk : D) → b.cause ≢ Some Journal → IsWhole events b disk ⊎ IsCut events b disk → IsWhole events b disk
  whole-of events b disk going state = ⊎_elim (λ w. w) (λ cut. absurd (going cut.stopped)) state

  -- a record more
  grown-whole : (all events : List Event) (b : BoardState) (disk next : D) (r : RecordView) → records_of dp first.board.board all ≡ records_of dp first.board.board events ++ r ∷ [] → IsWhole events b disk → IsAdded on b.cause disk next r
      → {later : BoardState} → later.cause ≢ Some Journal → IsWhole all later next
  grown-whole all events b disk next r more w added {later} going =
      let rs = records_of dp first.board.board events in
      record {
        going = going;
        tells = subst IsTrue (sym added.still_tells) w.tells;
        reads = subst (λ xs. HasRecords head (old ++ xs) (on.seen next)) (sym more) (regrouped head old rs r (on.seen next) (added.acknowledged w.tells head (old ++ rs) w.reads));
        durable = added.durable w.tells;
        since = subst (LeftFronts on first.disk next head old) (sym more) (fronts-longer on first.disk disk next r head old rs w.tells w.reads w.since added.any_moment);
      }

  -- a step with its record
  after-added : (now next : KeptView D) (who : ℕ) (s : IsStepOf dp who now.board.board next.board.board) (r : RecordView) → record_of_step dp now.board.board s.step ≡ Some r → IsAdded on now.board.board.cause now.disk next.disk r
      → is_some next.tail ≡ is_some now.tail → IsAt now → IsAt next
  after-added now next who s r is added has at =
      let b = now.board.board in
      let all = at.events ++ Made s.step ∷ [] in
      let rs = records_of dp first.board.board at.events in
      let more = one-more at.events s.step b r at.run is in
      let w = whole-of at.events b now.disk added.going at.state in
      record {
        events = all;
        run = run-more dp first.board.board b next.board.board at.events s.step at.run (run-one dp b s.step next.board.board s.may s.is);
        has = has-still now.tail next.tail has at.has;
        state = inl (subst (λ x. IsWhole all x next.disk) (sym s.is) (grown-whole all at.events b now.disk next.disk r more w added (goes-on dp b s.step s.alone w.going)));
      }

  -- a snapshot
  after-snap : (now next : KeptView D) → Snaps on now next → is_some next.tail ≡ is_some now.tail → IsAt now → IsAt next
  after-snap now next s has at =
      let b = now.board.board in
      let all = at.events ++ Snapped ∷ [] in
      let rs = records_of dp first.board.board at.events in
      let r = snapshot_record b in
      let more : records_of dp first.board.board all ≡ rs ++ r ∷ [] = records-more dp first.board.board b at.events Snapped at.run in
      let w = whole-of at.events b now.disk s.added.going at.state in
      record {
        events = all;
        run = run-still dp first.board.board next.board.board at.events (subst (IsRun dp first.board.board (steps_of at.events)) (sym s.board) at.run);
        has = has-still now.tail next.tail has at.has;
        state = inl (subst (λ x. IsWhole all x next.disk) (sym s.board) (grown-whole all at.events b now.disk next.disk r more w s.added w.going));
      }

  after-failed : (now next : KeptView D) (who : ℕ) → Fails on dp who now next → is_some next.tail ≡ is_some now.tail → IsAt now → IsAt next
  after-failed now next who f has at =
      let b = now.board.board in
      let all = at.events ++ Made (Halt Journal) ∷ [] in
      let rs = records_of dp first.board.board at.events in
      let same = none-more at.events (Halt Journal) b at.run refl in
      let w = whole-of at.events b now.disk f.going at.state in
      let run = f.any_moment w.tells head (old ++ rs) w.reads in
      record {
        events = all;
        run = run-more dp first.board.board b next.board.board at.events (Halt Journal) at.run (run-one dp b (Halt Journal) next.board.board tt f.halts);
        has = has-still now.tail next.tail has at.has;
        state = inr (subst (λ x. IsCut all x next.disk) (sym f.halts) (record {
          stopped = refl;
          last = f.last;
          since = subst (λ xs. LeftFronts on first.disk next.disk head old (xs ++ f.last ∷ [])) (sym same) (fronts-longer on first.disk now.disk next.disk f.last head old rs w.tells w.reads w.since f.any_moment);
          left = subst (λ xs. (c : List ℕ) → on.may_leave next.disk c → HasAtMost head (old ++ xs) f.last c) (sym same) (λ c left. run.each c (timed.counts_now next.disk (on.moment now.disk) c run.later left));
        }));
      }

  after-step : (now next : KeptView D) (who : ℕ) → Steps on dp who now next → is_some next.tail ≡ is_some now.tail → IsAt now → IsAt next
  after-step now next who s has at = by-tail now.tail (record_of_step dp now.board.board s.made.step) refl at.has s.recorded
    where
      by-tail : (tail : Option Tail) (r : Option RecordView) → record_of_step dp now.board.board s.made.step ≡ r → IsSome tail → IsRecorded on tail r now.board.board.cause now.disk next.disk → IsAt next
      by-tail None r is some recorded = absurd (cc)
      by-tail (Some tail) None is some recorded = after-quiet now next who s.made is recorded has at
      by-tail (Some tail) (Some r) is some recorded = after-added now next who s.made r is recorded has at

-- each move leads on, and the instance stays
module _ {D : Type 0} (on : Ghosts D) (timed : IsTimed on) (meaning : List ℤ → Dp) (head : HeadView) (old : List RecordView) (first : KeptView D) where
  abbrev Is : KeptView D → Type 0
  Is now = IsAt on timed (meaning first.board.numbers) head old first now

  after-move : (now next : KeptView D) (who : ℕ) → now.board.numbers ≡ first.board.numbers → IsMove on meaning now next who → Is now → Is next
  after-move now next who numbers m at = ⊎_elim
      (λ s. after-stay on timed (meaning first.board.numbers) head old first now next s m.has at)
      (λ others. ⊎_elim
      (λ s. after-snap on timed (meaning first.board.numbers) head old first now next s m.has at)
      (λ rest. ⊎_elim
      (λ s. after-step on timed (meaning first.board.numbers) head old first now next who (subst (λ ns. Steps on (meaning ns) who now next) numbers s) m.has at)
      (λ f. after-failed on timed (meaning first.board.numbers) head old first now next who (subst (λ ns. Fails on (meaning ns) who now next) numbers f) m.has at) rest) others) m.step

  after-moves : (now : KeptView D) (line : List (ℕ × KeptView D)) (last : KeptView D) → now.board.numbers ≡ first.board.numbers → Moved (IsMove on meaning) now line last → Is now → Is last
  after-moves now [] last numbers moved at = subst Is moved at
  after-moves now (m ∷ line) last numbers moved at = after-moves m.1 line last (moved.0.numbers ∙ numbers) moved.1 (after-move now m.1 m.0 numbers moved.0 at)

  left-at : (last : KeptView D) → Is last → HasLeft on (meaning first.board.numbers) head old first last
  left-at last at = ⊎_elim
      (λ w. record {
        events = at.events;
        run = at.run;
        more = [];
        at_most_one = omega arith;
        none_more = λ going. refl;
        since = subst (LeftFronts on first.disk last.disk head old) (sym (append-nil (records_of (meaning first.board.numbers) first.board.board at.events))) w.since;
        left = λ c left. inl (subst (HasRecords head (old ++ records_of (meaning first.board.numbers) first.board.board at.events)) (sym (w.durable c left)) w.reads);
      })
      (λ cut. record {
        events = at.events;
        run = at.run;
        more = cut.last ∷ [];
        at_most_one = omega arith;
        none_more = λ going. absurd (going cut.stopped);
        since = cut.since;
        left = λ c left. ⊎_elim (λ before. inl before) (λ more. inr (regrouped head old (records_of (meaning first.board.numbers) first.board.board at.events) cut.last c more)) (cut.left c left);
      })
      at.state

pub histories-leave : {D : Type 0} (on : Ghosts D) → IsTimed on → (meaning : List ℤ → Dp) → HistoriesLeave on meaning
histories-leave on timed meaning head old first last starts history =
    left-at on timed meaning head old first last (after-moves on timed meaning head old first first history.line last refl history.moved (at-first on timed (meaning first.board.numbers) head old first starts))
