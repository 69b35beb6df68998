-- New records keep up with a board, through its steps.
use Rattle.std.proofs.Common.{◌≡◌, ◌≢◌, ℕ, ◌+◌, ℤ, Bool, true, false, cond, List, [], ◌∷◌, ◌++◌, Option, Some, None, option_map, IfSome, refl, sym, ◌∙◌, ap, subst, ⊎_elim, append-nil, arith}
use Rattle.std.proofs.lemmas.List.{append_assoc}
use Rattle.std.proofs.lemmas.List.Sums.{sum_by-append, sum_by-cons}
use Rattle.dp_model.specs.Dp.{Dp}
use Rattle.dp_model.specs.Laws.{IsLawful}
use Rattle.dp_model.specs.Numbers.{OptionAtMost, is_above}
use Rattle.dp_model.specs.Prefixes.{value_of}
use Rattle.fringe.specs.Tickets.{Ticketed}
use Rattle.fringe.specs.Firsts.{first_taken}
use Rattle.board_laws.specs.declared.taken.Taken.{Taken}
use Rattle.board_laws.specs.declared.taken.Taken.TheVariants.{Sub, WaitForOthers, Finished, Halted}
use Rattle.board_laws.specs.Board.{BoardState, incumbent_value, value_held, slot_at}
use Rattle.board_laws.specs.Fates.{fates_on}
use Rattle.board_laws.specs.GoodBoard.{IsBoard, IsGoodFrom}
use Rattle.board_laws.specs.Laws.{StepKeeps}
use Rattle.board_laws.specs.Runs.Step.{Take, Improve, Finish, GiveBack, Halt}
use Rattle.board_laws.specs.Runs.{Step, May, after, offered}
use Rattle.board_laws.specs.Steps.{first_board, given_back_from}
use Rattle.board_laws.specs.Taking.{take_gives, checked_out, after_answer}
use Rattle.board_laws.proofs.First.{first-is-good}
use Rattle.board_laws.proofs.Running.{steps-keep, offered-is}
use Rattle.board_laws.proofs.Starting.{starts-cover}
use Rattle.journal_bytes.specs.Bodies.{RecordView}
use Rattle.journal_bytes.specs.Base.{is_snapshot}
use Rattle.journal_bytes.specs.Bodies.RecordView.{Improve as RecordImprove, Finish as RecordFinish, Snapshot as RecordSnapshot}
use Rattle.journal_replay.specs.Accepting.{MayFollow, MayFollowAll, AreAccepted}
use Rattle.journal_replay.specs.Following.{IsReplayOf, TellsState, MayGoOnAll, record_of_step, snapshot_record, after_recorded, recorded_children}
use Rattle.journal_replay.specs.Laws.{StepIsRecorded, SnapshotIsRecorded}
use Rattle.journal_replay.specs.Replay.{Replayed, replay_start, after_record, after_records, replay_of}
use Rattle.journal_replay.specs.Sound.{IsSoundStateOf, AreSoundOf, finished_after, finished_after_all}
use Rattle.journal_replay.proofs.Beside.{first-boards-follow, restored-boards-follow}
use Rattle.journal_replay.proofs.Joined.{journals-grow, records-join, not-worse, sound-restore-good}
use Rattle.journal_replay.proofs.Restored.{accepted-restore}
use Rattle.journal_replay.proofs.Snapshots.{snapshots-recorded}
use Rattle.journal_replay.proofs.Steps.{steps-recorded}
use Rattle.kept_board.specs.Records.{IsMadeOf, AreAdded, FrontsAreAdded, KeepUp, finishes, finish_records}

none-more : (n : ℕ) → n + 0 ≡ n
none-more n = omega arith

finishes-more : (rs : List RecordView) (r : RecordView) → finish_records (rs ++ r ∷ []) ≡ finish_records rs + finishes r
finishes-more rs r = sum_by-append finishes rs (r ∷ []) ∙ ap (λ n. finish_records rs + n) (sum_by-cons finishes r [] ∙ none-more (finishes r))

-- ---- how many subproblems a step finishes

finished-out : (b : BoardState) (who : ℕ) (first : Option Ticketed) → (checked_out b who first).finished ≡ b.finished
finished-out b who None = refl
finished-out b who (Some o) = refl

finished-answer : (b : BoardState) (who : ℕ) (answer : Taken) → (after_answer b who answer).finished ≡ b.finished
finished-answer b who Sub = finished-out b who (first_taken b.open_ones)
finished-answer b who WaitForOthers = refl
finished-answer b who Finished = refl
finished-answer b who (Halted cause) = refl

finished-back : (b : BoardState) (who : ℕ) (slot : Option Ticketed) → (given_back_from b who slot).finished ≡ b.finished
finished-back b who None = refl
finished-back b who (Some o) = refl

finished-offered : (dp : Dp) (b : BoardState) (x : List ℕ) → (offered dp b x).finished ≡ b.finished
finished-offered dp b x = offered-is (λ later. later.finished ≡ b.finished) dp b x refl (λ up. refl)

-- a record of an offer finishes none
offer-finishes : (up : Bool) (value : ℤ) (x : List ℕ) (r : RecordView) → cond up (Some (RecordImprove value x)) None ≡ Some r → finishes r ≡ 0
offer-finishes true value x r is = subst (λ o. IfSome o (λ q. finishes q ≡ 0)) is refl
offer-finishes false value x r is = absurd (cc)

finish-finishes : (dp : Dp) (b : BoardState) (cs : List _) (slot : Option Ticketed) (r : RecordView) → option_map (λ o. RecordFinish o.ticket (recorded_children cs (fates_on dp b cs))) slot ≡ Some r → finishes r ≡ 1
finish-finishes dp b cs None r is = absurd (cc)
finish-finishes dp b cs (Some o) r is = subst (λ q. IfSome q (λ q. finishes q ≡ 1)) is refl

record-finishes : (dp : Dp) (b : BoardState) (step : Step) (r : RecordView) → record_of_step dp b step ≡ Some r → b.finished + finishes r ≡ (after dp b step).finished
record-finishes dp b (Take who) r is = absurd (cc)
record-finishes dp b (Improve x) r is =
    ap (λ n. b.finished + n) (offer-finishes (is_above (incumbent_value b) (value_of dp x)) (value_of dp x) x r is) ∙ (none-more b.finished ∙ sym (finished-offered dp b x))
record-finishes dp b (Finish who threshold cs) r is = ap (λ n. b.finished + n) (finish-finishes dp b cs (slot_at b who) r is)
record-finishes dp b (GiveBack who) r is = absurd (cc)
record-finishes dp b (Halt cause) r is = absurd (cc)

slot-has-record : (dp : Dp) (b : BoardState) (cs : List _) (slot : Option Ticketed) (parent : Ticketed) → slot ≡ Some parent → option_map (λ o. RecordFinish o.ticket (recorded_children cs (fates_on dp b cs))) slot ≢ None
slot-has-record dp b cs None parent full is = cc
slot-has-record dp b cs (Some o) parent full is = cc

none-finishes : (dp : Dp) (b : BoardState) (step : Step) → May dp b step → record_of_step dp b step ≡ None → (after dp b step).finished ≡ b.finished
none-finishes dp b (Take who) may is = finished-answer b who (take_gives b)
none-finishes dp b (Improve x) may is = finished-offered dp b x
none-finishes dp b (Finish who threshold cs) may is = absurd (slot-has-record dp b cs (slot_at b who) may.parent may.full is)
none-finishes dp b (GiveBack who) may is = finished-back b who (slot_at b who)
none-finishes dp b (Halt cause) may is = refl

-- ---- one record more

goes-on-more : (dp : Dp) (s : Replayed) (rs : List RecordView) (r : RecordView) → MayGoOnAll dp s rs → MayFollow dp (after_records dp s rs) r → TellsState dp (after_records dp s rs) r → MayGoOnAll dp s (rs ++ r ∷ [])
goes-on-more dp s [] r all may tells = ((may, tells), tt)
goes-on-more dp s (q ∷ rs) r all may tells = (all.0, goes-on-more dp (after_record dp s q) rs r all.1 may tells)

module _ (dp : Dp) (within : ℤ) (old new : List RecordView) (added : AreAdded dp within old new) where
  -- after all of them the search is sound
  sound-here : (starts : List (List ℕ)) → AreSoundOf dp starts within old → IsSoundStateOf dp starts within (finished_after_all 0 (old ++ new)) (replay_of dp (old ++ new))
  sound-here starts sound =
      let grown = journals-grow dp old new in
      let join = records-join dp (replay_of dp old) new [] in
      subst (λ n. IsSoundStateOf dp starts within n (replay_of dp (old ++ new))) (sym grown.since)
      (subst (IsSoundStateOf dp starts within (finished_after_all (finished_after_all 0 old) new)) (sym grown.after) (join.last starts within (finished_after_all 0 old) (added.sound starts sound)))

  -- a record that may follow, and that tells what is there, may stand after them where what is sound stays so
  added-more : (r : RecordView) → MayFollow dp (replay_of dp (old ++ new)) r → TellsState dp (replay_of dp (old ++ new)) r
      → ((starts : List (List ℕ)) → AreSoundOf dp starts within old → IsSoundStateOf dp starts within (finished_after (finished_after_all 0 (old ++ new)) r) (after_record dp (replay_of dp (old ++ new)) r)) → AreAdded dp within old (new ++ r ∷ [])
  added-more r may tells sound =
      let s = replay_of dp old in
      let n = finished_after_all 0 old in
      let grown = journals-grow dp old new in
      let join = records-join dp s new (r ∷ []) in
      record {
        accepted = added.accepted;
        goes_on = goes-on-more dp s new r added.goes_on (subst (λ t. MayFollow dp t r) grown.after may) (subst (λ t. TellsState dp t r) grown.after tells);
        sound = λ starts old_sound.
            let all = added.sound starts old_sound in
            let there = subst (λ m. IsSoundStateOf dp starts within (finished_after m r) (after_record dp (after_records dp s new) r)) grown.since
            (subst (λ t. IsSoundStateOf dp starts within (finished_after (finished_after_all 0 (old ++ new)) r) (after_record dp t r)) grown.after (sound starts old_sound)) in
            join.sound starts within n all (join.last starts within n all, there);
      }

replay-more : (dp : Dp) (old new : List RecordView) (r : RecordView) (b : BoardState) → IsReplayOf dp (after_record dp (replay_of dp (old ++ new)) r) b → IsReplayOf dp (replay_of dp (old ++ (new ++ r ∷ []))) b
replay-more dp old new r b beside =
    let grown = journals-grow dp (old ++ new) (r ∷ []) in
    subst (λ rs. IsReplayOf dp (replay_of dp rs) b) (append_assoc old new (r ∷ [])) (subst (λ s. IsReplayOf dp s b) (sym grown.after) beside)

-- ---- fronts

goes-on-front : (dp : Dp) (s : Replayed) (front others : List RecordView) → MayGoOnAll dp s (front ++ others) → MayGoOnAll dp s front
goes-on-front dp s [] others all = tt
goes-on-front dp s (r ∷ front) others all = (all.0, goes-on-front dp (after_record dp s r) front others all.1)

may-follow-all : (dp : Dp) (s : Replayed) (rs : List RecordView) → MayGoOnAll dp s rs → MayFollowAll dp s rs
may-follow-all dp s [] all = tt
may-follow-all dp s (r ∷ rs) all = (all.0.0, may-follow-all dp (after_record dp s r) rs all.1)

pub fronts-added : (dp : Dp) → FrontsAreAdded dp
fronts-added dp within old front others added =
    let s = replay_of dp old in
    let grown = journals-grow dp old front in
    let goes = goes-on-front dp s front others added.goes_on in
    record {
      accepted = grown.accepted added.accepted (may-follow-all dp s front goes);
      sound = λ starts sound. grown.sound starts within sound ((records-join dp s front others).sound_front starts within (finished_after_all 0 old) (added.sound starts sound));
      better = subst (λ t. OptionAtMost (value_held s.incumbent) (value_held t.incumbent)) (sym grown.after) (not-worse dp s front goes);
    }

-- ---- snapshots

module _ (dp : Dp) (old new : List RecordView) (b : BoardState) (k : KeepUp dp old new b) where
  snapped : SnapshotIsRecorded dp (replay_of dp (old ++ new)) b
  snapped = snapshots-recorded dp (replay_of dp (old ++ new)) b k.board k.replay

  -- a snapshot of the board may stand after the others
  pub added-snapshot : AreAdded dp b.settings.within old (new ++ snapshot_record b ∷ [])
  added-snapshot = added-more dp b.settings.within old new k.added (snapshot_record b) snapped.may snapped.tells (λ starts sound. snapped.sound (k.good {starts = starts} sound))

  -- and with it the records keep up with the board as it is
  pub with-snapshot : KeepUp dp old (new ++ snapshot_record b ∷ []) b
  with-snapshot = record {
    added = added-snapshot;
    replay = replay-more dp old new (snapshot_record b) b snapped.beside;
    finished = finishes-more new (snapshot_record b) ∙ (none-more (finish_records new) ∙ k.finished);
    board = k.board;
    good = λ {starts} sound. k.good {starts = starts} sound;
  }

plain-tells : (dp : Dp) (s : Replayed) (r : RecordView) → is_snapshot r ≡ false → TellsState dp s r
plain-tells dp s (RecordImprove value x) plain = tt
plain-tells dp s (RecordFinish ticket cs) plain = tt
plain-tells dp s (RecordSnapshot best next os) plain = absurd (cc)

-- ---- steps

module _ (dp : Dp) (laws : IsLawful dp) (old new : List RecordView) (b : BoardState) (step : Step) (k : KeepUp dp old new b) (may : May dp b step) where
  recorded : StepIsRecorded dp (replay_of dp (old ++ new)) b step
  recorded = steps-recorded dp laws (replay_of dp (old ++ new)) b step k.board k.replay may

  kept : StepKeeps dp b step
  kept = steps-keep dp laws b step may

  good-after : (starts : List (List ℕ)) → AreSoundOf dp starts (after dp b step).settings.within old → IsGoodFrom dp starts (after dp b step)
  good-after starts sound = kept.keeps.good k.board (k.good {starts = starts} (subst (λ s. AreSoundOf dp starts s.within old) kept.follows.settings sound))

  -- the record of a step that is allowed may stand after the others
  pub added-record : (r : RecordView) → record_of_step dp b step ≡ Some r → AreAdded dp b.settings.within old (new ++ r ∷ [])
  added-record r is =
      let s = replay_of dp (old ++ new) in
      let n = finished_after_all 0 (old ++ new) in
      added-more dp b.settings.within old new k.added r (subst (λ o. IfSome o (MayFollow dp s)) is recorded.may) (plain-tells dp s r (subst (λ o. IfSome o (λ q. is_snapshot q ≡ false)) is recorded.plain))
      (λ starts sound. subst (λ o. IfSome o (λ q. IsSoundStateOf dp starts b.settings.within (finished_after n q) (after_record dp s q))) is (recorded.sound n (k.good {starts = starts} sound) (sound-here dp b.settings.within old new k.added starts sound)))

  -- with it the records keep up with the board after the step
  pub with-record : (r : RecordView) → record_of_step dp b step ≡ Some r → KeepUp dp old (new ++ r ∷ []) (after dp b step)
  with-record r is =
      let beside : IsReplayOf dp (after_recorded dp (replay_of dp (old ++ new)) (Some r)) (after dp b step) =
      subst (λ o. IsReplayOf dp (after_recorded dp (replay_of dp (old ++ new)) o) (after dp b step)) is recorded.beside in
      record {
        added = subst (λ s. AreAdded dp s.within old (new ++ r ∷ [])) (sym kept.follows.settings) (added-record r is);
        replay = replay-more dp old new r (after dp b step) beside;
        finished = finishes-more new r ∙ (ap (λ n. n + finishes r) k.finished ∙ record-finishes dp b step r is);
        board = kept.keeps.board k.board;
        good = λ {starts} sound. good-after starts sound;
      }

  -- a step without a record leaves the records as they are
  pub without-record : record_of_step dp b step ≡ None → KeepUp dp old new (after dp b step)
  without-record is = record {
    added = subst (λ s. AreAdded dp s.within old new) (sym kept.follows.settings) k.added;
    replay = subst (λ o. IsReplayOf dp (after_recorded dp (replay_of dp (old ++ new)) o) (after dp b step)) is recorded.beside;
    finished = k.finished ∙ sym (none-finishes dp b step may is);
    board = kept.keeps.board k.board;
    good = λ {starts} sound. good-after starts sound;
  }

-- ---- at the making

pub no-new-records : (dp : Dp) → IsLawful dp → (records : List RecordView) (b : BoardState) → IsBoard dp b → IsMadeOf dp records b → KeepUp dp records [] b
no-new-records dp laws records b board made = ⊎_elim
    (λ first. subst (λ rs. KeepUp dp rs [] b) (sym first.0) (begun first.1))
    (λ restored.
    let nil = append-nil records in
    record {
      added = record { accepted = restored.0; goes_on = tt; sound = λ starts sound. (journals-grow dp records []).last starts b.settings.within sound };
      replay = subst (λ rs. IsReplayOf dp (replay_of dp rs) b) (sym nil) (subst (IsReplayOf dp (replay_of dp records)) (sym restored.1)
          (restored-boards-follow dp b.settings (replay_of dp records) (accepted-restore dp laws records restored.0)));
      finished = sym (ap (λ (x : BoardState). x.finished) restored.1);
      board = board;
      good = λ {starts} sound. subst (IsGoodFrom dp starts) (sym restored.1) (sound-restore-good dp laws {starts = starts} b.settings records board.settings restored.0 sound);
    })
    made
  where
    begun : b ≡ first_board dp b.settings → KeepUp dp [] [] b
    begun is = let first = first-boards-follow dp laws b.settings board.settings in record {
      added = record { accepted = tt; goes_on = tt; sound = λ starts sound. sound };
      replay = subst (IsReplayOf dp (replay_start dp)) (sym is) first.beside;
      finished = sym (ap (λ (x : BoardState). x.finished) is);
      board = board;
      good = λ {starts} sound. subst (IsGoodFrom dp starts) (sym is) ((starts-cover dp).each starts (first_board dp b.settings) (first-is-good dp laws b.settings board.settings).good);
    }
