-- What a kept board keeps, through its steps.
use Rattle.std.proofs.Common.{◌≡◌, ◌≢◌, inl, inr, ⊎_elim, ℕ, ◌≤◌, ℤ, List, [], ◌∷◌, ◌++◌, Option, Some, None, refl, sym, ◌∙◌, ap, subst, append-nil, arith, IsTrue, IsSome, is_some}
use Rattle.std.proofs.lemmas.List.{append_assoc}
use Rattle.disk.specs.declared.disk.Disk.{Ghosts}
use Rattle.disk.specs.Counts.{Rose}
use Rattle.disk.specs.Disk.{FirstSync, Keeps, Only}
use Rattle.disk.proofs.Runs.{started, then}
use Rattle.dp_model.specs.Dp.{Dp}
use Rattle.dp_model.specs.Laws.{IsLawful}
use Rattle.fringe.specs.Tickets.{Ticketed}
use Rattle.fringe.specs.Firsts.{first_taken}
use Rattle.board_laws.specs.declared.cause.Cause.{Cause}
use Rattle.board_laws.specs.declared.cause.Cause.TheVariants.{Budget, Memory, Journal}
use Rattle.board_laws.specs.declared.taken.Taken.{Taken}
use Rattle.board_laws.specs.declared.taken.Taken.TheVariants.{Sub, WaitForOthers, Finished, Halted}
use Rattle.board_laws.specs.Board.{BoardState, slot_at}
use Rattle.board_laws.specs.GoodBoard.{IsBoard}
use Rattle.board_laws.specs.Runs.Step.{Take, Improve, Finish, GiveBack, Halt}
use Rattle.board_laws.specs.Runs.{Step, May, after}
use Rattle.board_laws.specs.declared.settings.Settings.{Settings}
use Rattle.board_laws.specs.Steps.{cause_after, given_back_from, halted}
use Rattle.board_laws.specs.Taking.{take_gives, checked_out, after_answer}
use Rattle.board_laws.proofs.Running.{offered-is, step-follows}
use Rattle.journal_bytes.specs.declared.tail.Tail.{Tail}
use Rattle.journal_bytes.specs.Bodies.{RecordView}
use Rattle.journal_bytes.specs.Journal.{HeadView, HasRecords}
use Rattle.journal_file.specs.Settled.{IsReady}
use Rattle.journal_replay.specs.Following.{record_of_step, snapshot_record}
use Rattle.board.specs.Moves.{NeedsNoJournal}
use Rattle.board.specs.View.{BoardView, tag_of}
use Rattle.kept_board.proofs.Growing.{added-record, with-record, without-record, added-snapshot, with-snapshot, no-new-records}
use Rattle.kept_board.specs.Adding.{HasAtMost, MayAddTo, LeavesAtMost, Acknowledges}
use Rattle.kept_board.specs.Kept.{HasFront, MayKeep, LeftFronts, IsCurrent, IsBroken, Goes, HasJournal, KeepsJournal, IsKept}
use Rattle.kept_board.specs.Records.{AreAdded, KeepUp}

-- ---- the cause

cause-out : (b : BoardState) (who : ℕ) (first : Option Ticketed) → (checked_out b who first).cause ≡ b.cause
cause-out b who None = refl
cause-out b who (Some o) = refl

cause-answer : (b : BoardState) (who : ℕ) (answer : Taken) → (after_answer b who answer).cause ≡ b.cause
cause-answer b who Sub = cause-out b who (first_taken b.open_ones)
cause-answer b who WaitForOthers = refl
cause-answer b who Finished = refl
cause-answer b who (Halted cause) = refl

cause-back : (b : BoardState) (who : ℕ) (slot : Option Ticketed) → (given_back_from b who slot).cause ≡ b.cause
cause-back b who None = refl
cause-back b who (Some o) = refl

cause-offered : (dp : Dp) (b : BoardState) (x : List ℕ) → (after dp b (Improve x)).cause ≡ b.cause
cause-offered dp b x = offered-is (λ later. later.cause ≡ b.cause) dp b x refl (λ up. refl)

-- the journal's cause stays for good
cause-lasts : (held : Option Cause) (cause : Cause) → held ≡ Some Journal → cause_after held cause ≡ Some Journal
cause-lasts None cause is = absurd (cc)
cause-lasts (Some held) Budget is = is
cause-lasts (Some held) Memory is = is
cause-lasts (Some held) Journal is = refl

pub stays-stopped : (dp : Dp) (b : BoardState) (step : Step) → b.cause ≡ Some Journal → (after dp b step).cause ≡ Some Journal
stays-stopped dp b (Take who) is = cause-answer b who (take_gives b) ∙ is
stays-stopped dp b (Improve x) is = cause-offered dp b x ∙ is
stays-stopped dp b (Finish who threshold cs) is = is
stays-stopped dp b (GiveBack who) is = cause-back b who (slot_at b who) ∙ is
stays-stopped dp b (Halt cause) is = cause-lasts b.cause cause is

-- and only a halt by it makes it one
cause-new : (held : Option Cause) (cause : Cause) → held ≢ Some Journal → NeedsNoJournal (Halt cause) → cause_after held cause ≢ Some Journal
cause-new held Budget differ alone = differ
cause-new None Memory differ alone = λ is. cc
cause-new (Some held) Memory differ alone = differ
cause-new held Journal differ alone = absurd alone

pub goes-on : (dp : Dp) (b : BoardState) (step : Step) → NeedsNoJournal step → b.cause ≢ Some Journal → (after dp b step).cause ≢ Some Journal
goes-on dp b (Take who) alone differ = λ is. differ (sym (cause-answer b who (take_gives b)) ∙ is)
goes-on dp b (Improve x) alone differ = λ is. differ (sym (cause-offered dp b x) ∙ is)
goes-on dp b (Finish who threshold cs) alone differ = differ
goes-on dp b (GiveBack who) alone differ = λ is. differ (sym (cause-back b who (slot_at b who)) ∙ is)
goes-on dp b (Halt cause) alone differ = cause-new b.cause cause differ alone

-- ---- fronts of the new records

module _ (head : HeadView) (old new : List RecordView) (r : RecordView) (file : List ℕ) where
  pub front-longer : HasFront head old new file → HasFront head old (new ++ r ∷ []) file
  front-longer f = record { front = f.front; others = f.others ++ r ∷ []; parts = ap (λ l. l ++ r ∷ []) f.parts ∙ append_assoc f.front f.others (r ∷ []); reads = f.reads }

  pub regrouped : HasRecords head ((old ++ new) ++ r ∷ []) file → HasRecords head (old ++ (new ++ r ∷ [])) file
  regrouped = subst (λ rs. HasRecords head rs file) (append_assoc old new (r ∷ []))

  pub whole-front : HasAtMost head (old ++ new) r file → HasFront head old (new ++ r ∷ []) file
  whole-front has = ⊎_elim
      (λ before. record { front = new; others = r ∷ []; parts = refl; reads = before })
      (λ after. record { front = new ++ r ∷ []; others = []; parts = sym (append-nil (new ++ r ∷ [])); reads = regrouped after })
      has

module _ {D : Type 0} (on : Ghosts D) where
  -- at first there are no new records
  pub fronts-begun : (disk : D) (head : HeadView) (old : List RecordView) → ((c : List ℕ) → on.left_since disk (on.moment disk) c → on.may_leave disk c) → Only (on.seen disk) (on.may_leave disk) → HasRecords head old (on.seen disk)
      → LeftFronts on disk disk head old []
  fronts-begun disk head old only_now durable reads = started on.moment on.left_since disk (HasFront head old [])
      (λ c left. record { front = []; others = []; parts = refl; reads = subst (λ rs. HasRecords head rs c) (sym (append-nil old)) (subst (HasRecords head old) (sym (durable c (only_now c left))) reads) })

  -- a front of the records is left at each moment, and after one more a front of these and the new one
  pub fronts-longer : (made disk next : D) (r : RecordView) (head : HeadView) (old new : List RecordView) → IsTrue (on.tells disk) → HasRecords head (old ++ new) (on.seen disk) → LeftFronts on made disk head old new → LeavesAtMost on disk next r
      → LeftFronts on made next head old (new ++ r ∷ [])
  fronts-longer made disk next r head old new tells reads since leaves =
      then on.moment on.left_since made disk next (HasFront head old new) (HasAtMost head (old ++ new) r) (HasFront head old (new ++ r ∷ [])) since (leaves tells head (old ++ new) reads)
      (λ c has. front-longer head old new r c has) (λ c has. whole-front head old new r c has)

-- ---- a record more

-- with the record the journal of the first board keeps up with the second
pub record GrowsBy (dp : Dp) (b later : BoardState) (r : RecordView) : Type 0 where
  pub keep_up : (old new : List RecordView) → KeepUp dp old new b → KeepUp dp old (new ++ r ∷ []) later
  pub added : (old new : List RecordView) → KeepUp dp old new b → AreAdded dp b.settings.within old (new ++ r ∷ [])
  pub settings : later.settings ≡ b.settings
  pub going : b.cause ≢ Some Journal → later.cause ≢ Some Journal

pub step-grows : (dp : Dp) → IsLawful dp → (b : BoardState) (step : Step) (r : RecordView) → May dp b step → NeedsNoJournal step → record_of_step dp b step ≡ Some r → GrowsBy dp b (after dp b step) r
step-grows dp laws b step r may alone is = record {
  keep_up = λ old new k. with-record dp laws old new b step k may r is;
  added = λ old new k. added-record dp laws old new b step k may r is;
  settings = (step-follows dp b step).settings;
  going = goes-on dp b step alone;
}

pub snapshot-grows : (dp : Dp) (b : BoardState) → GrowsBy dp b b (snapshot_record b)
snapshot-grows dp b = record {
  keep_up = λ old new k. with-snapshot dp old new b k;
  added = λ old new k. added-snapshot dp old new b k;
  settings = refl;
  going = λ going. going;
}

same-within : (b later : BoardState) (head : HeadView) → later.settings ≡ b.settings → b.settings.within ≡ head.within → later.settings.within ≡ head.within
same-within b later head same is = ap (λ (s : Settings). s.within) same ∙ is

module _ {D : Type 0} (on : Ghosts D) (dp : Dp) (laws : IsLawful dp) where
  -- ---- a step without a record

  stays-current : (b : BoardState) (step : Step) (made disk : D) (tail : Tail) → May dp b step → record_of_step dp b step ≡ None → IsCurrent on dp b made disk tail → IsCurrent on dp (after dp b step) made disk tail
  stays-current b step made disk tail may is cur = record {
    head = cur.head;
    within = same-within b (after dp b step) cur.head (step-follows dp b step).settings cur.within;
    old = cur.old;
    new = cur.new;
    from = cur.from;
    is_open = cur.is_open;
    reads = cur.reads;
    keep_up = without-record dp laws cur.old cur.new b step cur.keep_up may is;
    since = cur.since;
  }

  stays-broken : (b : BoardState) (step : Step) (made disk : D) → May dp b step → record_of_step dp b step ≡ None → IsBroken on dp b made disk → IsBroken on dp (after dp b step) made disk
  stays-broken b step made disk may is broken =
      let keep_up = without-record dp laws broken.old broken.new b step broken.keep_up may is in
      record {
        head = broken.head;
        within = same-within b (after dp b step) broken.head (step-follows dp b step).settings broken.within;
        old = broken.old;
        new = broken.new;
        last = broken.last;
        from = broken.from;
        keep_up = keep_up;
        added = subst (λ s. AreAdded dp s.within broken.old (broken.new ++ broken.last ∷ [])) (sym (step-follows dp b step).settings) broken.added;
        since = broken.since;
        left = broken.left;
      }

  pub stays-kept : (b : BoardState) (step : Step) (made disk : D) (tail : Option Tail) → May dp b step → NeedsNoJournal step → record_of_step dp b step ≡ None → KeepsJournal on dp b made disk tail → KeepsJournal on dp (after dp b step) made disk tail
  stays-kept b step made disk None may alone is k = (goes-on dp b step alone k.0, k.1)
  stays-kept b step made disk (Some tail) may alone is k = record {
    faults = k.faults;
    still_tells = k.still_tells;
    same_names = k.same_names;
    same_found = k.same_found;
    start = k.start;
    state = ⊎_elim
        (λ goes. inl (record { cause = goes-on dp b step alone goes.cause; is_attached = goes.is_attached; current = λ tells. stays-current b step made disk tail may is (goes.current tells) }))
        (λ stopped. inr (record { cause = stays-stopped dp b step stopped.cause; rose = stopped.rose; broken = λ tells. stays-broken b step made disk may is (stopped.broken tells) }))
        k.state;
  }

  -- ---- a record may be added

  going : (b : BoardState) (made disk : D) (tail : Tail) → b.cause ≢ Some Journal → HasJournal on dp b made disk tail → Goes on dp b made disk tail
  going b made disk tail differ k = ⊎_elim (λ goes. goes) (λ stopped. absurd (differ stopped.cause)) k.state

  pub may-add : (b : BoardState) (made disk : D) (tail : Option Tail) → (IsSome tail → b.cause ≢ Some Journal) → KeepsJournal on dp b made disk tail → MayAddTo on disk tail
  may-add b made disk None differ k = tt
  may-add b made disk (Some tail) differ k =
      let goes = going b made disk tail (differ refl) k in
      record { is_attached = goes.is_attached; is_open = λ tells. (goes.current tells).is_open }

  -- ---- a record more

  module _ (b later : BoardState) (r : RecordView) (grows : GrowsBy dp b later r) (made disk next : D) (keeps : Keeps on.attached on.tells on.names on.found disk next) (faults : on.faults disk ≤ on.faults next) (start : (s : FirstSync) → on.start disk ≡ Some s → on.start next ≡ Some s) where
    now-current : (tail next_tail : Tail) → IsCurrent on dp b made disk tail → IsTrue (on.tells disk) → IsTrue (on.tells next) → IsReady on.attached on.tells on.seen on.may_leave next next_tail → Acknowledges on disk next r → LeavesAtMost on disk next r
        → IsCurrent on dp later made next next_tail
    now-current tail next_tail cur tells tells_next ready acknowledged leaves = record {
      head = cur.head;
      within = same-within b later cur.head grows.settings cur.within;
      old = cur.old;
      new = cur.new ++ r ∷ [];
      from = cur.from;
      is_open = ready.is_open tells_next;
      reads = regrouped cur.head cur.old cur.new r (on.seen next) (acknowledged tells cur.head (cur.old ++ cur.new) cur.reads);
      keep_up = grows.keep_up cur.old cur.new cur.keep_up;
      since = fronts-longer on made disk next r cur.head cur.old cur.new tells cur.reads cur.since leaves;
    }

    now-broken : ((t : ℕ) (c : List ℕ) → t ≤ on.moment next → on.may_leave next c → on.left_since next t c) → (tail : Tail) → IsCurrent on dp b made disk tail → IsTrue (on.tells disk) → LeavesAtMost on disk next r → IsBroken on dp (halted b Journal) made next
    now-broken counts_now tail cur tells leaves =
        let run = leaves tells cur.head (cur.old ++ cur.new) cur.reads in
        record {
          head = cur.head;
          within = cur.within;
          old = cur.old;
          new = cur.new;
          last = r;
          from = cur.from;
          keep_up = without-record dp laws cur.old cur.new b (Halt Journal) cur.keep_up tt refl;
          added = grows.added cur.old cur.new cur.keep_up;
          since = fronts-longer on made disk next r cur.head cur.old cur.new tells cur.reads cur.since leaves;
          left = λ c left. ⊎_elim (λ before. inl before) (λ after. inr (regrouped cur.head cur.old cur.new r c after)) (run.each c (counts_now (on.moment disk) c run.later left));
        }

    pub grown-kept : (tail next_tail : Option Tail) → (IsSome tail → b.cause ≢ Some Journal) → KeepsJournal on dp b made disk tail → is_some next_tail ≡ is_some tail → MayAddTo on next next_tail
        → (tail ≡ None → next ≡ disk) → (IsSome tail → Acknowledges on disk next r) → (IsSome tail → LeavesAtMost on disk next r) → KeepsJournal on dp later made next next_tail
    grown-kept None None differ k same ready none acknowledged leaves = (grows.going k.0, none refl ∙ k.1)
    grown-kept None (Some next_tail) differ k same ready none acknowledged leaves = absurd (cc)
    grown-kept (Some tail) None differ k same ready none acknowledged leaves = absurd (cc)
    grown-kept (Some tail) (Some next_tail) differ k same ready none acknowledged leaves =
        let goes = going b made disk tail (differ refl) k in
        record {
          faults = omega (arith, k.faults, faults);
          still_tells = keeps.still_tells ∙ k.still_tells;
          same_names = keeps.same_names ∙ k.same_names;
          same_found = keeps.same_found ∙ k.same_found;
          start = λ s is. start s (k.start s is);
          state = inl (record {
            cause = grows.going goes.cause;
            is_attached = ready.is_attached;
            current = λ tells_next. let tells = subst IsTrue keeps.still_tells tells_next in now-current tail next_tail (goes.current tells) tells tells_next ready (acknowledged refl) (leaves refl);
          });
        }

    pub fails-kept : (tail next_tail : Option Tail) → ((t : ℕ) (c : List ℕ) → t ≤ on.moment next → on.may_leave next c → on.left_since next t c) → (IsSome tail → b.cause ≢ Some Journal) → KeepsJournal on dp b made disk tail → next_tail ≡ tail → IsSome tail
        → Rose (on.faults disk) (on.faults next) → (IsSome tail → LeavesAtMost on disk next r) → KeepsJournal on dp (halted b Journal) made next next_tail
    fails-kept None next_tail counts_now differ k same has rose leaves = absurd (cc)
    fails-kept (Some tail) next_tail counts_now differ k same has rose leaves = subst (KeepsJournal on dp (halted b Journal) made next) (sym same)
        (let goes = going b made disk tail (differ refl) k in
        record {
          faults = omega (arith, k.faults, faults);
          still_tells = keeps.still_tells ∙ k.still_tells;
          same_names = keeps.same_names ∙ k.same_names;
          same_found = keeps.same_found ∙ k.same_found;
          start = λ s is. start s (k.start s is);
          state = inr (record {
            cause = refl;
            rose = omega (arith, k.faults, rose);
            broken = λ tells_next. let tells = subst IsTrue keeps.still_tells tells_next in now-broken counts_now tail (goes.current tells) tells (leaves refl);
          });
        })

  -- ---- at the making

  pub first-kept : (b : BoardState) (disk : D) (tail : Option Tail) → ((c : List ℕ) → on.left_since disk (on.moment disk) c → on.may_leave disk c) → b.cause ≡ None → IsBoard dp b → MayKeep on dp b disk tail → KeepsJournal on dp b disk disk tail
  first-kept b disk None only_now cause board may = ((λ is. cc), refl)
  first-kept b disk (Some tail) only_now cause board may = record {
    faults = omega arith;
    still_tells = refl;
    same_names = refl;
    same_found = refl;
    start = λ s is. is;
    state = inl (record {
      cause = λ is. cc;
      is_attached = may.0;
      current = λ tells. let j = may.1 tells in record {
        head = j.head;
        within = j.within;
        old = j.records;
        new = [];
        from = j.reads;
        is_open = j.is_open;
        reads = subst (λ rs. HasRecords j.head rs (on.seen disk)) (sym (append-nil j.records)) j.reads;
        keep_up = no-new-records dp laws j.records b board j.made;
        since = fronts-begun on disk j.head j.records only_now j.is_open.settled.durable j.reads;
      };
    });
  }

-- ---- by what is seen of the board

pub same-numbers : (new old : BoardView) → tag_of new ≡ tag_of old → new.numbers ≡ old.numbers
same-numbers new old tag = ap (λ t. t.numbers) tag

module _ {D : Type 0} (on : Ghosts D) (meaning : List ℤ → Dp) (old new : BoardView) (tag : tag_of new ≡ tag_of old) where
  -- a board as it is after a step, in the words of the new board
  seen-kept : (later : BoardState) (made disk : D) (tail : Option Tail) → new.board ≡ later → IsLawful (meaning old.numbers) → KeepsJournal on (meaning old.numbers) later made disk tail → IsKept on (meaning new.numbers) new.board made disk tail
  seen-kept later made disk tail is laws k = subst (λ ns. IsKept on (meaning ns) new.board made disk tail) (sym (same-numbers new old tag))
      (record { lawful = laws; journal = subst (λ b. KeepsJournal on (meaning old.numbers) b made disk tail) (sym is) k })

  pub quiet-kept : (step : Step) (made disk : D) (tail : Option Tail) → May (meaning old.numbers) old.board step → NeedsNoJournal step → record_of_step (meaning old.numbers) old.board step ≡ None
      → new.board ≡ after (meaning old.numbers) old.board step → IsKept on (meaning old.numbers) old.board made disk tail → IsKept on (meaning new.numbers) new.board made disk tail
  quiet-kept step made disk tail may alone none is k =
      seen-kept (after (meaning old.numbers) old.board step) made disk tail is k.lawful (stays-kept on (meaning old.numbers) k.lawful old.board step made disk tail may alone none k.journal)

  -- nothing has happened
  pub same-kept : (made disk : D) (tail : Option Tail) → new.board ≡ old.board → IsKept on (meaning old.numbers) old.board made disk tail → IsKept on (meaning new.numbers) new.board made disk tail
  same-kept made disk tail is k = seen-kept old.board made disk tail is k.lawful k.journal

  pub step-kept : (step : Step) (r : RecordView) (made disk next : D) (tail next_tail : Option Tail) → May (meaning old.numbers) old.board step → NeedsNoJournal step → record_of_step (meaning old.numbers) old.board step ≡ Some r → new.board ≡ after (meaning old.numbers) old.board step
      → IsKept on (meaning old.numbers) old.board made disk tail → (IsSome tail → old.board.cause ≢ Some Journal) → is_some next_tail ≡ is_some tail → Keeps on.attached on.tells on.names on.found disk next → on.faults disk ≤ on.faults next → ((s : FirstSync) → on.start disk ≡ Some s → on.start next ≡ Some s) → MayAddTo on next next_tail
      → (tail ≡ None → next ≡ disk) → (IsSome tail → Acknowledges on disk next r) → (IsSome tail → LeavesAtMost on disk next r) → IsKept on (meaning new.numbers) new.board made next next_tail
  step-kept step r made disk next tail next_tail may alone recorded is k differ same keeps faults start ready none acknowledged leaves =
      seen-kept (after (meaning old.numbers) old.board step) made next next_tail is k.lawful
      (grown-kept on (meaning old.numbers) k.lawful old.board (after (meaning old.numbers) old.board step) r (step-grows (meaning old.numbers) k.lawful old.board step r may alone recorded) made disk next keeps faults start
      tail next_tail differ k.journal same ready none acknowledged leaves)

  pub snap-kept : (made disk next : D) (tail next_tail : Option Tail) → new.board ≡ old.board
      → IsKept on (meaning old.numbers) old.board made disk tail → (IsSome tail → old.board.cause ≢ Some Journal) → is_some next_tail ≡ is_some tail → Keeps on.attached on.tells on.names on.found disk next → on.faults disk ≤ on.faults next → ((s : FirstSync) → on.start disk ≡ Some s → on.start next ≡ Some s) → MayAddTo on next next_tail
      → (tail ≡ None → next ≡ disk) → (IsSome tail → Acknowledges on disk next (snapshot_record old.board)) → (IsSome tail → LeavesAtMost on disk next (snapshot_record old.board)) → IsKept on (meaning new.numbers) new.board made next next_tail
  snap-kept made disk next tail next_tail is k differ same keeps faults start ready none acknowledged leaves =
      seen-kept old.board made next next_tail is k.lawful
      (grown-kept on (meaning old.numbers) k.lawful old.board old.board (snapshot_record old.board) (snapshot-grows (meaning old.numbers) old.board) made disk next keeps faults start
      tail next_tail differ k.journal same ready none acknowledged leaves)

  pub fail-kept : ((t : ℕ) (c : List ℕ) → (disk : D) → t ≤ on.moment disk → on.may_leave disk c → on.left_since disk t c) → (later : BoardState) (r : RecordView) → (IsLawful (meaning old.numbers) → GrowsBy (meaning old.numbers) old.board later r) → (made disk next : D) (tail next_tail : Option Tail)
      → new.board ≡ halted old.board Journal
      → IsKept on (meaning old.numbers) old.board made disk tail → (IsSome tail → old.board.cause ≢ Some Journal) → next_tail ≡ tail → IsSome tail → Rose (on.faults disk) (on.faults next) → Keeps on.attached on.tells on.names on.found disk next → on.faults disk ≤ on.faults next → ((s : FirstSync) → on.start disk ≡ Some s → on.start next ≡ Some s)
      → (IsSome tail → LeavesAtMost on disk next r) → IsKept on (meaning new.numbers) new.board made next next_tail
  fail-kept counts_now later r grows made disk next tail next_tail is k differ same some rose keeps faults start leaves =
      seen-kept (halted old.board Journal) made next next_tail is k.lawful
      (fails-kept on (meaning old.numbers) k.lawful old.board later r (grows k.lawful) made disk next keeps faults start tail next_tail (λ t c. counts_now t c next) differ k.journal same some rose leaves)
