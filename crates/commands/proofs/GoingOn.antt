-- A search that goes on from a journal.
use Rattle.std.proofs.Common.{◌≡◌, ◌⊎◌, inl, inr, ⊎_elim, ℕ, ℤ, List, [], Bool, true, false, ◌&&◌, Option, None, is_some, IsSome, IsTrue, Result, Ok, Err, IfOk, IfErr, Vec, Global, refl, sym, subst, ap, ◌∙◌, Some}
use Rattle.std.specs.Prelude.{MatchResult}
use Rattle.std.specs.declared.alloc.AllocError.{AllocError}
use Rattle.disk.specs.declared.disk.Disk.{Ghosts}
use Rattle.disk.specs.Counts.{Rose}
use Rattle.disk.specs.Disk.{FirstSync, AtFirstSync}
use Rattle.dp_model.specs.Distances.{IsDistance}
use Rattle.dp_model.specs.Dp.{Dp}
use Rattle.dp_model.specs.Laws.{IsLawful}
use Rattle.board_laws.specs.Board.{BoardState}
use Rattle.board_laws.specs.GoodBoard.{IsGood}
use Rattle.board_laws.specs.declared.settings.Settings.{Settings}
use Rattle.journal_bytes.specs.Bodies.{RecordView, RecordsView}
use Rattle.journal_bytes.specs.Journal.{HeadView, HasRecords, JournalView, head_view, journal_view}
use Rattle.journal_bytes.specs.declared.head.Head.{Head}
use Rattle.journal_bytes.specs.declared.head.Part.{Part}
use Rattle.journal_bytes.specs.declared.tail.Tail.{Tail}
use Rattle.journal_file.specs.declared.error.JournalError.TheVariants as errors
use Rattle.journal_replay.specs.Accepting.{AreAccepted}
use Rattle.journal_replay.specs.Replay.{replay_of, restored_from}
use Rattle.journal_replay.specs.Sound.{AreSound}
use Rattle.journal_replay.proofs.Joined.{sound-restore-good}
use Rattle.board.specs.View.{BoardView}
use Rattle.search_workers.specs.declared.desk.Desk.{Desk}
use Rattle.part_reports.specs.Reports.{AreTested, ReportView}
use Rattle.problem_theory.specs.Theory.{Agrees, Theory}
use Rattle.problems.specs.Theories.{theory_of}
use Rattle.solver_report.specs.declared.answer.Answer.{Answer}
use Rattle.solver_report.specs.declared.answer.Answer.TheVariants as answers
use Rattle.solver_report.specs.declared.answer.Outcome.{Outcome}
use Rattle.solver_report.specs.declared.answer.Outcome.TheVariants as outcomes
use Rattle.solver_report.specs.Report.{is_final}
use Rattle.solver_words.specs.Possible.{MaySearch}
use Rattle.answers.specs.Journals.{HasDiskFailed, HasGoneOn, HasKept, HasOpened, IsUnwritten, LeavesResumed}
use Rattle.answers.specs.Kept.{GoesOn, GoesOnPart, going_on, MayBeAdded, MayFollow, Resumes, ResumesIn, ResumesJournal, ResumesPart, SparesRefused, starts_for, starts_in}
use Rattle.answers.specs.Offers.{AreWorthAtMost, HasTaken, part_value, told_value}
use Rattle.answers.specs.Outcomes.{HasSearched}
use Rattle.answers.specs.PartSearches.{part_outcome}
use Rattle.answers.specs.Over.{IsOver}
use Rattle.answers.specs.declared.concluding.Conclusion.{Conclusion}
use Rattle.solver_words.specs.declared.job.JobSettings.{JobSettings}
use Rattle.answers.proofs.Journaled.{IsFound, at-first, ends-resumed, failed-later, is-found, left-following, none-following, same-start, stays-attached, still-first}
use Rattle.commands.specs.Journals.{IsOpened, LeavesOpened, TouchesNothing}
use Rattle.commands.specs.Searches.{IsKeptOn, IsToldOn, KeepsSome, or_memory, report_in}
use Rattle.commands.specs.Starts.{AreAsked, DoesNotTake, GoesOnFrom}
use Rattle.answers.proofs.Opened.{for-opened, refused-not-disk}
use Rattle.answers.proofs.PartSearches.{records_searched}
use Rattle.commands.proofs.Starts.{are-settings}
use Rattle.commands.proofs.Searched.{in-words}

-- ---- records and disks

-- two facts of the first sync
both-first : (o : Option FirstSync) (before now : List ℕ) (P Q : FirstSync → Type 0) → AtFirstSync o before now P → AtFirstSync o before now Q → AtFirstSync o before now (λ s. P s × Q s)
both-first None before now P Q p q = p
both-first (Some s) before now P Q p q = (p, q)

-- records that were added may follow the old ones of the journal of this instance
pub may-follow : (t : Theory) (dp : Dp) (head : HeadView) (old more : List RecordView) (numbers : List ℤ) → theory_of head.model ≡ t → t.spelled head.text ≡ Ok numbers → dp ≡ t.program numbers → MayBeAdded dp head.within old more → MayFollow head old more
may-follow t dp head old more numbers named spelled same added =
    subst (λ (x : Theory). IfOk (x.spelled head.text) (λ ns. MayBeAdded (x.program ns) head.within old more)) (sym named)
    (subst (λ r. IfOk r (λ ns. MayBeAdded (t.program ns) head.within old more)) (sym spelled) (subst (λ d. MayBeAdded d head.within old more) same added))

-- sound records make a good board
pub restored-good : (dp : Dp) → IsLawful dp → (search : JobSettings) (settings : Settings) (records : List RecordView) → MaySearch search → AreAsked dp search settings → AreAccepted dp records → AreSound dp search.within records → IsGood dp (restored_from settings (replay_of dp records))
restored-good dp laws search settings records may asked accepted sound =
    sound-restore-good dp laws settings records (are-settings dp search settings may asked) accepted (subst (λ z. AreSound dp z records) (sym asked.distance) sound)

-- the board that goes on is restored from its own settings
pub first-restored : (dp : Dp) (search : JobSettings) (records : RecordsView) (board : BoardView) (desks : Vec Desk Global) → GoesOnFrom dp search records board desks → board.first ≡ restored_from board.first.settings (replay_of dp records.records)
first-restored dp search records board desks on = on.fresh.first ∙ (on.board ∙ ap (λ (x : BoardState). restored_from x.settings (replay_of dp records.records)) (sym on.fresh.first))

pub first-good : (dp : Dp) → IsLawful dp → (search : JobSettings) (records : RecordsView) (board : BoardView) (desks : Vec Desk Global) → MaySearch search → GoesOnFrom dp search records board desks → AreSound dp search.within records.records → IsGood dp board.first
first-good dp laws search records board desks may on sound =
    subst (IsGood dp) (sym (on.fresh.first ∙ on.board)) (restored-good dp laws search board.board.settings records.records may on.fresh.ready.prepared.asked on.accepted sound)

-- a search that goes on may be made within the distance of its journal
pub may-go-on : (head : HeadView) (search asked : JobSettings) → search ≡ going_on head asked → IsDistance head.within → MaySearch asked → MaySearch search
may-go-on head search asked same near may = subst MaySearch (sym same) (record { some_workers = may.some_workers; few_workers = may.few_workers; some_parts = may.some_parts; few_parts = may.few_parts; distance = near })

-- without a cover
coverless : (cover : Option ℕ) (final : Bool) → cover ≡ None → (is_some cover && final) ≡ false
coverless cover final is = subst (λ c. (is_some c && final) ≡ false) (sym is) refl

-- the value that is told of a part is that of its search
same-value : (within : ℤ) (outcome : Outcome) → part_value (part_outcome within outcome) ≡ told_value outcome
same-value within (outcomes.Proved found distance) = refl
same-value within outcomes.Infeasible = refl
same-value within (outcomes.Stopped stop incumbent bound) = refl

-- an answer that comes with the disk as it was touches nothing
pub untouched : {D : Type 0} (disk : D) (answer : Answer) → TouchesNothing disk disk answer
untouched disk (answers.Journal e) = refl
untouched disk answers.Width = refl
untouched disk (answers.ReportsRefused e) = refl
untouched disk answer = tt

module _ {D : Type 0} (on : Ghosts D) where
  -- ---- a search that goes on

  module _ (dp : Dp) (own : List ℕ → Option ℤ) (head : HeadView) (records : List RecordView) (offers : List ReportView) where
    -- what was told of it, by what was asked for
    pub told-on : (search asked : JobSettings) → search ≡ going_on head asked → (now : D) → (ended : Result Conclusion AllocError) → IfOk ended (λ told. IsToldOn on dp own head records offers search now told.outcome told.counts)
        → IfOk (or_memory ended) (λ told. IsToldOn on dp own head records offers (going_on head asked) now told.outcome told.counts)
    told-on search asked same now (Ok told) h = subst (λ (s : JobSettings). IsToldOn on dp own head records offers s now told.outcome told.counts) same h
    told-on search asked same now (Err e) h = tt

    -- where nothing was told, for want of memory
    pub or-refused : (why : RecordsView) (asked : JobSettings) (before now : D) (ended : Result Conclusion AllocError) → IfErr (or_memory ended) (λ answer. DoesNotTake dp (going_on head asked) why offers answer × TouchesNothing before now answer)
    or-refused why asked before now (Ok told) = tt
    or-refused why asked before now (Err e) = (tt, tt)

    module _ (search : JobSettings) (made : D) (tail : Tail) (opened : IsOpened on head records made tail) where
      kept-resumed : (now : D) (f b : BoardState) → IsOver dp search f b → IsKeptOn on dp true made now b → HasKept on dp head records (LeavesResumed on head records) now b
      kept-resumed now f b over k =
          ends-resumed on dp b made now k.tail k.same k.kept opened.synced opened.counted head records over.idle (λ tells. (opened.is_open tells).1) opened.found opened.unwritten

      pub leaves : (now : D) (settings : Settings) → KeepsSome on dp true made now settings → LeavesOpened on (MayBeAdded dp head.within records) head records made now
      leaves now settings k =
          let b = k.board in
          let tail = k.keeps.tail in
          let following = left-following on dp b made now tail k.keeps.same k.keeps.kept opened.synced opened.counted head records (λ tells. (opened.is_open tells).1) opened.found opened.unwritten in
          let stays = stays-attached on dp b made now tail k.keeps.same k.keeps.kept opened.synced in
          record {
            written = following.0;
            gone = following.1;
            start = stays.start;
            still_tells = stays.still_tells;
            same_names = stays.same_names;
            same_found = stays.same_found;
          }

      -- where the disk has failed since the making, it has failed after the first sync
      disk-failed : (now : D) (b : BoardState) → IsKeptOn on dp true made now b → Rose (on.faults made) (on.faults now) → HasDiskFailed on now
      disk-failed now b k rose = failed-later on (on.start made) (on.start now) (on.faults made) (on.faults now) (same-start on dp b made now k.tail k.same k.kept opened.synced) opened.synced opened.counted rose

      pub gone-on : (now : D) (f : BoardState) → AreAccepted dp records → AreTested dp offers → f ≡ restored_from f.settings (replay_of dp records) → (AreSound dp head.within records → IsGood dp f) → (ended : Result Conclusion AllocError)
          → IfOk ended (λ told. AreWorthAtMost offers (told_value told.outcome) ⊎ Rose (on.faults made) (on.faults now))
          → IfOk ended (λ told. HasSearched dp own (λ settings. f) (IsGood dp f) search (IsKeptOn on dp true made now) told.outcome told.counts) → IfOk ended (λ told. IsToldOn on dp own head records offers search now told.outcome told.counts)
      gone-on now f accepted tested is good (Ok told) taken h = (
        accepted,
        record { tested = tested; taken = ⊎_elim (λ most. inl most) (λ rose. inr (disk-failed now h.board h.keeps rose)) taken },
        in-words dp own search f (λ settings. restored_from settings (replay_of dp records)) (AreSound dp head.within records) (IsKeptOn on dp true made now) (HasKept on dp head records (LeavesResumed on head records) now) is good
            (λ b over k. kept-resumed now f b over k) told.outcome told.counts h,
      )
      gone-on now f accepted tested is good (Err e) taken h = tt

  -- a search that does not go on, by what was asked for
  module _ (dp : Dp) (own : List ℕ → Option ℤ) (head : HeadView) (records : RecordsView) (offers : List ReportView) (asked : JobSettings) (now : D) where
    told-why : (answer : Answer) → DoesNotTake dp (going_on head asked) records offers answer → GoesOn on dp own head records.records records.first offers asked now answer
    told-why answers.Width h = h
    told-why (answers.Journal e) h = h
    told-why (answers.ReportsRefused e) h = h
    told-why answers.OutOfMemory h = tt
    told-why answer h = absurd h

    told-why-part : (part : Part) (starts : List (List ℕ)) (answer : Answer) → DoesNotTake dp (going_on head asked) records offers answer → GoesOnPart on dp own part starts head records.records records.first offers asked now answer
    told-why-part part starts answers.Width h = h
    told-why-part part starts (answers.Journal e) h = h
    told-why-part part starts (answers.ReportsRefused e) h = h
    told-why-part part starts answers.OutOfMemory h = tt
    told-why-part part starts answer h = absurd h

  -- ---- the journal of a whole search, or of a part

  -- what was told of a search that goes on, or why it does not
  module _ (dp : Dp) (laws : IsLawful dp) (own : List ℕ → Option ℤ) (agrees : Agrees dp own) (head : HeadView) (records : RecordsView) (offers : List ReportView) (asked : JobSettings) (may : MaySearch (going_on head asked)) (plain : asked.cover_words ≡ None) (before now : D) where
    abbrev Told-by : Result Conclusion Answer → Type 0
    Told-by ended = IfOk ended (λ told. IsToldOn on dp own head records.records offers (going_on head asked) now told.outcome told.counts)

    abbrev Refused-by : Result Conclusion Answer → Type 0
    Refused-by ended = IfErr ended (λ answer. DoesNotTake dp (going_on head asked) records offers answer × TouchesNothing before now answer)

    in-whole : (ended : Result Conclusion Answer) → Told-by ended → Refused-by ended → GoesOn on dp own head records.records records.first offers asked now (report_in None head.within ended)
    in-whole (Ok told) h why = (h, coverless asked.cover_words (is_final told.outcome) plain)
    in-whole (Err answer) h why = told-why dp own head records offers asked now answer why.0

    in-part : (part : Part) (starts : List (List ℕ)) (ended : Result Conclusion Answer) → Told-by ended → Refused-by ended
        → GoesOnPart on dp own part starts head records.records records.first offers asked now (report_in (Some part) head.within ended)
    in-part part starts (Ok told) h why = (
      refl,
      (
        h.0,
        subst (HasTaken (HasDiskFailed on now) dp offers) (sym (same-value head.within told.outcome)) h.1,
        records_searched dp laws own agrees (going_on head asked) may records.records h.0 starts (AreSound dp head.within records.records) (HasKept on dp head records.records (LeavesResumed on head records.records) now) told.outcome told.counts h.2,
      ),
    )
    in-part part starts (Err answer) h why = told-why-part dp own head records offers asked now part starts answer why.0

    with-starts : (part : Part) (ended : Result Conclusion Answer) (starts : Option (List (List ℕ))) → is_some starts ≡ true → Told-by ended → Refused-by ended
        → ResumesPart on dp own part starts head records.records records.first offers asked now (report_in (Some part) head.within ended)
    with-starts part ended None there told why = absurd (cc)
    with-starts part ended (Some starts) there told why = in-part part starts ended told why

    -- the answer to it
    pub resumes-in : (part : Option Part) (ended : Result Conclusion Answer) → is_some (starts_for part records.records) ≡ true → Told-by ended → Refused-by ended
        → ResumesIn on dp own part head records.records records.first offers asked now (report_in part head.within ended)
    resumes-in None ended there told why = in-whole ended told why
    resumes-in (Some part) ended there told why = with-starts part ended (starts_in records.records) there told why

  -- ---- a journal that was opened

  -- nothing was added to it
  pub leaves-it : (Follow : List RecordView → Type 0) (head : HeadView) (records : List RecordView) (made : D) (tail : Tail) → IsOpened on head records made tail → Follow [] → LeavesOpened on Follow head records made made
  leaves-it Follow head records made tail opened may = record {
    written = [];
    gone = λ tells. at-first (on.start made) (on.found made) (on.seen made) (λ s. HasRecords head records s.content × (HasRecords head records s.content → HasGoneOn on (Follow []) head records [] made s)) (λ s. HasGoneOn on (Follow []) head records [] made s)
        (λ s both. both.1 both.0)
        (both-first (on.start made) (on.found made) (on.seen made) (λ s. HasRecords head records s.content) (λ s. HasRecords head records s.content → HasGoneOn on (Follow []) head records [] made s) (opened.found tells) (none-following on (Follow []) made head records may opened.unwritten tells));
    start = refl;
    still_tells = refl;
    same_names = refl;
    same_found = refl;
  }

  -- the same, by what may follow the records
  pub leaves-by : (Follow Other : List RecordView → Type 0) (head : HeadView) (records : List RecordView) (made now : D) → ((rs : List RecordView) → Follow rs → Other rs) → LeavesOpened on Follow head records made now → LeavesOpened on Other head records made now
  leaves-by Follow Other head records made now other l = record {
    written = l.written;
    gone = λ tells. at-first (on.start now) (on.found now) (on.seen now) (λ s. HasGoneOn on (Follow l.written) head records l.written now s) (λ s. HasGoneOn on (Other l.written) head records l.written now s)
        (λ s g. record { since = g.since; follow = other l.written g.follow; ends = g.ends }) (l.gone tells);
    start = l.start;
    still_tells = l.still_tells;
    same_names = l.same_names;
    same_found = l.same_found;
  }

  -- it is not refused for the disk
  not-for-disk : (offers : List ReportView) (search : JobSettings) (now : D) (j : JournalView) (first : ℕ) → ResumesJournal on offers search now j first (answers.Journal errors.Disk) → ⊥
  not-for-disk offers search now j first h = never ((theory_of j.head.model).spelled j.head.text) h
    where
      for-part : (dp : Dp) (own : List ℕ → Option ℤ) (part : Part) (starts : Option (List (List ℕ))) → ResumesPart on dp own part starts j.head j.records first offers search now (answers.Journal errors.Disk) → ⊥
      for-part dp own part None same = cc
      for-part dp own part (Some starts) refused = refused-not-disk dp first j.records refused

      in-dp : (dp : Dp) (own : List ℕ → Option ℤ) (part : Option Part) → ResumesIn on dp own part j.head j.records first offers search now (answers.Journal errors.Disk) → ⊥
      in-dp dp own None refused = refused-not-disk dp first j.records refused
      in-dp dp own (Some part) h = for-part dp own part (starts_in j.records) h

      never : {E : Type 0} (r : Result (List ℤ) E) → MatchResult r (λ numbers. ResumesIn on ((theory_of j.head.model).program numbers) ((theory_of j.head.model).own_value numbers) j.head.part j.head j.records first offers search now (answers.Journal errors.Disk))
          (λ e. answers.Journal errors.Disk ≡ answers.Journal (errors.Malformed 0)) → ⊥
      never (Ok numbers) refused = in-dp ((theory_of j.head.model).program numbers) ((theory_of j.head.model).own_value numbers) j.head.part refused
      never (Err e) same = cc

  module _ (offers : List ReportView) (search : JobSettings) (before made now : D) (Follow : List RecordView → Type 0) (r : Head × RecordsView × Tail) (opened : HasOpened on made (Ok r)) (began : IsSome (on.start made)) (left : LeavesOpened on Follow (head_view r.2.version r.0) r.1.records made now) where
    still-opened : HasOpened on now (Ok r)
    still-opened = record {
      file = opened.file;
      is_file = λ tells. still-first (on.start made) (on.start now) (on.found made) (on.seen made) (on.found now) (on.seen now) (λ s. s.content ≡ opened.file) began left.start (opened.is_file (subst IsTrue left.still_tells tells));
      opens = opened.opens;
      first = opened.first;
      began = tt;
    }

    spared : IsUnwritten on made → (answer : Answer) → TouchesNothing made now answer → SparesRefused on now answer
    spared unwritten (answers.Journal e) stays = subst (IsUnwritten on) (sym stays) unwritten
    spared unwritten answers.Width stays = subst (IsUnwritten on) (sym stays) unwritten
    spared unwritten (answers.ReportsRefused e) stays = subst (IsUnwritten on) (sym stays) unwritten
    spared unwritten answer stays = tt

    -- the answer to a journal that was opened
    pub answered : IsUnwritten on made → (answer : Answer) → (answer ≡ answers.OutOfMemory) ⊎ ResumesJournal on offers search now (journal_view r) r.1.first answer → TouchesNothing made now answer → Resumes on offers search before now answer
    answered unwritten answer h stays = (
      for-opened on (ResumesJournal on offers search now) before now r still-opened (subst (λ (o : Option FirstSync). IsSome o) (sym left.start) began) (not-for-disk offers search now (journal_view r) r.1.first) answer h,
      spared unwritten answer stays,
    )

    -- and what is left of it
    pub is-found-still : IsFound on (head_view r.2.version r.0) r.1.records now
    is-found-still tells = still-first (on.start made) (on.start now) (on.found made) (on.seen made) (on.found now) (on.seen now) (λ s. HasRecords (head_view r.2.version r.0) r.1.records s.content) began left.start (is-found on made r opened (subst IsTrue left.still_tells tells))
