-- An answer for a file that is opened.
use Rattle.std.proofs.Common.{◌≡◌, ◌⊎◌, inl, inr, ℕ, List, [], ◌∷◌, Ok, Err, refl, sym, subst, ap}
use Rattle.std.specs.Prelude.{IsSome, MatchResult}
use Rattle.disk.specs.declared.disk.Disk.{Ghosts}
use Rattle.disk.specs.Counts.{Rose}
use Rattle.dp_model.specs.Dp.{Dp}
use Rattle.journal_bytes.specs.Base.{base_offset, following_record, from_base}
use Rattle.journal_bytes.specs.Bodies.{RecordView, RecordsView}
use Rattle.journal_bytes.specs.Frames.{frames_of}
use Rattle.journal_bytes.specs.Journal.{after_head, journal_of, journal_view}
use Rattle.journal_bytes.specs.declared.head.Head.{Head}
use Rattle.journal_bytes.specs.declared.tail.Tail.{Tail}
use Rattle.journal_bytes.specs.declared.refusal.Refusal.{Refusal}
use Rattle.journal_bytes.specs.declared.refusal.Refusal.TheVariants as bytes
use Rattle.journal_file.specs.Refusing.{IsRefusal, error_of}
use Rattle.journal_file.specs.declared.error.JournalError.{JournalError}
use Rattle.journal_file.specs.declared.error.JournalError.TheVariants as errors
use Rattle.journal_replay.specs.Accepting.{AreRefused, IsFirstWrong}
use Rattle.journal_replay.specs.Replay.{Replayed, after_record, replay_start}
use Rattle.solver_report.specs.declared.answer.Answer.{Answer}
use Rattle.solver_report.specs.declared.answer.Answer.TheVariants as answers
use Rattle.answers.specs.Journals.{Attaches, HasOpened, IsUnwritten}
use Rattle.answers.specs.Opened.{ForJournal, IsForDisk, IsForFile, ReadsNamed}

-- ---- no record is refused for the disk

not-disk : (dp : Dp) (s : Replayed) (at : ℕ) (records : List RecordView) → IsFirstWrong dp s at records errors.Disk → ⊥
not-disk dp s at [] h = h
not-disk dp s at (r ∷ rs) (inl h) = h
not-disk dp s at (r ∷ rs) (inr h) = not-disk dp (after_record dp s r) (following_record at r) rs h.1

pub refused-not-disk : (dp : Dp) (at : ℕ) (records : List RecordView) → AreRefused dp at records errors.Disk → ⊥
refused-not-disk dp at records (inl memory) = cc
refused-not-disk dp at records (inr h) = not-disk dp (replay_start dp) (base_offset at records) (from_base records) h

module _ {D : Type 0} (on : Ghosts D) (For : ForJournal) (before now : D) where
  -- ---- a journal that was opened

  module _ (r : Head × RecordsView × Tail) (opened : HasOpened on now (Ok r)) (began : IsSome (on.start now)) where
    for-file : (answer : Answer) → For (journal_view r) r.1.first answer → IsForFile on For now answer
    for-file answer h = record {
      began = began;
      file = opened.file;
      is_file = opened.is_file;
      right = subst (λ x. MatchResult x (λ j. For j (after_head (frames_of opened.file)) answer) (λ refusal. answer ≡ answers.Journal (error_of refusal))) (sym opened.opens)
          (subst (λ first. For (journal_view r) first answer) opened.first h);
    }

    for-disk : (For (journal_view r) r.1.first (answers.Journal errors.Disk) → ⊥) → (answer : Answer) → For (journal_view r) r.1.first answer → IsForDisk on For before now answer
    for-disk never (answers.Journal errors.Disk) h = absurd (never h)
    for-disk never (answers.Journal errors.OutOfMemory) h = tt
    for-disk never (answers.Journal e) h = for-file (answers.Journal e) h
    for-disk never answers.OutOfMemory h = tt
    for-disk never answer h = for-file answer h

    pub for-opened : (For (journal_view r) r.1.first (answers.Journal errors.Disk) → ⊥) → (answer : Answer) → (answer ≡ answers.OutOfMemory) ⊎ For (journal_view r) r.1.first answer → IsForDisk on For before now answer
    for-opened never answer (inl memory) = subst (IsForDisk on For before now) (sym memory) tt
    for-opened never answer (inr h) = for-disk never answer h

  -- ---- a file that is not opened

  was-refused : (e : JournalError) (refusal : Refusal) (opened : HasOpened on now (Err e)) → IsRefusal e → journal_of opened.file ≡ Err refusal → error_of refusal ≡ e → IsForFile on For now (answers.Journal e)
  was-refused e refusal opened told read same = record {
    began = opened.began told;
    file = opened.file;
    is_file = opened.is_file;
    right = subst (λ x. MatchResult x (λ j. For j (after_head (frames_of opened.file)) (answers.Journal e)) (λ why. answers.Journal e ≡ answers.Journal (error_of why))) (sym read)
        (ap (λ (x : JournalError). answers.Journal x) (sym same));
  }

  pub for-unopened : (e : JournalError) → HasOpened on now (Err e) → (e ≡ errors.Disk → Rose (on.faults before) (on.faults now)) → IsForDisk on For before now (answers.Journal e)
  for-unopened errors.Disk opened rose = rose refl
  for-unopened errors.NotBegun opened rose = was-refused errors.NotBegun bytes.NotBegun opened tt opened.opens refl
  for-unopened errors.Exists opened rose = absurd opened.opens
  for-unopened (errors.Damaged offset) opened rose = was-refused (errors.Damaged offset) (bytes.Damaged offset) opened tt opened.opens refl
  for-unopened (errors.Malformed offset) opened rose = was-refused (errors.Malformed offset) (bytes.Malformed offset) opened tt opened.opens refl
  for-unopened (errors.Version found) opened rose = was-refused (errors.Version found) (bytes.Version found) opened tt opened.opens refl
  for-unopened (errors.NoSolution offset) opened rose = absurd opened.opens
  for-unopened errors.OutOfMemory opened rose = tt

  -- ---- the named file, from which nothing is written

  module _ (path : List ℕ) (attaches : Attaches on path before now) (unwritten : IsUnwritten on now) where
    pub reads-opened : (r : Head × RecordsView × Tail) → HasOpened on now (Ok r) → IsSome (on.start now) → (For (journal_view r) r.1.first (answers.Journal errors.Disk) → ⊥)
        → (answer : Answer) → (answer ≡ answers.OutOfMemory) ⊎ For (journal_view r) r.1.first answer → ReadsNamed on For path before now answer
    reads-opened r opened began never answer h = record { attaches = attaches; unwritten = unwritten; right = for-opened r opened began never answer h }

    pub reads-unopened : (e : JournalError) → HasOpened on now (Err e) → (e ≡ errors.Disk → Rose (on.faults before) (on.faults now)) → ReadsNamed on For path before now (answers.Journal e)
    reads-unopened e opened rose = record { attaches = attaches; unwritten = unwritten; right = for-unopened e opened rose }
