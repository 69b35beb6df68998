-- What a run leaves on its disk where it keeps a journal.
use Rattle.std.specs.Prelude.{◌≡◌, ◌≢◌, ◌⊎◌, ℕ, ℤ, ◌-◌, ◌^◌, ◌≤◌, ◌<◌, List, [], ◌∷◌, ◌++◌, length, Some, None, Result, Err, get_or, IsSome, IsSomeAnd, IfErr, IfOk, IsTrue}
use Rattle.disk.specs.declared.disk.Disk.{Ghosts}
use Rattle.disk.specs.Counts.{Rose}
use Rattle.disk.specs.Disk.{FirstSync, AtFirstSync}
use Rattle.dp_model.specs.Dp.{Dp}
use Rattle.board_laws.specs.Board.{BoardState}
use Rattle.board_laws.specs.Taking.{is_budget_up}
use Rattle.board_laws.specs.declared.cause.Cause.TheVariants.{Journal}
use Rattle.journal_bytes.specs.declared.refusal.Refusal.TheVariants.{NotBegun}
use Rattle.journal_bytes.specs.Bodies.{RecordView, RecordsView}
use Rattle.journal_bytes.specs.Frames.{frames_of}
use Rattle.journal_bytes.specs.declared.head.Head.{Head}
use Rattle.journal_bytes.specs.declared.tail.Tail.{Tail}
use Rattle.journal_bytes.specs.Journal.{HeadView, HasRecords, after_head, journal_of}
use Rattle.journal_file.specs.Beginning.{BeganAt, MayBegin}
use Rattle.journal_file.specs.Refusing.{IsRefusal, Opens}
use Rattle.journal_file.specs.declared.error.JournalError.{JournalError}
use Rattle.journal_file.specs.declared.error.JournalError.TheVariants as errors
use Rattle.journal_replay.specs.Accepting.{AreAccepted}
use Rattle.journal_replay.specs.Replay.{replay_of}
use Rattle.journal_replay.specs.Sound.{AreSound}
use Rattle.kept_board.specs.Kept.{HasFront}
use Rattle.kept_board.specs.Records.{AreAdded, IsFrontAdded, KeepUp, finish_records}

-- no journal has begun, or it has this head and a front of these records
abbrev pub HasBegun : HeadView → List RecordView → List ℕ → Type 0
HasBegun head written file = (journal_of file ≡ Err NotBegun) ⊎ HasFront head [] written file

-- each front of these records may stand after the old ones: all are accepted, and sound where the old ones are, and the incumbent is no worse
abbrev pub AreFrontsAdded : Dp → ℤ → List RecordView → List RecordView → Type 0
AreFrontsAdded dp within old written = (front others : List RecordView) → written ≡ front ++ others → IsFrontAdded dp within old front

-- each front of these records is accepted and sound
abbrev pub AreFrontsSound : Dp → ℤ → List RecordView → Type 0
AreFrontsSound dp within written = (front others : List RecordView) → written ≡ front ++ others → AreAccepted dp front × AreSound dp within front

-- a file has the old records and all that were written after them, or all but the last
abbrev pub HasAllButOne : HeadView → List RecordView → List RecordView → List ℕ → Type 0
HasAllButOne head old written file = HasRecords head (old ++ written) file
    ⊎ ((front : List RecordView) × (last : RecordView) × (written ≡ front ++ last ∷ []) × HasRecords head (old ++ front) file)

module _ {D : Type 0} (on : Ghosts D) where
  -- of a disk that tells its bytes: P of the first sync since the attaching; before that, nothing was written
  abbrev pub SinceAttached : D → (FirstSync → Type 0) → Type 0
  SinceAttached disk P = IsTrue (on.tells disk) → AtFirstSync (on.start disk) (on.found disk) (on.seen disk) P

  -- where the first sync found a file that has M, a crash at any moment since then has left one that has P
  abbrev pub Since : D → (List ℕ → Type 0) → (List ℕ → Type 0) → Type 0
  Since disk M P = SinceAttached disk (λ s. M s.content → (c : List ℕ) → on.left_since disk s.moment c → P c)

  -- it found a file in which a journal may begin
  abbrev pub MightBegin : D → Type 0
  MightBegin disk = SinceAttached disk (λ s. MayBegin s.content)

  -- nothing was written: a crash at any moment has left what it found
  abbrev pub IsUnwritten : D → Type 0
  IsUnwritten disk = SinceAttached disk (λ s. BeganAt on.moment on.left_since s disk s.content)

  -- where it found a file in which no journal may begin, nothing was written
  abbrev pub SparesOthers : D → Type 0
  SparesOthers disk = SinceAttached disk (λ s. MayBegin s.content ⊎ BeganAt on.moment on.left_since s disk s.content)

  -- the named file was attached, and no other, and the first sync found it as it was then; or the disk failed at that, and none was
  abbrev pub Attaches : List ℕ → D → D → Type 0
  Attaches path before now = ((on.names now ≡ on.names before ++ path ∷ []) × SinceAttached now (λ s. s.content ≡ on.found now))
      ⊎ ((on.names now ≡ on.names before) × (on.start now ≡ None) × Rose (on.faults before) (on.faults now))

  -- what was attached stays, with its first sync and what it was then
  pub record StaysAttached (before now : D) : Type 0 where
    pub still_tells : on.tells now ≡ on.tells before
    pub same_names : on.names now ≡ on.names before
    pub same_found : on.found now ≡ on.found before
    pub start : on.start now ≡ on.start before

  -- bytes were read, which are what the first sync found where the disk tells them: what was opened is what they read as, its first record stands after
  -- their head, and an error is their first cause, told only after the first sync
  pub record HasOpened (disk : D) (result : Result (Head × RecordsView × Tail) JournalError) : Type 0 where
    pub file : List ℕ
    pub is_file : SinceAttached disk (λ s. s.content ≡ file)
    pub opens : Opens result (journal_of file)
    pub first : IfOk result (λ r. r.1.first ≡ after_head (frames_of file))
    pub began : IfErr result (λ e. IsRefusal e → IsSome (on.start disk))

  -- what a search that begins leaves at any moment, however it ends
  abbrev pub LeavesBegun : HeadView → List RecordView → D → Type 0
  LeavesBegun head written disk = Since disk MayBegin (HasBegun head written)

  -- what a search that goes on leaves at any moment, however it ends
  abbrev pub LeavesResumed : HeadView → List RecordView → List RecordView → D → Type 0
  LeavesResumed head old written disk = Since disk (HasRecords head old) (HasFront head old written)

  -- The journal at the end of a search: after the old records stand those that the search added, which keep up with the board: replayed they
  -- give its incumbent and its open subproblems, and each subproblem that it finished has its record. A crash leaves them all, and one more at
  -- most, which may follow, and at which the disk has failed. Since the first sync it has left what Leaves says.
  pub record IsJournaled (dp : Dp) (head : HeadView) (old : List RecordView) (Leaves : List RecordView → D → Type 0) (disk : D) (b : BoardState) : Type 0 where
    pub added : List RecordView
    pub last : List RecordView
    pub at_most_one : length last ≤ 1
    pub none_last : b.cause ≢ Some Journal → last ≡ []
    pub keep_up : KeepUp dp old added b
    pub whole : AreAdded dp b.settings.within old (added ++ last)
    pub ends : (c : List ℕ) → on.may_leave disk c → HasRecords head (old ++ added) c ⊎ HasRecords head (old ++ (added ++ last)) c
    pub since : Leaves (added ++ last) disk
    pub spent : AreSound dp b.settings.within old → b.cause ≡ None → IsTrue (is_budget_up b)
        → (b.settings.budget ≤ finish_records added) ⊎ (2 ^ 64 - 2 ^ 29 < (replay_of dp (old ++ added)).next_ticket)

  -- a call of the disk has failed after the first sync
  abbrev pub HasDiskFailed : D → Type 0
  HasDiskFailed now = IsSomeAnd (on.start now) (λ s. Rose s.faults (on.faults now))

  -- the board is kept: it is halted for the journal only where the disk has failed since then
  pub record HasKept (dp : Dp) (head : HeadView) (old : List RecordView) (Leaves : List RecordView → D → Type 0) (now : D) (b : BoardState) : Type 0 where
    pub rose : b.cause ≡ Some Journal → HasDiskFailed now
    pub journal : IsTrue (on.tells now) → IsJournaled dp head old Leaves now b

  -- why no journal is begun: the disk has failed, before any record was added; or the file has two or more bytes of which the first is not 0, and
  -- then nothing was written
  abbrev pub IsRefusedToBegin : HeadView → D → D → JournalError → Type 0
  IsRefusedToBegin head before now errors.Disk = Rose (on.faults before) (on.faults now) × LeavesBegun head [] now
  IsRefusedToBegin head before now errors.Exists = IsSome (on.start now) × IsUnwritten now × SinceAttached now (λ s. (2 ≤ length s.content) × (get_or s.content 0 0 ≢ 0))
  IsRefusedToBegin head before now errors.OutOfMemory = Unit {0}
  IsRefusedToBegin head before now _ = ⊥

  -- what the first sync found is as it was where no journal may begin in it; and else a crash at any moment since then has left no journal or this head
  -- with a front of some records, which a search adds itself; each front of them is accepted and sound; and at the end it leaves all of them, or all but the last
  pub record HasLeftBegun (dp : Dp) (head : HeadView) (now : D) : Type 0 where
    pub written : List RecordView
    pub spared : SparesOthers now
    pub added : AreAdded dp head.within [] written
    pub fronts : AreFrontsSound dp head.within written
    pub since : LeavesBegun head written now
    pub ends : IsTrue (on.tells now) → (written ≡ []) ⊎ ((c : List ℕ) → on.may_leave now c → HasAllButOne head [] written c)

  -- what a search has left that went on from these old records, which that sync found: at any moment these and a front of those that it wrote, and at
  -- the end all of them, or all but the last
  pub record HasGoneOn (Follows : Type 0) (head : HeadView) (old written : List RecordView) (now : D) (s : FirstSync) : Type 0 where
    pub since : (c : List ℕ) → on.left_since now s.moment c → HasFront head old written c
    pub follow : Follows
    pub ends : (written ≡ []) ⊎ ((c : List ℕ) → on.may_leave now c → HasAllButOne head old written c)
