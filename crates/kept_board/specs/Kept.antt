-- The journal of a kept board on its disk.
use Rattle.std.specs.Prelude.{◌≡◌, ◌≢◌, ◌⊎◌, ℕ, ◌≤◌, List, [], ◌∷◌, ◌++◌, Option, Some, None, IsTrue}
use Rattle.disk.specs.declared.disk.Disk.{Ghosts}
use Rattle.disk.specs.Counts.{Rose}
use Rattle.disk.specs.Disk.{FirstSync, LeavesOnly}
use Rattle.dp_model.specs.Dp.{Dp}
use Rattle.dp_model.specs.Laws.{IsLawful}
use Rattle.board_laws.specs.Board.{BoardState}
use Rattle.board_laws.specs.declared.cause.Cause.TheVariants.{Journal}
use Rattle.journal_bytes.specs.declared.tail.Tail.{Tail}
use Rattle.journal_bytes.specs.Bodies.{RecordView}
use Rattle.journal_bytes.specs.Journal.{HeadView, HasRecords}
use Rattle.journal_file.specs.Settled.{IsOpen}
use Rattle.kept_board.specs.Records.{IsMadeOf, AreAdded, KeepUp}

-- a file that has the old records, and of the new ones a front
pub record HasFront (head : HeadView) (old new : List RecordView) (file : List ℕ) : Type 0 where
  pub front : List RecordView
  pub others : List RecordView
  pub parts : new ≡ front ++ others
  pub reads : HasRecords head (old ++ front) file

-- the journal is that of the board and of its distance, and a record may be added
pub record IsJournalOf (dp : Dp) (b : BoardState) (file : List ℕ) (may_leave : List ℕ → Type 0) (tail : Tail) : Type 0 where
  pub is_open : IsOpen file may_leave tail
  pub head : HeadView
  pub records : List RecordView
  pub reads : HasRecords head records file
  pub within : b.settings.within ≡ head.within
  pub made : IsMadeOf dp records b

module _ {D : Type 0} (on : Ghosts D) where
  -- a board may be kept on the disk: with no journal any, and with one that of which it was made
  abbrev pub MayKeep : Dp → BoardState → D → Option Tail → Type 0
  MayKeep dp b disk None = Unit {0}
  MayKeep dp b disk (Some tail) = IsTrue (on.attached disk) × (IsTrue (on.tells disk) → IsJournalOf dp b (on.seen disk) (on.may_leave disk) tail)

  -- A crash at any moment since the making has left the records from then and a front of the new ones; and one since an earlier
  -- moment has left that, or what it might have left before the making.
  abbrev pub LeftFronts : D → D → HeadView → List RecordView → List RecordView → Type 0
  LeftFronts made disk head old new = LeavesOnly on.moment on.left_since made disk (HasFront head old new)

  -- The journal keeps up with the board: it has the records from the making and new ones, all on the disk.
  pub record IsCurrent (dp : Dp) (b : BoardState) (made disk : D) (tail : Tail) : Type 0 where
    pub head : HeadView
    pub within : b.settings.within ≡ head.within
    pub old : List RecordView
    pub new : List RecordView
    pub from : HasRecords head old (on.seen made)
    pub is_open : IsOpen (on.seen disk) (on.may_leave disk) tail
    pub reads : HasRecords head (old ++ new) (on.seen disk)
    pub keep_up : KeepUp dp old new b
    pub since : LeftFronts made disk head old new

  -- The journal has failed at the last of the records: those before it keep up with the board, and a crash leaves them and the
  -- last one, or them alone.
  pub record IsBroken (dp : Dp) (b : BoardState) (made disk : D) : Type 0 where
    pub head : HeadView
    pub within : b.settings.within ≡ head.within
    pub old : List RecordView
    pub new : List RecordView
    pub last : RecordView
    pub from : HasRecords head old (on.seen made)
    pub keep_up : KeepUp dp old new b
    pub added : AreAdded dp b.settings.within old (new ++ last ∷ [])
    pub since : LeftFronts made disk head old (new ++ last ∷ [])
    pub left : (c : List ℕ) → on.may_leave disk c → HasRecords head (old ++ new) c ⊎ HasRecords head (old ++ (new ++ last ∷ [])) c

  -- records may be added
  pub record Goes (dp : Dp) (b : BoardState) (made disk : D) (tail : Tail) : Type 0 where
    pub cause : b.cause ≢ Some Journal
    pub is_attached : IsTrue (on.attached disk)
    pub current : IsTrue (on.tells disk) → IsCurrent dp b made disk tail

  -- the disk has failed since the making, and the search is halted for that
  pub record HasStopped (dp : Dp) (b : BoardState) (made disk : D) : Type 0 where
    pub cause : b.cause ≡ Some Journal
    pub rose : Rose (on.faults made) (on.faults disk)
    pub broken : IsTrue (on.tells disk) → IsBroken dp b made disk

  pub record HasJournal (dp : Dp) (b : BoardState) (made disk : D) (tail : Tail) : Type 0 where
    pub faults : on.faults made ≤ on.faults disk
    pub still_tells : on.tells disk ≡ on.tells made
    pub same_names : on.names disk ≡ on.names made
    pub same_found : on.found disk ≡ on.found made
    pub start : (s : FirstSync) → on.start made ≡ Some s → on.start disk ≡ Some s
    pub state : Goes dp b made disk tail ⊎ HasStopped dp b made disk

  -- without a journal the board is not halted for one, and the disk is as it was at the making
  abbrev pub KeepsJournal : Dp → BoardState → D → D → Option Tail → Type 0
  KeepsJournal dp b made disk None = (b.cause ≢ Some Journal) × (disk ≡ made)
  KeepsJournal dp b made disk (Some tail) = HasJournal dp b made disk tail

  -- what a kept board keeps: the laws of its instance, and its journal
  pub record IsKept (dp : Dp) (b : BoardState) (made disk : D) (tail : Option Tail) : Type 0 where
    pub lawful : IsLawful dp
    pub journal : KeepsJournal dp b made disk tail
