-- What a record leaves on a disk.
use Rattle.std.specs.Prelude.{◌⊎◌, ℕ, List, [], ◌∷◌, ◌++◌, Option, Some, None, IsTrue}
use Rattle.disk.specs.declared.disk.Disk.{Ghosts}
use Rattle.disk.specs.Disk.{LeavesOnly}
use Rattle.journal_bytes.specs.declared.tail.Tail.{Tail}
use Rattle.journal_bytes.specs.Bodies.{RecordView}
use Rattle.journal_bytes.specs.Journal.{HeadView, HasRecords}
use Rattle.journal_file.specs.Settled.{IsReady}

-- a file has these records, or these and one more
abbrev pub HasAtMost : HeadView → List RecordView → RecordView → List ℕ → Type 0
HasAtMost head records r file = HasRecords head records file ⊎ HasRecords head (records ++ r ∷ []) file

module _ {D : Type 0} (on : Ghosts D) where
  -- a record may be added, where there is a journal
  abbrev pub MayAddTo : D → Option Tail → Type 0
  MayAddTo disk None = Unit {0}
  MayAddTo disk (Some tail) = IsReady on.attached on.tells on.seen on.may_leave disk tail

  -- a crash at any moment from the one disk to the other leaves the records from before, or these and the new one
  abbrev pub LeavesAtMost : D → D → RecordView → Type 0
  LeavesAtMost before disk r = IsTrue (on.tells before) → (head : HeadView) (records : List RecordView) → HasRecords head records (on.seen before)
      → LeavesOnly on.moment on.left_since before disk (HasAtMost head records r)

  -- and at the end the new one is there
  abbrev pub Acknowledges : D → D → RecordView → Type 0
  Acknowledges before disk r = IsTrue (on.tells before) → (head : HeadView) (records : List RecordView) → HasRecords head records (on.seen before)
      → HasRecords head (records ++ r ∷ []) (on.seen disk)
