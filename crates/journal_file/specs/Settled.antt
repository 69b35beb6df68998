-- A journal on a disk to which a record may be added.
use Rattle.std.specs.Prelude.{ℕ, List, Bool, IsTrue}
use Rattle.disk.specs.Disk.{Only}
use Rattle.journal_bytes.specs.declared.tail.Tail.{Tail}
use Rattle.journal_bytes.specs.Bodies.{RecordView}
use Rattle.journal_bytes.specs.Ends.{EndsAt}
use Rattle.journal_bytes.specs.Frames.{Frame, frames_of}
use Rattle.journal_bytes.specs.Journal.{HeadView, HasRecords, IsCounted}

-- The file is these frames and a closed gate where the tail says, all of it on the disk.
pub record IsSettled (file : List ℕ) (may_leave : List ℕ → Type 0) (tail : Tail) (frames : List Frame) : Type 0 where
  pub ends : EndsAt file tail frames
  pub durable : Only file may_leave

-- The file is a journal that ends where the tail says, all of it on the disk.
pub record IsOpen (file : List ℕ) (may_leave : List ℕ → Type 0) (tail : Tail) : Type 0 where
  pub settled : IsSettled file may_leave tail (frames_of file)
  pub head : HeadView
  pub records : List RecordView
  pub reads : HasRecords head records file
  pub counted : IsCounted tail head records

-- A disk and a tail with which a record may be added.
pub record IsReady {D : Type 0} (attached tells : D → Bool) (seen : D → List ℕ) (may_leave : D → List ℕ → Type 0) (disk : D) (tail : Tail) : Type 0 where
  pub is_attached : IsTrue (attached disk)
  pub is_open : IsTrue (tells disk) → IsOpen (seen disk) (may_leave disk) tail
