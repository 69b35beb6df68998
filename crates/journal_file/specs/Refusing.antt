-- What a journal is opened as, and why one is not opened.
use Rattle.std.specs.Prelude.{◌≡◌, ℕ, List, Bool, IsTrue, Result, Ok, Err, IfOk}
use Rattle.journal_bytes.specs.declared.head.Head.{Head}
use Rattle.journal_bytes.specs.declared.refusal.Refusal.{Refusal}
use Rattle.journal_bytes.specs.declared.refusal.Refusal.TheVariants as bytes
use Rattle.journal_bytes.specs.declared.tail.Tail.{Tail}
use Rattle.journal_bytes.specs.Bodies.{RecordsView}
use Rattle.journal_bytes.specs.Frames.{frames_of}
use Rattle.journal_bytes.specs.Journal.{JournalView, after_head, journal_of, journal_view}
use Rattle.journal_file.specs.declared.append_error.AppendError.{AppendError}
use Rattle.journal_file.specs.declared.append_error.AppendError.TheVariants as appending
use Rattle.journal_file.specs.declared.error.JournalError.{JournalError}
use Rattle.journal_file.specs.declared.error.JournalError.TheVariants as errors

-- the error for bytes that are refused
abbrev pub error_of : Refusal → JournalError
error_of bytes.NotBegun = errors.NotBegun
error_of (bytes.Damaged offset) = errors.Damaged offset
error_of (bytes.Malformed offset) = errors.Malformed offset
error_of (bytes.Version found) = errors.Version found
error_of bytes.OutOfMemory = errors.OutOfMemory

-- the error where a head was not added
abbrev pub error_of_append : AppendError → JournalError
error_of_append appending.Disk = errors.Disk
error_of_append appending.OutOfMemory = errors.OutOfMemory

-- the error is what these bytes are refused for, unless the disk failed or memory ran out
abbrev pub IsCause : JournalError → Result JournalView Refusal → Type 0
IsCause errors.Disk read = Unit {0}
IsCause errors.NotBegun read = read ≡ Err bytes.NotBegun
IsCause errors.Exists read = ⊥
IsCause (errors.Damaged offset) read = read ≡ Err (bytes.Damaged offset)
IsCause (errors.Malformed offset) read = read ≡ Err (bytes.Malformed offset)
IsCause (errors.Version found) read = read ≡ Err (bytes.Version found)
IsCause (errors.NoSolution offset) read = ⊥
IsCause errors.OutOfMemory read = Unit {0}

-- a journal that was opened is what the bytes read as, and each error their first cause
abbrev pub Opens : Result (Head × RecordsView × Tail) JournalError → Result JournalView Refusal → Type 0
Opens (Ok journal) read = read ≡ Ok (journal_view journal)
Opens (Err e) read = IsCause e read

-- Some bytes were read, those of the file where the disk tells them: what was opened is what they read as, its first record
-- stands after their head, and an error is their first cause. Where no bytes were read, any will do.
pub record WasOpened (tells : Bool) (seen : List ℕ) (result : Result (Head × RecordsView × Tail) JournalError) : Type 0 where
  pub file : List ℕ
  pub is_file : IsTrue tells → file ≡ seen
  pub opens : Opens result (journal_of file)
  pub first : IfOk result (λ r. r.1.first ≡ after_head (frames_of file))

-- the error is told of the bytes that were read
abbrev pub IsRefusal : JournalError → Type 0
IsRefusal errors.Disk = ⊥
IsRefusal errors.NotBegun = Unit {0}
IsRefusal errors.Exists = Unit {0}
IsRefusal (errors.Damaged offset) = Unit {0}
IsRefusal (errors.Malformed offset) = Unit {0}
IsRefusal (errors.Version found) = Unit {0}
IsRefusal (errors.NoSolution offset) = Unit {0}
IsRefusal errors.OutOfMemory = ⊥

-- the errors for which no journal is begun
abbrev pub KeepsFromBeginning : JournalError → Type 0
KeepsFromBeginning errors.Disk = Unit {0}
KeepsFromBeginning errors.NotBegun = ⊥
KeepsFromBeginning errors.Exists = Unit {0}
KeepsFromBeginning (errors.Damaged offset) = ⊥
KeepsFromBeginning (errors.Malformed offset) = ⊥
KeepsFromBeginning (errors.Version found) = ⊥
KeepsFromBeginning (errors.NoSolution offset) = ⊥
KeepsFromBeginning errors.OutOfMemory = Unit {0}
