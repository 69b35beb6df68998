-- The bodies of records: their fields from left to right, each as a value and the bytes after it. Where a field is not
-- there, there is none.
use Rattle.std.specs.Prelude.{ℕ, zero, suc, ◌-◌, ◌^◌, ℤ, nat_le, nat_lt, ◌==◌, ◌&&◌, ◌||◌, if◌then◌else◌, List, [], ◌∷◌, length, take, drop, Option, Some, None}
use Rattle.std.specs.Int.{Width, w32, w64, byte_len, from_be_bytes, cast_signed}
use Rattle.journal_bytes.specs.Frames.{Frame}
use Rattle.journal_bytes.specs.declared.head.Part.{Part}
use Rattle.journal_bytes.specs.declared.head.TheConstants.{VERSION}

infixl 10 ◌>>=◌
abbrev pub ◌>>=◌ : {A B : Type 0} → Option A → (A → Option B) → Option B
(Some x) >>= f = f x
None >>= f = None

-- a child that entered or replaced, with the ticket that it replaced
pub record ChildView : Type 0 where
  pub replaced : Option ℕ
  pub bound : ℤ
  pub decisions : List ℕ

-- the best solution of a snapshot, with its value
pub record IncumbentView : Type 0 where
  pub value : ℤ
  pub decisions : List ℕ

-- an open or checked-out subproblem of a snapshot, with its ticket
pub record ListedView : Type 0 where
  pub ticket : ℕ
  pub bound : ℤ
  pub decisions : List ℕ

-- a better solution with its value, a subproblem that is finished, with its children, or a snapshot: the best solution, the next
-- ticket, and all subproblems that are open or out
pub data RecordView : Type 0 where
  Improve : ℤ → List ℕ → RecordView
  Finish : ℕ → List ChildView → RecordView
  Snapshot : Option IncumbentView → ℕ → List ListedView → RecordView

-- the distance of a journal's head, the offset of the gate of the first record after it, and the records, the oldest first
pub record RecordsView : Type 0 where
  pub within : ℤ
  pub first : ℕ
  pub records : List RecordView

-- a number of this width, and the bytes after it
abbrev pub number_at : Width → List ℕ → Option (ℕ × List ℕ)
number_at w bytes = if nat_lt (length bytes) (byte_len w) then None else Some (from_be_bytes w (take (byte_len w) bytes), drop (byte_len w) bytes)

-- a part: its number, which is less than that of the parts, how many parts there are, and a digest
unfoldable pub part_at : List ℕ → Option (Part × List ℕ)
part_at bytes = do
  index ← number_at w32 bytes
  of ← number_at w32 index.1
  if nat_lt (length of.1) 32 || nat_le of.0 index.0 then None else Some (record { index = index.0; of = of.0; digest = take 32 of.1 }, drop 32 of.1)

-- this many items, one after the other
unfoldable pub many : {A : Type 0} → (List ℕ → Option (A × List ℕ)) → ℕ → List ℕ → Option (List A × List ℕ)
many item zero bytes = Some ([], bytes)
many item (suc n) bytes = do
  first ← item bytes
  others ← many item n first.1
  Some (first.0 ∷ others.0, others.1)

-- a count, and this many decisions
unfoldable pub decisions_at : List ℕ → Option (List ℕ × List ℕ)
decisions_at bytes = do
  count ← number_at w32 bytes
  many (number_at w32) count.0 count.1

-- a ticket, or none for the greatest number
abbrev pub ticket_of : ℕ → Option ℕ
ticket_of n = if n == 2 ^ 64 - 1 then None else Some n

-- a child, and the bytes after it
unfoldable pub child_at : List ℕ → Option (ChildView × List ℕ)
child_at bytes = do
  replaced ← number_at w64 bytes
  bound ← number_at w64 replaced.1
  decisions ← decisions_at bound.1
  Some (record { replaced = ticket_of replaced.0; bound = cast_signed w64 bound.0; decisions = decisions.0 }, decisions.1)

-- all of the body
unfoldable pub improve_of : List ℕ → Option RecordView
improve_of body = do
  value ← number_at w64 body
  decisions ← decisions_at value.1
  if length decisions.1 == 0 then Some (Improve (cast_signed w64 value.0) decisions.0) else None

-- a finished subproblem
unfoldable pub finish_of : List ℕ → Option RecordView
finish_of body = do
  ticket ← number_at w64 body
  count ← number_at w32 ticket.1
  children ← many child_at count.0 count.1
  if length children.1 == 0 then Some (Finish ticket.0 children.0) else None

-- the best solution, and the bytes after it
unfoldable pub incumbent_at : List ℕ → Option (IncumbentView × List ℕ)
incumbent_at bytes = do
  value ← number_at w64 bytes
  decisions ← decisions_at value.1
  Some (record { value = cast_signed w64 value.0; decisions = decisions.0 }, decisions.1)

-- the byte 0 for none, or the byte 1 and the best solution
unfoldable pub best_at : List ℕ → Option (Option IncumbentView × List ℕ)
best_at [] = None
best_at (b ∷ rest) = if b == 0 then Some (None, rest) else (if b == 1 then (incumbent_at rest >>= λ x. Some (Some x.0, x.1)) else None)

-- a subproblem of a snapshot, and the bytes after it
unfoldable pub listed_at : List ℕ → Option (ListedView × List ℕ)
listed_at bytes = do
  ticket ← number_at w64 bytes
  bound ← number_at w64 ticket.1
  decisions ← decisions_at bound.1
  Some (record { ticket = ticket.0; bound = cast_signed w64 bound.0; decisions = decisions.0 }, decisions.1)

-- a snapshot
unfoldable pub snapshot_of : List ℕ → Option RecordView
snapshot_of body = do
  best ← best_at body
  next ← number_at w64 best.1
  count ← number_at w32 next.1
  listed ← many listed_at count.0 count.1
  if length listed.1 == 0 then Some (Snapshot best.0 next.0 listed.0) else None

-- the record of a frame after the head of a journal of this version: the first version has no snapshots
unfoldable pub record_of : ℕ → Frame → Option RecordView
record_of version f = if f.kind == 2 then improve_of f.body else (if f.kind == 3 then finish_of f.body else (if f.kind == 4 && version == VERSION then snapshot_of f.body else None))
