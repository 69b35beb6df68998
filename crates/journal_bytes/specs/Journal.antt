-- What a file reads as, or the first cause for which it is refused.
use Rattle.std.specs.Prelude.{◌≡◌, ℕ, ◌+◌, ◌-◌, ◌^◌, min, ℤ, pos, int_le, nat_le, Bool, ◌&&◌, ◌||◌, ◌==◌, if◌then◌else◌, List, [], ◌∷◌, length, Option, Some, None, Result, Ok, Err}
use Rattle.std.specs.Int.{w32, w64, cast_signed}
use Rattle.journal_bytes.specs.declared.frames.TheConstants.{FRAME_OVERHEAD}
use Rattle.journal_bytes.specs.declared.refusal.Refusal.{Refusal}
use Rattle.journal_bytes.specs.declared.refusal.Refusal.TheVariants.{NotBegun, Damaged, Malformed, Version, OutOfMemory}
use Rattle.journal_bytes.specs.declared.body.BodyError.{BodyError}
use Rattle.journal_bytes.specs.declared.body.BodyError.TheVariants as bodies
use Rattle.problem_names.specs.declared.ModelName.{ModelName}
use Rattle.problem_names.specs.ModelNames.{model_of_byte}
use Rattle.journal_bytes.specs.declared.head.Head.{Head}
use Rattle.journal_bytes.specs.declared.head.Part.{Part}
use Rattle.journal_bytes.specs.declared.head.TheConstants.{VERSION, PART_VERSION, MOST_WITHIN}
use Rattle.journal_bytes.specs.declared.tail.Tail.{Tail}
use Rattle.journal_bytes.specs.Frames.{Frame, Reading, reading_of}
use Rattle.journal_bytes.specs.Bodies.{RecordView, RecordsView, Improve, Finish, Snapshot, number_at, part_at, record_of}

infixl 10 ◌>>=◌
abbrev pub ◌>>=◌ : {A B : Type 0} → Result A Refusal → (A → Result B Refusal) → Result B Refusal
(Ok x) >>= f = f x
(Err e) >>= f = Err e

-- the version of the records, the distance of the search, the problem, the part of a search, or none where the journal is of a whole one, and the
-- text of the instance
pub record HeadView : Type 0 where
  pub version : ℕ
  pub within : ℤ
  pub model : ModelName
  pub part : Option Part
  pub text : List ℕ

-- a head, the records after it, and where they end
pub record JournalView : Type 0 where
  pub head : HeadView
  pub records : List RecordView
  pub tail : Tail

-- what was read, or the refusal at this offset
abbrev pub or_malformed : {A : Type 0} → ℕ → Option A → Result A Refusal
or_malformed at (Some x) = Ok x
or_malformed at None = Err (Malformed at)

-- the problem by its byte, and what stands after that
unfoldable pub model_at : List ℕ → Option (ModelName × List ℕ)
model_at [] = None
model_at (b ∷ rest) = elim (model_of_byte b) [ None ↦ None | Some m ↦ Some (m, rest) ]

-- a length and this many bytes, and nothing after them
unfoldable pub text_of : List ℕ → Option (List ℕ)
text_of bytes = elim (number_at w32 bytes) [ None ↦ None | Some n ↦ if length n.1 == n.0 then Some n.1 else None ]

-- whether a head may have the distance
abbrev pub is_distance : ℤ → Bool
is_distance within = int_le (pos 0) within && int_le within MOST_WITHIN

-- a distance, and what stands after it
unfoldable pub distance_at : List ℕ → Option (ℤ × List ℕ)
distance_at bytes = elim (number_at w64 bytes) [ None ↦ None | Some n ↦ if is_distance (cast_signed w64 n.0) then Some (cast_signed w64 n.0, n.1) else None ]

-- the distance of a head of this version, and what stands after it: heads of the first version have none, and theirs is 0
unfoldable pub within_at : ℕ → List ℕ → Option (ℤ × List ℕ)
within_at version bytes = if version == 1 then Some (pos 0, bytes) else distance_at bytes

-- the part that the head of a journal of this version has, and what stands after it: there is one in the version for parts alone
unfoldable pub mark_at : ℕ → List ℕ → Option (Option Part × List ℕ)
mark_at version bytes = if version == PART_VERSION then (elim (part_at bytes) [ None ↦ None | Some p ↦ Some (Some p.0, p.1) ]) else Some (None, bytes)

-- whether journals of the version are read
abbrev pub is_version : ℕ → Bool
is_version version = version == 1 || version == VERSION || version == PART_VERSION

-- the version of the records in a journal of this version: those of a part are of the newest one
abbrev pub version_of_records : ℕ → ℕ
version_of_records version = if version == 1 then 1 else VERSION

-- the head that a frame spells
unfoldable pub head_of : Frame → Result HeadView Refusal
head_of f = if f.kind == 1 then (or_malformed 0 (number_at w32 f.body) >>= λ version.
    if is_version version.0 then (or_malformed 0 (model_at version.1) >>= λ model. or_malformed 0 (within_at version.0 model.1) >>= λ within. or_malformed 0 (mark_at version.0 within.1) >>= λ part.
    or_malformed 0 (text_of part.1) >>= λ text. Ok (record { version = version_of_records version.0; within = within.0; model = model.0; part = part.0; text = text })) else Err (Version version.0)) else Err (Malformed 0)

-- the records of the frames from this offset on, of this version
unfoldable pub records_from : ℕ → ℕ → List Frame → Result (List RecordView) Refusal
records_from version at [] = Ok []
records_from version at (f ∷ fs) = or_malformed at (record_of version f) >>= λ e. records_from version (at + (FRAME_OVERHEAD + length f.body)) fs >>= λ es. Ok (e ∷ es)

-- how many subproblems were finished since the last snapshot, with one record more; the count stops at the greatest number of 64 bits
abbrev pub since_after : ℕ → RecordView → ℕ
since_after n (Improve value ds) = n
since_after n (Finish ticket cs) = min (n + 1) (2 ^ 64 - 1)
since_after n (Snapshot best next os) = 0

-- with those of a list
abbrev pub since_all : ℕ → List RecordView → ℕ
since_all n [] = n
since_all n (r ∷ rs) = since_all (since_after n r) rs

-- where a reading with these records of this version ends
abbrev pub tail_of : Reading → ℕ → List RecordView → Tail
tail_of r version records = record { end = r.end; digest = r.digest; version = version; since = since_all 0 records }

-- a tail has the version of the head, and counts the subproblems that were finished since the last snapshot
pub record IsCounted (tail : Tail) (head : HeadView) (records : List RecordView) : Type 0 where
  pub version : tail.version ≡ head.version
  pub since : tail.since ≡ since_all 0 records

-- the journal of a reading
unfoldable pub journal_in : Reading → Result JournalView Refusal
journal_in r = elim r.frames [
  | [] ↦ if r.is_whole then Err NotBegun else Err (Damaged r.end)
  | f ∷ fs ↦ head_of f >>= λ head. records_from head.version (FRAME_OVERHEAD + length f.body) fs >>= λ records.
      if r.is_whole then Ok (record { head = head; records = records; tail = tail_of r head.version records }) else Err (Damaged r.end)
]

-- what a file reads as
unfoldable pub journal_of : List ℕ → Result JournalView Refusal
journal_of file = if nat_le (length file) 1 then Err NotBegun else journal_in (reading_of file)

-- a file reads as this head with these records
abbrev pub HasRecords : HeadView → List RecordView → List ℕ → Type 0
HasRecords head records file = (tail : Tail) × (journal_of file ≡ Ok (record { head = head; records = records; tail = tail }))

-- a head with records of this version as its readers see it
abbrev pub head_view : ℕ → Head → HeadView
head_view version h = record { version = version; within = h.within; model = h.model; part = h.part; text = h.text.items }

-- the head of a journal of the newest version
abbrev pub new_head : Head → HeadView
new_head h = head_view VERSION h

-- a journal as its readers see it
abbrev pub journal_view : Head × RecordsView × Tail → JournalView
journal_view j = record { head = head_view j.2.version j.0; records = j.1.records; tail = j.2 }

-- the offset of the gate after the first frame, that of the head
abbrev pub after_head : List Frame → ℕ
after_head [] = 0
after_head (f ∷ fs) = FRAME_OVERHEAD + length f.body

-- what a reader gives is what stands there, unless memory ran out
abbrev pub Refuses : {Y : Type 0} → Refusal → Result Y Refusal → Type 0
Refuses OutOfMemory read = Unit {0}
Refuses e read = read ≡ Err e

-- what is read is what stands there, and an error is its cause
abbrev pub Gives : {X Y : Type 0} → (X → Y) → Result X Refusal → Result Y Refusal → Type 0
Gives view (Ok x) read = read ≡ Ok (view x)
Gives view (Err e) read = Refuses e read

-- the refusal of a body at an offset
abbrev pub placed_at : BodyError → ℕ → Refusal
placed_at bodies.Malformed offset = Malformed offset
placed_at bodies.OutOfMemory offset = OutOfMemory
