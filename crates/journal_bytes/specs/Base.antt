-- The base of records: the last snapshot, or the start of the search where there is none.
use Rattle.std.specs.Prelude.{ℕ, ◌+◌, cond, Bool, true, false, ◌||◌, List, [], ◌∷◌}
use Rattle.journal_bytes.specs.Bodies.{RecordView, Improve, Finish, Snapshot}
use Rattle.journal_bytes.specs.Spelling.{record_size}
use Rattle.journal_bytes.specs.declared.frames.TheConstants.{FRAME_OVERHEAD}

-- whether the record is a snapshot
abbrev pub is_snapshot : RecordView → Bool
is_snapshot (Improve value ds) = false
is_snapshot (Finish ticket cs) = false
is_snapshot (Snapshot best next os) = true

-- whether one of the records is
abbrev pub have_snapshot : List RecordView → Bool
have_snapshot [] = false
have_snapshot (r ∷ rs) = is_snapshot r || have_snapshot rs

-- the records from the last snapshot on, or all of them where there is none
abbrev pub from_base : List RecordView → List RecordView
from_base [] = []
from_base (r ∷ rs) = cond (have_snapshot rs) (from_base rs) (r ∷ rs)

-- the records after the last snapshot, or all of them where there is none
abbrev pub after_base : List RecordView → List RecordView
after_base [] = []
after_base (r ∷ rs) = cond (have_snapshot rs) (after_base rs) (cond (is_snapshot r) rs (r ∷ rs))

-- the offset of the gate after that of a record at this offset
abbrev pub following_record : ℕ → RecordView → ℕ
following_record at r = at + (FRAME_OVERHEAD + record_size r)

-- the offset of the first record from the base on, where the records begin at this offset
abbrev pub base_offset : ℕ → List RecordView → ℕ
base_offset at [] = at
base_offset at (r ∷ rs) = cond (have_snapshot rs) (base_offset (following_record at r) rs) at
