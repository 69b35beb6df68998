-- How a journal begins.
use Rattle.std.specs.Prelude.{◌≡◌, ◌⊎◌, ◌≤◌, ℕ, Bool, true, false, List, [], length, get_or, Err}
use Rattle.journal_bytes.specs.declared.refusal.Refusal.TheVariants.{NotBegun}
use Rattle.disk.specs.Disk.{FirstSync}
use Rattle.journal_bytes.specs.Journal.{HeadView, HasRecords, journal_of}

-- whether the file has two bytes or more, of which the first is 0; else it has fewer
abbrev pub IsProbed : Bool → List ℕ → Type 0
IsProbed true file = (2 ≤ length file) × (get_or file 0 0 ≡ 0)
IsProbed false file = length file ≤ 1

-- since that sync a crash at any moment leaves a file that has P
pub record LeavesSince {D : Type 0} (moment : D → ℕ) (left_since : D → ℕ → List ℕ → Type 0) (s : FirstSync) (disk : D) (P : List ℕ → Type 0) : Type 0 where
  pub earlier : s.moment ≤ moment disk
  pub each : (c : List ℕ) → left_since disk s.moment c → P c

-- that sync put this file on the disk, and since then a crash leaves it alone
pub record BeganAt {D : Type 0} (moment : D → ℕ) (left_since : D → ℕ → List ℕ → Type 0) (s : FirstSync) (disk : D) (file : List ℕ) : Type 0 where
  pub content : s.content ≡ file
  pub leaves : LeavesSince moment left_since s disk (λ c. c ≡ file)

-- a file in which a journal may begin
abbrev pub MayBegin : List ℕ → Type 0
MayBegin file = IsProbed true file ⊎ IsProbed false file

-- no journal has begun in a file, or it has this head and no records
abbrev pub IsBegun : HeadView → List ℕ → Type 0
IsBegun head file = (journal_of file ≡ Err NotBegun) ⊎ HasRecords head [] file
