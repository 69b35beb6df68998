-- A disk in memory.
use Rattle.std.specs.Prelude.{◌≡◌, ◌⊎◌, ◌-◌, ℕ, List, Bool, Option, Some, None, Contains}
use Rattle.std.specs.declared.snapshot.Snapshot.{Snapshot}
use Rattle.streams.specs.Counts.{next_count}
use Rattle.disk.specs.Content.{ContentView}
use Rattle.disk.specs.Disk.{FirstSync}

-- The file and the contents that it has had, the first sync since the attaching, what a read gave at that, the names under which
-- the file was attached, whether it is, the numbers
-- of the calls that fail, how many calls were made, how many pass before each one fails, and how many have failed.
pub record MemDiskView : Type 0 where
  pub content : ContentView
  pub past : List (Snapshot ContentView)
  pub start : Option FirstSync
  pub found : List ℕ
  pub names : List (List ℕ)
  pub is_attached : Bool
  pub failing : List ℕ
  pub calls : ℕ
  pub fuse : Option ℕ
  pub faults : ℕ

-- the call of this number is listed, or the fuse has blown
abbrev pub Fails : List ℕ → ℕ → Option ℕ → Type 0
Fails failing call fuse = Contains failing call ⊎ (fuse ≡ Some 0)

-- the next call is to fail
abbrev pub IsToFail : MemDiskView → Type 0
IsToFail d = Fails d.failing d.calls d.fuse

-- one call fewer passes
abbrev pub fewer : Option ℕ → Option ℕ
fewer None = None
fewer (Some n) = Some (n - 1)

-- one call more was made
abbrev pub called : MemDiskView → MemDiskView
called d = record d { calls = next_count d.calls; fuse = fewer d.fuse }

-- one call more was made, and failed
abbrev pub failed : MemDiskView → MemDiskView
failed d = record (called d) { faults = next_count d.faults }
