-- What the last sync has put on a disk in memory.
use Rattle.std.specs.Prelude.{ℕ, List, Option, Some, None, Vec}
use Rattle.std.specs.declared.alloc.Global.{Global}

-- what is kept of it, else the bytes as they are
abbrev pub synced_or : Option (Vec ℕ Global) → List ℕ → List ℕ
synced_or None bytes = bytes
synced_or (Some synced) bytes = synced.items
