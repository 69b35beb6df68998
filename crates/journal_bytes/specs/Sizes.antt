-- The sizes of bodies, and numbers that may be too great to be counted.
use Rattle.std.specs.Prelude.{◌≡◌, ℕ, ◌+◌, ◌^◌, ◌≤◌, length, Option, None, Some}
use Rattle.journal_bytes.specs.Journal.{HeadView}
use Rattle.journal_bytes.specs.Spelling.{mark_size}

-- how many bytes the body of the head of a new journal has
abbrev pub head_size : HeadView → ℕ
head_size h = 17 + mark_size h.part + length h.text

-- the number is counted, or it does not fit in 64 bits
abbrev pub IsCount : ℕ → Option ℕ → Type 0
IsCount total None = 2 ^ 64 ≤ total
IsCount total (Some n) = n ≡ total
