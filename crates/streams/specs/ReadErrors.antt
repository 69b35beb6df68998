-- How a reading ends.
use Rattle.std.specs.Prelude.{◌≡◌, ℕ, ◌+◌, ◌≤◌, Bool, true, false, Result, Err}
use Rattle.streams.specs.declared.reading.ReadError.{ReadError}
use Rattle.streams.specs.declared.reading.ReadError.TheVariants.{Fault, TooLong}

-- the source failed
abbrev pub is_fault : {T : Type 0} → Result T ReadError → Bool
is_fault (Err Fault) = true
is_fault _ = false

-- how many bytes a reading up to a limit has read where it ends by this error
abbrev pub IsReadCount : ReadError → ℕ → ℕ → Type 0
IsReadCount TooLong limit n = n ≡ limit + 1
IsReadCount _ limit n = n ≤ limit
