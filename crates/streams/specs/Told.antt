-- The bytes that a source has left and a sink has taken, where they are told.
use Rattle.std.specs.Prelude.{◌≡◌, ℕ, ◌<◌, ◌≤◌, List, [], length, take, drop, Option, None, Some, IfSome}
use Rattle.std.specs.Io.KnownBytes.{append_known}

-- these bytes are all that was left, where that is told
abbrev pub IsAllOf : Option (List ℕ) → List ℕ → Type 0
IsAllOf left bytes = IfSome left (λ all. bytes ≡ all)

-- nothing is left, and it is told as before
abbrev pub Ends : Option (List ℕ) → Option (List ℕ) → Type 0
Ends None now = now ≡ None
Ends (Some bytes) now = now ≡ Some []

-- the next n of the bytes that were left are gone, and the others are left, where they are told
abbrev pub Skips : Option (List ℕ) → Option (List ℕ) → ℕ → Type 0
Skips None now n = now ≡ None
Skips (Some bytes) now n = (n ≤ length bytes) × (now ≡ Some (drop n bytes))

-- some of these bytes were taken, from the first on, and not all
abbrev pub TakesSome : Option (List ℕ) → Option (List ℕ) → List ℕ → Type 0
TakesSome before now bytes = (n : ℕ) × (n < length bytes) × (now ≡ append_known before (take n bytes))
