-- How a writing ends.
use Rattle.std.specs.Prelude.{ℕ, ◌==◌, nat_lt, ◌&&◌, Bool, true, false, List, length, Result, Ok, Err}
use Rattle.streams.specs.declared.writing.WriteError.{WriteError}
use Rattle.streams.specs.declared.writing.WriteError.TheVariants.{Fault, Stuck}

-- a write took nothing of a nonempty piece
abbrev pub is_idle : {E : Type 0} → Result ℕ E → List ℕ → Bool
is_idle (Ok n) piece = (n == 0) && nat_lt 0 (length piece)
is_idle (Err _) piece = false

-- the sink failed
abbrev pub is_fault : Result (Unit {0}) WriteError → Bool
is_fault (Err Fault) = true
is_fault _ = false

-- the sink took nothing of what was left
abbrev pub is_stuck : Result (Unit {0}) WriteError → Bool
is_stuck (Err Stuck) = true
is_stuck _ = false
