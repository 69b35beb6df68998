-- Numbers that are drawn one after another.
use Rattle.std.specs.Prelude.{ℕ, zero, suc, ◌+◌, ◌*◌, ◌/◌, ◌%◌, ◌^◌}

-- the state that a draw leaves
unfoldable pub next : ℕ → ℕ
next x = (1103515245 * x + 12345) % 2 ^ 31

-- the number that a draw gives
unfoldable pub drawn : ℕ → ℕ
drawn x = next x / 65536

-- what this many steps make, each of what was made before it and of the draws that are left
unfoldable pub steps : {A : Type 0} → (A → ℕ → A × ℕ) → ℕ → A → ℕ → A × ℕ
steps step zero made x = (made, x)
steps step (suc n) made x = step (steps step n made x).0 (steps step n made x).1
