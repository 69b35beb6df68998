-- The history of a value: moves, one after the other.
use Rattle.std.specs.Prelude.{◌≡◌, ℕ, List, [], ◌∷◌}

module _ {V : Type 0} (moves : V → V → ℕ → Type 0) where
  -- each move, by the number that it stands with, leads from the value before it to the one that it stands with
  abbrev pub Moved : V → List (ℕ × V) → V → Type 0
  Moved first [] last = first ≡ last
  Moved first (m ∷ later) last = moves first m.1 m.0 × Moved m.1 later last

  -- moves lead from the first value to the last
  pub record HasMoved (first last : V) : Type 0 where
    pub line : List (ℕ × V)
    pub moved : Moved first line last
