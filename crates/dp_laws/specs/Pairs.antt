-- Facts of each two members of a list.
use Rattle.std.specs.Prelude.{List, [], ◌∷◌}
use Rattle.dp_model.specs.Lists.{Each}

-- a fact of each two members of a list, the earlier one first
abbrev pub EachTwo : {X : Type 0} → (X → X → Type 0) → List X → Type 0
EachTwo R [] = Unit {0}
EachTwo R (x ∷ xs) = Each (R x) xs × EachTwo R xs
