-- A fact of each member of a list, and of one of them.
use Rattle.std.specs.Prelude.{List, [], ◌∷◌, ◌⊎◌}

-- each member has the fact
abbrev pub Each : {X : Type 0} → (X → Type 0) → List X → Type 0
Each P [] = Unit {0}
Each P (x ∷ xs) = P x × Each P xs

-- some member has the fact
abbrev pub OneOf : {X : Type 0} → (X → Type 0) → List X → Type 0
OneOf P [] = ⊥
OneOf P (x ∷ xs) = P x ⊎ OneOf P xs
