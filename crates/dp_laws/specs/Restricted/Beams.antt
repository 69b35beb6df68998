-- The layers of a restricted diagram, the depth at which it is first reduced, and its beam.
use Rattle.std.specs.Prelude.{ℕ, ◌+◌, ◌-◌, ℤ, List, [], ◌∷◌, length, map, find, Option, Some, None, option_map}
use Rattle.dp_model.specs.Dp.{Dp}
use Rattle.dp_model.specs.Decisions.{below}
use Rattle.dp_model.specs.Reached.{Reached, reached}
use Rattle.dp_laws.specs.Restricted.Beam.{layer_below, is_too_wide}

-- the layers below the prefix p, one for each depth from its length to n, for the width w and the threshold t
abbrev pub layers : Dp → List ℕ → ℕ → Option ℤ → List (List Reached)
layers dp p w t = map (layer_below dp (reached dp p) w t) (below (dp.vars - length p + 1))

-- Wide: the least depth at which the width takes something away, or none
abbrev pub wide : Dp → List ℕ → ℕ → Option ℤ → Option ℕ
wide dp p w t = option_map (λ m. length p + m) (find (is_too_wide dp (reached dp p) w t) (below (dp.vars - length p + 1)))

-- LastExact: the depth just above it
abbrev pub last_exact : Dp → List ℕ → ℕ → Option ℤ → Option ℕ
last_exact dp p w t = option_map (λ depth. depth - 1) (wide dp p w t)

-- the first of a list, or none
abbrev pub first_of_all : List Reached → Option Reached
first_of_all [] = None
first_of_all (r ∷ rs) = Some r

-- the beam: the first member of the last layer, or none
abbrev pub beam : Dp → List ℕ → ℕ → Option ℤ → Option Reached
beam dp p w t = first_of_all (layer_below dp (reached dp p) w t (dp.vars - length p))
