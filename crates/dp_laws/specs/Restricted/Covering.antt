-- What the layers cover where the width takes nothing away.
use Rattle.std.specs.Prelude.{◌≡◌, ℕ, ◌+◌, ◌-◌, ◌≤◌, ℤ, false, List, length, Option, Some, None, ◌⊎◌, option_map}
use Rattle.dp_model.specs.Dp.{Dp}
use Rattle.dp_model.specs.Lists.{OneOf}
use Rattle.dp_model.specs.Numbers.{AtMost}
use Rattle.dp_model.specs.Prefixes.{IsPrefix, IsCompletion, IsMatched, value_of}
use Rattle.dp_model.specs.Reached.{Reached, reached}
use Rattle.dp_laws.specs.Restricted.Beam.{layer_below, is_too_wide}
use Rattle.dp_laws.specs.Restricted.Beams.{beam, wide, last_exact}

-- each completion of p is at most the threshold or matched by a prefix of the list
abbrev pub IsCovered : Dp → List ℕ → Option ℤ → List Reached → Type 0
IsCovered dp p t rs = (x : List ℕ) → IsCompletion dp p x → AtMost (value_of dp x) t ⊎ OneOf (λ r. IsMatched dp x r.decisions) rs

-- the width takes nothing from the layers down to m steps below p
abbrev pub AreWhole : Dp → List ℕ → ℕ → Option ℤ → ℕ → Type 0
AreWhole dp p w t m = (j : ℕ) → j ≤ m → is_too_wide dp (reached dp p) w t j ≡ false

-- a layer covers where the width took nothing from it and from those above it
abbrev pub WholeLayersCover : Dp → Type 0
WholeLayersCover dp = (p : List ℕ) (w : ℕ) (t : Option ℤ) (m : ℕ) → IsPrefix dp p → length p + m ≤ dp.vars → AreWhole dp p w t m
    → IsCovered dp p t (layer_below dp (reached dp p) w t m)

-- the last exact layer covers
abbrev pub LastExactCovers : Dp → Type 0
LastExactCovers dp = (p : List ℕ) (w : ℕ) (t : Option ℤ) (depth : ℕ) → IsPrefix dp p → last_exact dp p w t ≡ Some depth
    → IsCovered dp p t (layer_below dp (reached dp p) w t (depth - length p))

-- where the width takes nothing away, no completion of p is better than both the threshold and the beam
abbrev pub WholeBeamsAreBest : Dp → Type 0
WholeBeamsAreBest dp = (p : List ℕ) (w : ℕ) (t : Option ℤ) → IsPrefix dp p → wide dp p w t ≡ None
    → (x : List ℕ) → IsCompletion dp p x → AtMost (value_of dp x) t ⊎ AtMost (value_of dp x) (option_map (λ (r : Reached). r.value) (beam dp p w t))
