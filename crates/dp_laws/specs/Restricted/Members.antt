-- The members of the layers.
use Rattle.std.specs.Prelude.{◌≡◌, ℕ, ◌+◌, ◌≤◌, ℤ, List, length, Option, IsTrue}
use Rattle.dp_model.specs.Dp.{Dp}
use Rattle.dp_model.specs.Decisions.{begins}
use Rattle.dp_model.specs.Lists.{Each}
use Rattle.dp_model.specs.Prefixes.{IsPrefix, state_of, value_of}
use Rattle.dp_model.specs.Reached.{Reached, reached}
use Rattle.dp_laws.specs.Restricted.Beam.{layer_below}

-- a prefix of this depth that begins with p, with its own row and value
pub record IsMember (dp : Dp) (p : List ℕ) (depth : ℕ) (r : Reached) : Type 0 where
  pub prefix : IsPrefix dp r.decisions
  pub begins : IsTrue (begins p r.decisions)
  pub deep : length r.decisions ≡ depth
  pub row : r.row ≡ state_of dp r.decisions
  pub value : r.value ≡ value_of dp r.decisions

-- each member of a layer is a prefix of its depth that begins with p, with its own row and value
abbrev pub LayersHavePrefixes : Dp → Type 0
LayersHavePrefixes dp = (p : List ℕ) (w : ℕ) (t : Option ℤ) (m : ℕ) → IsPrefix dp p → length p + m ≤ dp.vars
    → Each (IsMember dp p (length p + m)) (layer_below dp (reached dp p) w t m)
