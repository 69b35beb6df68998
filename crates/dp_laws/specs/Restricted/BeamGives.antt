-- What a beam gives.
use Rattle.std.specs.Prelude.{◌≡◌, ℕ, suc, ◌+◌, ◌-◌, ℤ, false, List, length, Option, Some, option_map}
use Rattle.dp_model.specs.Dp.{Dp}
use Rattle.dp_model.specs.Gaps.{is_struck_by}
use Rattle.dp_model.specs.Lists.{Each}
use Rattle.dp_model.specs.Numbers.{AtMost}
use Rattle.dp_model.specs.Prefixes.{IsPrefix}
use Rattle.dp_model.specs.Reached.{Reached, reached}
use Rattle.dp_laws.specs.Children.{IsCompletionWith}
use Rattle.dp_laws.specs.Restricted.Beam.{layer_below}
use Rattle.dp_laws.specs.Restricted.Beams.{beam}

-- a beam is a feasible solution that begins with p, with its value
abbrev pub BeamsAreFeasible : Dp → Type 0
BeamsAreFeasible dp = (p : List ℕ) (w : ℕ) (t : Option ℤ) (r : Reached) → IsPrefix dp p → beam dp p w t ≡ Some r → IsCompletionWith dp p r.decisions r.value

-- no member of the last layer has a greater value than the beam
abbrev pub BeamsAreGreatest : Dp → Type 0
BeamsAreGreatest dp = (p : List ℕ) (w : ℕ) (t : Option ℤ)
    → Each (λ (r : Reached). AtMost r.value (option_map (λ (b : Reached). b.value) (beam dp p w t))) (layer_below dp (reached dp p) w t (dp.vars - length p))

-- no member of a layer below the first is struck: its rough bound lifts it above the threshold, where there is one
abbrev pub MembersAreUnstruck : Dp → Type 0
MembersAreUnstruck dp = (r : Reached) (w : ℕ) (t : Option ℤ) (m : ℕ)
    → Each (λ (c : Reached). is_struck_by c.value (dp.rough (length r.decisions + m + 1) c.row) t ≡ false) (layer_below dp r w t (suc m))
