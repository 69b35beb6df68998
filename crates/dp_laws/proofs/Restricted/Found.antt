-- A beam is a completion with its value.
use Rattle.std.proofs.Common.{◌≡◌, ℕ, ◌+◌, ◌-◌, ℤ, List, [], ◌∷◌, length, Option, Some, subst, arith}
use Rattle.dp_model.specs.Dp.{Dp}
use Rattle.dp_model.specs.Lists.{Each}
use Rattle.dp_model.specs.Prefixes.{IsPrefix}
use Rattle.dp_model.specs.Reached.{Reached, reached}
use Rattle.dp_model.proofs.Paths.{IsPrefix-length}
use Rattle.dp_model.proofs.RowLemmas.{begins-is}
use Rattle.dp_laws.specs.Restricted.Beam.{layer_below}
use Rattle.dp_laws.specs.Restricted.Beams.{first_of_all}
use Rattle.dp_laws.specs.Children.{IsCompletionWith}
use Rattle.dp_laws.specs.Restricted.BeamGives.{BeamsAreFeasible}
use Rattle.dp_laws.specs.Restricted.Members.{IsMember}
use Rattle.dp_laws.proofs.Prefixes.{layers-prefixes}

pub first-each : (P : Reached → Type 0) (rs : List Reached) (r : Reached) → Each P rs → first_of_all rs ≡ Some r → P r
first-each P [] r h e = absurd (cc)
first-each P (a ∷ rs) r h e = let same : a ≡ r = cc in subst P same h.0

-- a member of the last layer is a completion
pub member-found : (dp : Dp) (p : List ℕ) (r : Reached) → IsMember dp p dp.vars r → IsCompletionWith dp p r.decisions r.value
member-found dp p r h =
    let split = begins-is p r.decisions h.begins in
    record { completion = record { solution = record { prefix = h.prefix; whole = h.deep }; rest = split.0; begins = split.1 }; value = h.value }

-- the last layer
pub last-members : (dp : Dp) (p : List ℕ) (w : ℕ) (t : Option ℤ) → IsPrefix dp p → Each (IsMember dp p dp.vars) (layer_below dp (reached dp p) w t (dp.vars - length p))
last-members dp p w t h =
    let short = IsPrefix-length dp p h in
    let deep : length p + (dp.vars - length p) ≡ dp.vars = omega arith in
    subst (λ n. Each (IsMember dp p n) (layer_below dp (reached dp p) w t (dp.vars - length p))) deep (layers-prefixes dp p w t (dp.vars - length p) h (omega arith))

pub beams-feasible : (dp : Dp) → BeamsAreFeasible dp
beams-feasible dp p w t r h e =
    member-found dp p r (first-each (IsMember dp p dp.vars) (layer_below dp (reached dp p) w t (dp.vars - length p)) r (last-members dp p w t h) e)
