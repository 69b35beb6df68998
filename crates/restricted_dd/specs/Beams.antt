-- A beam as it is found.
use Rattle.std.specs.Prelude.{◌≡◌, Option, Some, None}
use Rattle.dp_model.specs.Reached.{Reached}
use Rattle.dp_model.specs.declared.found.Found.{Found}

-- the solution has the value and the decisions of the prefix
pub record Shows (r : Reached) (f : Found) : Type 0 where
  pub value : f.value ≡ r.value
  pub decisions : f.decisions.now ≡ r.decisions

-- the beam is found, and none exactly where there is none
abbrev pub ShowsBeam : Option Reached → Option Found → Type 0
ShowsBeam None None = Unit {0}
ShowsBeam None (Some f) = ⊥
ShowsBeam (Some r) None = ⊥
ShowsBeam (Some r) (Some f) = Shows r f
