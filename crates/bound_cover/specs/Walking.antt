-- How the arcs of a row are read once: the least decision that stands after one as great.
use Rattle.std.specs.Prelude.{ℕ, ◌+◌, nat_eq, nat_lt, nat_le, Bool, cond, List, [], ◌∷◌, Option, Some, None}
use Rattle.dp_model.specs.Dp.{Dp}
use Rattle.bound_cover.specs.declared.cover.CoverArc.{CoverArc}
use Rattle.bound_cover.specs.declared.cover.Why.{Why}
use Rattle.bound_cover.specs.declared.cover.Why.TheVariants.{Target}
use Rattle.bound_cover.specs.Covers.{CoverRow}
use Rattle.bound_cover.specs.Tests.{arc_fault}

-- the lesser of two numbers, where none is greater than every number
abbrev pub lesser : Option ℕ → Option ℕ → Option ℕ
lesser None n = n
lesser (Some m) None = Some m
lesser (Some m) (Some n) = Some (cond (nat_le m n) m n)

-- the least decision below `low`, or after one as great; `low` is above all decisions so far
abbrev pub least_after : ℕ → List CoverArc → Option ℕ
least_after low [] = None
least_after low (arc ∷ arcs) = cond (nat_lt arc.decision low) (lesser (Some arc.decision) (least_after low arcs)) (least_after (arc.decision + 1) arcs)

-- the arc that is at hand, where it is that of the decision
abbrev pub at_hand : ℕ → Option CoverArc → Option CoverArc
at_hand d None = None
at_hand d (Some arc) = cond (nat_eq arc.decision d) (Some arc) None

-- the failure of a decision that has this arc or none, and is allowed or not; none where it is neither
abbrev pub step_fault : Dp → ℕ → ℕ → List CoverRow → CoverRow → ℕ → Bool → Option CoverArc → Option Why
step_fault dp k i next row d allowed None = cond allowed (Some (Target k i d)) None
step_fault dp k i next row d allowed (Some arc) = cond allowed (arc_fault dp k i next row d arc.target) (Some (Target k i d))

-- the decision of an arc
abbrev pub decision_of : Option CoverArc → Option ℕ
decision_of None = None
decision_of (Some arc) = Some arc.decision
