-- The frontier in words: the borders that do not lie below another one.
use Rattle.std.specs.Prelude.{◌≡◌, ℕ, ◌+◌, ◌<◌, nat_lt, ℤ, Bool, false, not, ◌&&◌, ◌||◌, List, [], ◌∷◌, length, map, filter, drop, Option}
use Rattle.dp_model.specs.Decisions.{begins}
use Rattle.dp_model.specs.Dp.{Dp}
use Rattle.dp_model.specs.Laws.{IsLawful}
use Rattle.dp_model.specs.Subproblem.{Subproblem}
use Rattle.dp_model.specs.declared.cut_kind.CutKind.TheVariants.{Frontier}
use Rattle.dp_laws.specs.Diagrams.Nodes.{DdLayers}
use Rattle.dp_laws.specs.Diagrams.Seen.{IsDiagram}
use Rattle.dp_laws.specs.Diagrams.Cutsets.{all_borders_at, child_from, children_of}

-- whether one of the subproblems is a proper prefix of the subproblem
abbrev pub is_below_one : List Subproblem → Subproblem → Bool
is_below_one [] c = false
is_below_one (o ∷ os) c = (nat_lt (length o.decisions) (length c.decisions) && begins o.decisions c.decisions) || is_below_one os c

-- the borders of a diagram below its first layer, as subproblems
abbrev pub borders_of : Dp → DdLayers → List Subproblem
borders_of dp d = map (child_from d) (all_borders_at dp (d.first + 1) (drop 1 d.layers))

-- the children of the frontier are the borders that no other border is a proper prefix of
abbrev pub FrontierIsOuter : Dp → Type 0
FrontierIsOuter dp = (p : List ℕ) (w : ℕ) (t : Option ℤ) (d : DdLayers) → IsLawful dp → length p < dp.vars → IsDiagram dp p w t d
    → children_of dp d Frontier ≡ filter (λ c. not (is_below_one (borders_of dp d) c)) (borders_of dp d)
