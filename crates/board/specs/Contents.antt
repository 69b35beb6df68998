-- Subproblems in memory as data.
use Rattle.std.specs.Prelude.{List, map}
use Rattle.dp_model.specs.Subproblem.{Subproblem, SubView}

-- the subproblems that are held
abbrev pub contents : List SubView → List Subproblem
contents held = map (λ h. h.subproblem) held
