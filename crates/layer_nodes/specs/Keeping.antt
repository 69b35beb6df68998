-- Only the first nodes of a layer stay, and routes to the others lose their targets.
use Rattle.std.specs.Prelude.{ℕ, nat_lt, cond, Option, Some, None}
use Rattle.layer_nodes.specs.declared.routing.Route.{Route}

-- the target where it is below the width
abbrev pub kept_target : ℕ → Option ℕ → Option ℕ
kept_target width None = None
kept_target width (Some place) = cond (nat_lt place width) (Some place) None

-- the route with such a target
abbrev pub kept_route : ℕ → Route → Route
kept_route width route = record route { target = kept_target width route.target }
