-- Routes that get new targets.
use Rattle.std.specs.Prelude.{◌≡◌, ℕ, ◌+ℤ◌, List, [], ◌∷◌, slice_get, Option, Some, None, IfSome, option_and_then}
use Rattle.dp_model.specs.Numbers.{IsSmall, IsFar}
use Rattle.dp_laws.specs.Rules.Redirects.{Redirect}
use Rattle.layer_nodes.specs.declared.routing.Route.{Route}

-- where the target is redirected, or none where it was struck
abbrev pub redirect_of : List (Option Redirect) → Option ℕ → Option Redirect
redirect_of redirects target = option_and_then (λ i. option_and_then (λ l. l) (slice_get redirects i)) target

-- the redirect lengthens an arc by a number of an instance
abbrev pub IsShort : Option Redirect → Type 0
IsShort redirect = IfSome redirect (λ l. IsSmall l.longer)

-- the route with a new target, or without one
abbrev pub rerouted_by : Route → Option Redirect → Route
rerouted_by route None = record { target = None; longer = route.longer }
rerouted_by route (Some l) = record { target = Some l.place; longer = route.longer +ℤ l.longer }

-- the route as the redirect of its target says
abbrev pub rerouted : List (Option Redirect) → Route → Route
rerouted redirects route = rerouted_by route (redirect_of redirects route.target)

-- the route has its new target, where it may be lengthened
abbrev pub IsRerouted : List (Option Redirect) → Route → Route → Type 0
IsRerouted redirects old new = IsFar old.longer → new ≡ rerouted redirects old

-- so has each route
abbrev pub AreRerouted : List (Option Redirect) → List Route → List Route → Type 0
AreRerouted redirects [] [] = Unit {0}
AreRerouted redirects [] (new ∷ news) = ⊥
AreRerouted redirects (old ∷ olds) [] = ⊥
AreRerouted redirects (old ∷ olds) (new ∷ news) = IsRerouted redirects old new × AreRerouted redirects olds news
