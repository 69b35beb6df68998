-- Arcs in memory with the routes of their ways.
use Rattle.std.proofs.Common.{◌≡◌, ℕ, zero, suc, ◌+◌, ◌≤◌, List, [], ◌∷◌, map, take, drop, replicate, Option, Some, None, option_and_then, refl, sym, ◌∙◌, ap, ap₂, subst}
use Rattle.std.proofs.lemmas.List.{length-map, take-map, drop-map}
use Rattle.dp_model.specs.Lists.{Each}
use Rattle.dp_model.specs.Numbers.{IsFar}
use Rattle.dp_laws.specs.declared.arc.DdArc.{DdArc}
use Rattle.dp_laws.specs.Rules.Redirects.{Redirect, redirected_by, redirected}
use Rattle.layer_nodes.specs.declared.node.Node.{Node}
use Rattle.layer_nodes.specs.declared.routing.Route.{Route}
use Rattle.layer_nodes.specs.declared.routing.StoredArc.{StoredArc}
use Rattle.layer_nodes.specs.Ending.{arcs_in}
use Rattle.layer_nodes.specs.Expanding.{number_at}
use Rattle.layer_nodes.specs.Redirecting.{redirect_of, rerouted_by, IsRerouted, AreRerouted}
use Rattle.layer_nodes.specs.Routing.{nowhere, route_at, arc_along, routed, routed_arcs, to_way, to_ways, IsPlain}
use Rattle.layer_nodes.specs.Stored.{HasArcsIn}

-- ---- routes of ways

-- routes that lead nowhere
pub plain-none : (n : ℕ) → Each IsPlain (replicate n nowhere)
plain-none zero = tt
plain-none (suc n) = (refl, plain-none n)

pub nowhere-at : (n p : ℕ) → route_at (replicate n nowhere) p ≡ nowhere
nowhere-at zero p = refl
nowhere-at (suc n) zero = refl
nowhere-at (suc n) (suc p) = nowhere-at n p

pub plain-at : (routes : List Route) (p : ℕ) → Each IsPlain routes → IsPlain (route_at routes p)
plain-at [] p h = refl
plain-at (r ∷ routes) zero h = h.0
plain-at (r ∷ routes) (suc p) h = plain-at routes p h.1

-- the arc to a way, with the number of the way
abbrev pub led : List Route → DdArc → DdArc
led routes arc = record arc { target = option_and_then (number_at routes) arc.target }

-- by plain routes the arcs to the ways lead to their numbers
pub routed-led : (routes : List Route) (arcs : List StoredArc) → Each IsPlain routes → routed_arcs routes arcs ≡ map (led routes) (to_ways arcs)
routed-led routes [] h = refl
routed-led routes (arc ∷ arcs) h = ap₂ (λ z l. record (led routes (to_way arc)) { longer = z } ∷ l) (plain-at routes arc.way h) (routed-led routes arcs h)

-- ---- the arcs of a node

pub routed-in : (routes : List Route) (arcs : List StoredArc) (node : Node) → routed_arcs routes (arcs_in arcs node) ≡ arcs_in (routed_arcs routes arcs) node
routed-in routes arcs node = sym (ap (take node.arcs) (drop-map (routed routes) node.first_arc arcs) ∙ take-map (routed routes) node.arcs (drop node.first_arc arcs))

-- they lie among those in memory
pub stored-lie : (routes : List Route) (arcs : List StoredArc) (nodes : List Node) → Each (HasArcsIn (routed_arcs routes arcs)) nodes → Each (HasArcsIn arcs) nodes
stored-lie routes arcs nodes h = subst (λ n. Each (λ (node : Node). node.first_arc + node.arcs ≤ n) nodes) (length-map arcs (routed routes)) h

pub routed-lie : (routes : List Route) (arcs : List StoredArc) (nodes : List Node) → Each (HasArcsIn arcs) nodes → Each (HasArcsIn (routed_arcs routes arcs)) nodes
routed-lie routes arcs nodes h = subst (λ n. Each (λ (node : Node). node.first_arc + node.arcs ≤ n) nodes) (sym (length-map arcs (routed routes))) h

-- ---- routes that get new targets

by-redirect : (arc : StoredArc) (route : Route) (o : Option Redirect) → arc_along arc (rerouted_by route o) ≡ redirected_by (arc_along arc route) o
by-redirect arc route None = refl
by-redirect arc route (Some l) = refl

module _ (ls : List (Option Redirect)) where
  route-at : (olds news : List Route) → AreRerouted ls olds news → (way : ℕ) → IsRerouted ls (route_at olds way) (route_at news way)
  route-at [] [] all way = λ far. refl
  route-at [] (n ∷ news) all way = absurd all
  route-at (o ∷ olds) [] all way = absurd all
  route-at (o ∷ olds) (n ∷ news) all zero = all.0
  route-at (o ∷ olds) (n ∷ news) all (suc way) = route-at olds news all.1 way

  module _ (olds news : List Route) (all : AreRerouted ls olds news) where
    arc-rerouted : (arc : StoredArc) → IsFar (routed olds arc).longer → routed news arc ≡ redirected ls (routed olds arc)
    arc-rerouted arc far =
        let old = route_at olds arc.way in
        ap (arc_along arc) (route-at olds news all arc.way far) ∙ by-redirect arc old (redirect_of ls old.target)

    first-rerouted : (n : ℕ) (arcs : List StoredArc) → Each (λ (arc : DdArc). IsFar arc.longer) (take n (routed_arcs olds arcs)) → take n (routed_arcs news arcs) ≡ map (redirected ls) (take n (routed_arcs olds arcs))
    first-rerouted zero arcs far = refl
    first-rerouted (suc n) [] far = refl
    first-rerouted (suc n) (arc ∷ arcs) far = ap₂ (λ a l. a ∷ l) (arc-rerouted arc far.0) (first-rerouted n arcs far.1)

    -- arcs that may be lengthened are redirected
    pub arcs-rerouted : (first n : ℕ) (arcs : List StoredArc) → Each (λ (arc : DdArc). IsFar arc.longer) (take n (drop first (routed_arcs olds arcs)))
        → take n (drop first (routed_arcs news arcs)) ≡ map (redirected ls) (take n (drop first (routed_arcs olds arcs)))
    arcs-rerouted zero n arcs far = first-rerouted n arcs far
    arcs-rerouted (suc first) n [] far = first-rerouted n [] far
    arcs-rerouted (suc first) n (arc ∷ arcs) far = arcs-rerouted first n arcs far
