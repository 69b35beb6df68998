-- Arcs in memory, each with the place of a way, and the routes of the ways.
use Rattle.std.specs.Prelude.{◌≡◌, ℕ, pos, List, map, slice_index_or, Some, None}
use Rattle.dp_laws.specs.declared.arc.DdArc.{DdArc}
use Rattle.layer_nodes.specs.declared.routing.Route.{Route}
use Rattle.layer_nodes.specs.declared.routing.StoredArc.{StoredArc}

-- the route without a target
abbrev pub nowhere : Route
nowhere = record { target = None; longer = pos 0 }

-- the route of the way at the place
abbrev pub route_at : List Route → ℕ → Route
route_at routes way = slice_index_or routes way nowhere

-- the arc along a route
abbrev pub arc_along : StoredArc → Route → DdArc
arc_along arc route = record { decision = arc.decision; target = route.target; gain = arc.gain; longer = route.longer }

-- the arc with the route of its way
abbrev pub routed : List Route → StoredArc → DdArc
routed routes arc = arc_along arc (route_at routes arc.way)

-- the arcs of a layer
abbrev pub routed_arcs : List Route → List StoredArc → List DdArc
routed_arcs routes arcs = map (routed routes) arcs

-- the arc to its way
abbrev pub to_way : StoredArc → DdArc
to_way arc = arc_along arc (record { target = Some arc.way; longer = pos 0 })

-- the arcs to their ways
abbrev pub to_ways : List StoredArc → List DdArc
to_ways arcs = map to_way arcs

-- the route lengthens no arc
abbrev pub IsPlain : Route → Type 0
IsPlain route = route.longer ≡ pos 0
