-- Layers with their paths, whose arcs get new targets.
use Rattle.std.proofs.Common.{◌≡◌, ℕ, ◌+◌, ℤ, List, [], ◌∷◌, map, Option, refl, ap, ap₂}
use Rattle.dp_model.specs.Dp.{Dp}
use Rattle.dp_model.specs.Lists.{Each}
use Rattle.dp_laws.specs.declared.arc.DdArc.{DdArc}
use Rattle.dp_laws.specs.Diagrams.Nodes.{DdNode, path_below}
use Rattle.dp_laws.specs.Rules.Redirects.{Redirect, redirected, with_redirected}
use Rattle.row_region.specs.Region.{RegionView}
use Rattle.layer_nodes.specs.declared.node.Node.{Node}
use Rattle.layer_nodes.specs.declared.routing.Route.{Route}
use Rattle.layer_nodes.specs.declared.routing.StoredArc.{StoredArc}
use Rattle.layer_nodes.specs.Holding.{AreHeld, places_of}
use Rattle.layer_nodes.specs.Leading.{IsNodeIn, print_of}
use Rattle.layer_nodes.specs.Nodes.{NodeView, shown, shown_from, shown_below, without_arcs}
use Rattle.layer_nodes.specs.Redirecting.{AreRerouted}
use Rattle.layer_nodes.specs.Routing.{routed_arcs}
use Rattle.layer_nodes.specs.Steps.{IsNodeOf, MayBeLengthened}
use Rattle.layer_nodes.specs.Stored.{node_view_by, rows_in}
use Rattle.layer_nodes.specs.Striking.{Shows}
use Rattle.layer_nodes.proofs.Given.{in-by}
use Rattle.layer_nodes.proofs.Routed.{arcs-rerouted}

-- ---- the layer above

abbrev pub with_targets : List (Option Redirect) → NodeView → NodeView
with_targets ls node = record node { arcs = map (redirected ls) node.arcs }

pub views-redirected : (ls : List (Option Redirect)) (row : ℕ → List ℤ) (olds news : List Route) (arcs : List StoredArc) (nodes : List Node) → AreRerouted ls olds news → Each MayBeLengthened (map (node_view_by row (routed_arcs olds arcs)) nodes)
    → map (node_view_by row (routed_arcs news arcs)) nodes ≡ map (with_targets ls) (map (node_view_by row (routed_arcs olds arcs)) nodes)
views-redirected ls row olds news arcs [] h far = refl
views-redirected ls row olds news arcs (node ∷ nodes) h far =
    ap₂ (λ a l. record (node_view_by row (routed_arcs olds arcs) node) { arcs = a } ∷ l) (arcs-rerouted ls olds news h node.first_arc node.arcs arcs far.0) (views-redirected ls row olds news arcs nodes h far.1)

pub shown-redirected : (paths : ℕ → List ℕ) (i : ℕ) (ls : List (Option Redirect)) (nodes : List NodeView) → shown_from paths i (map (with_targets ls) nodes) ≡ with_redirected ls (shown_from paths i nodes)
shown-redirected paths i ls [] = refl
shown-redirected paths i ls (node ∷ nodes) = ap (λ l. shown (paths i) (with_targets ls node) ∷ l) (shown-redirected paths (i + 1) ls nodes)

pub bare-redirected : (row : ℕ → List ℤ) (old new : List DdArc) (nodes : List Node) → map without_arcs (map (node_view_by row new) nodes) ≡ map without_arcs (map (node_view_by row old) nodes)
bare-redirected row old new [] = refl
bare-redirected row old new (node ∷ nodes) = ap (λ l. without_arcs (node_view_by row old node) ∷ l) (bare-redirected row old new nodes)

-- ---- the layer below

pub map-map : {X Y Z : Type 0} (f : Y → Z) (g : X → Y) (xs : List X) → map f (map g xs) ≡ map (λ x. f (g x)) xs
map-map f g [] = refl
map-map f g (x ∷ xs) = ap (λ l. f (g x) ∷ l) (map-map f g xs)

-- the places of the rows of nodes
pub places-seen : (row : ℕ → List ℤ) (arcs : List DdArc) (nodes : List Node) → places_of (map (node_view_by row arcs) nodes) ≡ rows_in nodes
places-seen row arcs nodes = map-map (λ (n : NodeView). n.place) (node_view_by row arcs) nodes

-- a node of the layer below, as it is shown
abbrev pub seen : (ℕ → List ℕ) → (ℕ → List ℤ) → List DdArc → Node → DdNode
seen paths row arcs node = shown (path_below paths node.parent node.decision) (node_view_by row arcs node)

pub seen-shows : (paths : ℕ → List ℕ) (row : ℕ → List ℤ) (arcs : List DdArc) → Shows row (seen paths row arcs)
seen-shows paths row arcs = record { rows_are = λ node. refl; values_are = λ node. refl; exact_are = λ node. refl }

pub below-seen : (paths : ℕ → List ℕ) (row : ℕ → List ℤ) (arcs : List DdArc) (nodes : List Node) → shown_below paths (map (node_view_by row arcs) nodes) ≡ map (seen paths row arcs) nodes
below-seen paths row arcs nodes = map-map (λ (node : NodeView). shown (path_below paths node.parent node.decision) node) (node_view_by row arcs) nodes

pub nodes-in : (dp : Dp) (k : ℕ) (region : RegionView) (row : ℕ → List ℤ) (arcs : List DdArc) (nodes : List Node) → Each (IsNodeOf dp k) (map (node_view_by row arcs) nodes) → AreHeld region (map (node_view_by row arcs) nodes)
    → Each (IsNodeIn dp k region) nodes
nodes-in dp k region row arcs [] h held = tt
nodes-in dp k region row arcs (node ∷ nodes) h held =
    (in-by dp k region row node.row node.value (print_of node) held.0 (record { state = h.0.state; printed = record { rank = h.0.rank; hash = h.0.hash }; near = h.0.value }), nodes-in dp k region row arcs nodes h.1 held.1)
