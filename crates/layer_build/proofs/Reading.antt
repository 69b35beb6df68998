-- What the readers of a workspace read.
use Rattle.std.proofs.Common.{◌≡◌, ℕ, zero, suc, ◌+◌, ◌-◌, ◌≤◌, List, [], ◌∷◌, length, slice_get, Option, Some, None, IsSome, option_map, option_and_then, unwrap_or, true, false, refl, sym, ap, ◌∙◌, subst, arith}
use Rattle.dp_laws.specs.Diagrams.Nodes.{DdNode, node_at}
use Rattle.layer_nodes.specs.Nodes.{NodeView, LayerView, shown, shown_from, shown_layer}
use Rattle.layer_build.specs.contracts.workspace.Workspace.{the_view, the_invariant}
use Rattle.layer_build.specs.declared.workspace.Workspace.TheInside.{Inside}
use Rattle.layer_build.specs.Layers.{SpaceView, diagram_of, last_layer, layer_at}
use Rattle.layer_build.specs.Stacked.{path_in, paths_at, paths_below, shown_down, shown_stack, nodes_in}
use Rattle.layer_build.proofs.Going.{last_paths, last-seen}
use Rattle.layer_build.proofs.Shown.{length-shown}

-- the j-th layer that is seen
pub layer-down : (nodes : ℕ → List NodeView) (ps : List (List ℕ)) (k m j d : ℕ) → j ≤ m → k + j ≡ d → slice_get (shown_down nodes ps k m) j ≡ Some (shown_layer (path_in (paths_at nodes ps k j)) (nodes d))
layer-down nodes ps k zero zero d low e = let same : k ≡ d = omega arith in ap (λ (i : ℕ). Some (shown_layer (path_in ps) (nodes i))) same
layer-down nodes ps k zero (suc j) d low e = absurd (omega arith)
layer-down nodes ps k (suc m) zero d low e = let same : k ≡ d = omega arith in ap (λ (i : ℕ). Some (shown_layer (path_in ps) (nodes i))) same
layer-down nodes ps k (suc m) (suc j) d low e = layer-down nodes (paths_below ps (nodes (k + 1))) (k + 1) m j d (omega arith) (omega arith)

get-shown : (paths : ℕ → List ℕ) (i : ℕ) (nodes : List NodeView) (j : ℕ) → slice_get (shown_from paths i nodes) j ≡ option_map (shown (paths (i + j))) (slice_get nodes j)
get-shown paths i [] j = refl
get-shown paths i (n ∷ nodes) zero = let e : i ≡ i + 0 = omega arith in ap (λ (k : ℕ). Some (shown (paths k) n)) e
get-shown paths i (n ∷ nodes) (suc j) =
    let e : i + 1 + j ≡ i + suc j = omega arith in
    get-shown paths (i + 1) nodes j ∙ ap (λ (k : ℕ). option_map (shown (paths k)) (slice_get nodes j)) e

-- the path of a node
abbrev pub path_of : Inside → ℕ → ℕ → List ℕ
path_of i depth node = path_in (paths_at (nodes_in i.stack) (i.prefix.items ∷ []) i.stack.first (depth - i.stack.first)) node

pub node-seen : (i : Inside) → the_invariant i → (depth node : ℕ) → i.stack.first ≤ depth → depth ≤ i.stack.last
    → node_at (diagram_of (the_view i)) depth node ≡ option_map (shown (path_of i depth node)) (slice_get (nodes_in i.stack depth) node)
node-seen i h depth node low high =
    let begun = h.first in
    let away : depth - length i.prefix.items ≡ depth - i.stack.first = ap (λ (n : ℕ). depth - n) (sym begun) in
    let layer = layer-down (nodes_in i.stack) (i.prefix.items ∷ []) i.stack.first (i.stack.last - i.stack.first) (depth - i.stack.first) depth (omega arith) (omega arith) in
    let from-zero : 0 + node ≡ node = omega arith in
    ap (λ (o : Option (List DdNode)). option_and_then (λ (l : List DdNode). slice_get l node) o) (ap (slice_get (shown_stack i.prefix.items i.stack)) away ∙ layer)
    ∙ (get-shown (path_in (paths_at (nodes_in i.stack) (i.prefix.items ∷ []) i.stack.first (depth - i.stack.first))) 0 (nodes_in i.stack depth) node
    ∙ ap (λ (k : ℕ). option_map (shown (path_of i depth k)) (slice_get (nodes_in i.stack depth) node)) from-zero)

-- what is read of a node in memory is read of what is seen of it
map-map : {X Y Z : Type 0} (f : Y → Z) (g : X → Y) (o : Option X) → option_map f (option_map g o) ≡ option_map (λ x. f (g x)) o
map-map f g None = refl
map-map f g (Some x) = refl

pub read-seen : {X : Type 0} (i : Inside) → the_invariant i → (depth node : ℕ) → i.stack.first ≤ depth → depth ≤ i.stack.last → (f : DdNode → X) (x : X)
    → option_map (λ (n : NodeView). f (shown (path_of i depth node) n)) (slice_get (nodes_in i.stack depth) node) ≡ Some x → option_map f (node_at (diagram_of (the_view i)) depth node) ≡ Some x
read-seen i h depth node low high f x e = ap (option_map f) (node-seen i h depth node low high) ∙ (map-map f (shown (path_of i depth node)) (slice_get (nodes_in i.stack depth) node) ∙ e)

-- and so of a node of the last layer
pub read-last : {X : Type 0} (i : Inside) → the_invariant i → (node : ℕ) → (f : DdNode → X) (x : X)
    → option_map (λ (n : NodeView). f (shown (path_in (last_paths i) node) n)) (slice_get i.stack.newest.nodes node) ≡ Some x → option_map f (slice_get (last_layer (the_view i).layers) node) ≡ Some x
read-last i h node f x e =
    let ps = last_paths i in
    let nodes = i.stack.newest.nodes in
    let from-zero : 0 + node ≡ node = omega arith in
    ap (λ (l : List DdNode). option_map f (slice_get l node)) (last-seen i h)
    ∙ (ap (option_map f) (get-shown (path_in ps) 0 nodes node ∙ ap (λ (k : ℕ). option_map (shown (path_in ps k)) (slice_get nodes node)) from-zero)
    ∙ (map-map f (shown (path_in ps node)) (slice_get nodes node) ∙ e))

pub read-at : {X : Type 0} (f : NodeView → X) {l m : LayerView} {x : X} (node : ℕ) → l ≡ m → option_map f (slice_get l.nodes node) ≡ Some x → option_map f (slice_get m.nodes node) ≡ Some x
read-at f {l} {m} {x} node same e = subst (λ (k : LayerView). option_map f (slice_get k.nodes node) ≡ Some x) same e

then-map : {X Y Z : Type 0} (f : Y → Option Z) (g : X → Y) (o : Option X) → option_and_then f (option_map g o) ≡ option_and_then (λ x. f (g x)) o
then-map f g None = refl
then-map f g (Some x) = refl

pub then-seen : {X : Type 0} (i : Inside) → the_invariant i → (depth node : ℕ) → i.stack.first ≤ depth → depth ≤ i.stack.last → (f : DdNode → Option X)
    → option_and_then f (node_at (diagram_of (the_view i)) depth node) ≡ option_and_then (λ (n : NodeView). f (shown (path_of i depth node) n)) (slice_get (nodes_in i.stack depth) node)
then-seen i h depth node low high f = ap (option_and_then f) (node-seen i h depth node low high) ∙ then-map f (shown (path_of i depth node)) (slice_get (nodes_in i.stack depth) node)

some-then : {X Y : Type 0} (f : X → Option Y) (o : Option X) → IsSome (option_and_then f o) → IsSome o
some-then f None some = absurd (let clash : false ≡ true = some in cc)
some-then f (Some x) some = refl

pub arc-place : {X : Type 0} (s : SpaceView) (depth node : ℕ) (f : DdNode → Option X) → IsSome (option_and_then f (node_at (diagram_of s) depth node)) → IsSome (node_at (diagram_of s) depth node)
arc-place s depth node f some = some-then f (node_at (diagram_of s) depth node) some

pub begun-low : (i : Inside) → the_invariant i → (s : SpaceView) → the_view i ≡ s → (depth : ℕ) → length s.prefix ≤ depth → i.stack.first ≤ depth
begun-low i h s e depth low = (let begun = h.first in let same = ap (λ (t : SpaceView). length t.prefix) e in omega arith)

pub layer-seen : (i : Inside) → the_invariant i → (depth : ℕ) → i.stack.first ≤ depth → depth ≤ i.stack.last → length (layer_at (the_view i) depth) ≡ length (nodes_in i.stack depth)
layer-seen i h depth low high =
    let begun = h.first in
    let away : depth - length i.prefix.items ≡ depth - i.stack.first = ap (λ (n : ℕ). depth - n) (sym begun) in
    let layer = layer-down (nodes_in i.stack) (i.prefix.items ∷ []) i.stack.first (i.stack.last - i.stack.first) (depth - i.stack.first) depth (omega arith) (omega arith) in
    ap (λ (o : Option (List DdNode)). length (unwrap_or o [])) (ap (slice_get (shown_stack i.prefix.items i.stack)) away ∙ layer)
    ∙ length-shown (path_in (paths_at (nodes_in i.stack) (i.prefix.items ∷ []) i.stack.first (depth - i.stack.first))) 0 (nodes_in i.stack depth)
