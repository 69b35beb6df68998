-- Paths of nodes, walked back through the layers, and what a loop over layers or nodes has seen.
use Rattle.std.proofs.Common.{◌≡◌, ℕ, zero, suc, ◌+◌, ◌-◌, ◌<◌, ◌≤◌, nat_lt, pos, Bool, true, false, cond, List, [], ◌∷◌, ◌++◌, set, drop, length, get_or, slice_index_or, slice_get, position, sum_by, Option, Some, None, option_map, ◌⊎◌, inl, inr, refl, sym, ap, ap₂, ◌∙◌, arith, append_assoc}
use Rattle.std.proofs.lemmas.Bool.Decides.{nat_tests}
use Rattle.std.proofs.lemmas.List.{length-append, length-set, length-map, length_push, drop-set, get_or-map, get_or_past}
use Rattle.std.proofs.lemmas.List.Sums.{position_or_len_is, sum_by-cons}
use Rattle.std.proofs.lemmas.Option.{slice_get-get_or}
use Rattle.dp_laws.specs.Diagrams.Nodes.{DdNode, path_below}
use Rattle.layer_nodes.specs.Holding.{places_of}
use Rattle.layer_nodes.specs.Nodes.{NodeView, shown_layer}
use Rattle.layer_build.specs.declared.stack.Stack.{Stack}
use Rattle.layer_build.specs.Stacked.{place_of, nodes_in, path_in, paths_below, paths_at, places_down, places_above, places_from, shown_down, shown_stack, HasAllDepths}
use Rattle.layer_build.proofs.Held.{length-places, newest-nodes}
use Rattle.layer_build.proofs.Shown.{length-shown, paths-last}
use Rattle.layer_build.proofs.Stacks.{place-low}

abbrev pub no_node : NodeView
no_node = record { row = []; place = 0; value = pos 0; rank = pos 0; hash = 0; exact = false; parent = None; decision = 0; arcs = []; suffix = None }

-- a depth down to the last one has its place
pub place-held : (s : Stack) (depth : ℕ) → HasAllDepths s → depth ≤ s.last → place_of s.vars s.first depth < length s.layers.items
place-held s depth h low = let deep = h.last in let place = place-low s.vars s.first depth (omega arith) in let count = h.count in omega arith

-- what is read of the node at a place
pub some-is : {X : Type 0} (x y : X) → Some x ≡ Some y → x ≡ y
some-is x y e = cc

pub read-is : {X : Type 0} (f : NodeView → X) (nodes : List NodeView) (i : ℕ) (x : X) → i < length nodes → option_map f (slice_get nodes i) ≡ Some x → f (get_or nodes i no_node) ≡ x
read-is f nodes i x less e = some-is (f (get_or nodes i no_node)) x (ap (option_map f) (sym (slice_get-get_or nodes i no_node less)) ∙ e)

-- ---- a path, walked back

-- the path of the node at the place of the layer at depth k
abbrev pub path_of : (ℕ → List NodeView) → List ℕ → ℕ → ℕ → ℕ → List ℕ
path_of nodes prefix first k at = path_in (paths_at nodes (prefix ∷ []) first (k - first)) at

-- the decisions below depth k are written, and the rest is the path of the node at the place there
pub record IsWalked (s : Stack) (prefix out : List ℕ) (depth node k at : ℕ) : Type 0 where
  pub above : s.first ≤ k
  pub low : k ≤ depth
  pub size : length out ≡ depth
  pub place : s.first < k → at < length (nodes_in s k)
  pub long : length (path_of (nodes_in s) prefix s.first k at) ≡ k
  pub list : path_of (nodes_in s) prefix s.first k at ++ drop k out ≡ path_of (nodes_in s) prefix s.first depth node

-- the paths of the nodes of a layer below the first one
paths-are : (nodes : ℕ → List NodeView) (prefix : List ℕ) (first k : ℕ) → first < k
    → paths_at nodes (prefix ∷ []) first (k - first) ≡ paths_below (paths_at nodes (prefix ∷ []) first (k - 1 - first)) (nodes k)
paths-are nodes prefix first k less =
    let more : k - first ≡ suc (k - 1 - first) = omega arith in
    ap (paths_at nodes (prefix ∷ []) first) more ∙ paths-last nodes (prefix ∷ []) first (k - 1 - first) k (omega arith)

pub path-by-parent : (nodes : ℕ → List NodeView) (prefix : List ℕ) (first k at : ℕ) → first < k → at < length (nodes k)
    → path_of nodes prefix first k at ≡ path_below (path_of nodes prefix first (k - 1)) (get_or (nodes k) at no_node).parent (get_or (nodes k) at no_node).decision
path-by-parent nodes prefix first k at less within =
    let above = paths_at nodes (prefix ∷ []) first (k - 1 - first) in
    ap (λ (ps : List (List ℕ)). path_in ps at) (paths-are nodes prefix first k less)
    ∙ get_or-map (λ (node : NodeView). path_below (path_in above) node.parent node.decision) (nodes k) at no_node [] within

-- a place with a path that is not empty is one of a node
pub place-is : (nodes : ℕ → List NodeView) (prefix : List ℕ) (first k at : ℕ) → first < k → length (path_of nodes prefix first k at) ≡ k → at < length (nodes k)
place-is nodes prefix first k at less long = go (grind arith)
  where
    go : (at < length (nodes k)) ⊎ (length (nodes k) ≤ at) → at < length (nodes k)
    go (inl within) = within
    go (inr past) =
        let above = paths_at nodes (prefix ∷ []) first (k - 1 - first) in
        let many : length (paths_below above (nodes k)) ≡ length (nodes k) = length-map (nodes k) (λ (node : NodeView). path_below (path_in above) node.parent node.decision) in
        let none : path_in (paths_below above (nodes k)) at ≡ [] = get_or_past (paths_below above (nodes k)) at [] (omega arith) in
        let empty : length (path_of nodes prefix first k at) ≡ 0 = ap (λ (ps : List (List ℕ)). length (path_in ps at)) (paths-are nodes prefix first k less) ∙ ap (λ (l : List ℕ). length l) none in
        absurd (omega arith)

pub walked-more : (s : Stack) (prefix out : List ℕ) (depth node k at : ℕ) → IsWalked s prefix out depth node k at → s.first < k
    → (d : ℕ) → option_map (λ (n : NodeView). n.decision) (slice_get (nodes_in s k) at) ≡ Some d
    → (place : ℕ) → ((i : ℕ) → option_map (λ (n : NodeView). n.parent) (slice_get (nodes_in s k) at) ≡ Some (Some i) → place ≡ i)
    → IsWalked s prefix (set out (k - 1) d) depth node (k - 1) place
walked-more s prefix out depth node k at h less d decision place next = go parent refl
  where
    parent : Option ℕ
    parent = (get_or (nodes_in s k) at no_node).parent

    split : path_of (nodes_in s) prefix s.first k at ≡ path_below (path_of (nodes_in s) prefix s.first (k - 1)) parent d
    split =
        path-by-parent (nodes_in s) prefix s.first k at less (h.place less)
        ∙ ap (path_below (path_of (nodes_in s) prefix s.first (k - 1)) parent) (read-is (λ (n : NodeView). n.decision) (nodes_in s k) at d (h.place less) decision)

    go : (o : Option ℕ) → parent ≡ o → IsWalked s prefix (set out (k - 1) d) depth node (k - 1) place
    go None e =
        let none : path_of (nodes_in s) prefix s.first k at ≡ [] = split ∙ ap (λ (o : Option ℕ). path_below (path_of (nodes_in s) prefix s.first (k - 1)) o d) e in
        let empty = ap (λ (l : List ℕ). length l) none in
        let long = h.long in
        absurd (omega arith)
    go (Some p) e =
        let to : place ≡ p = next p (ap (option_map (λ (n : NodeView). n.parent)) (slice_get-get_or (nodes_in s k) at no_node (h.place less)) ∙ ap (λ (q : Option ℕ). Some q) e) in
        let rest = path_of (nodes_in s) prefix s.first (k - 1) place in
        let is : path_of (nodes_in s) prefix s.first k at ≡ rest ++ d ∷ [] =
        split ∙ (ap (λ (o : Option ℕ). path_below (path_of (nodes_in s) prefix s.first (k - 1)) o d) e ∙ ap (λ (i : ℕ). path_of (nodes_in s) prefix s.first (k - 1) i ++ d ∷ []) (sym to)) in
        let one = ap (λ (l : List ℕ). length l) is in
        let more = length_push rest d in
        let long = h.long in
        let short : length rest ≡ k - 1 = omega arith in
        let size = h.size in
        let low = h.low in
        let again : k - 1 + 1 ≡ k = omega arith in
        let tail : drop (k - 1) (set out (k - 1) d) ≡ d ∷ drop k out = drop-set out (k - 1) d (omega arith) ∙ ap (λ (i : ℕ). d ∷ drop i out) again in
        record {
          above = omega arith;
          low = omega arith;
          size = length-set out (k - 1) d ∙ h.size;
          place = λ deeper. place-is (nodes_in s) prefix s.first (k - 1) place deeper short;
          long = short;
          list = ap (λ (l : List ℕ). rest ++ l) tail ∙ (sym (append_assoc rest (d ∷ []) (drop k out)) ∙ (ap (λ (l : List ℕ). l ++ drop k out) (sym is) ∙ h.list));
        }

-- ---- the first exact node

-- none of the first nodes is exact
abbrev pub NoneExact : List NodeView → ℕ → Type 0
NoneExact nodes i = (k : ℕ) → k < i → (get_or nodes k no_node).exact ≡ false

pub none-more : (nodes : List NodeView) (i : ℕ) → NoneExact nodes i → (get_or nodes i no_node).exact ≡ false → NoneExact nodes (i + 1)
none-more nodes i h here k less = go (grind arith)
  where
    go : (k < i) ⊎ (k ≡ i) → (get_or nodes k no_node).exact ≡ false
    go (inl before) = h k before
    go (inr e) = ap (λ (j : ℕ). (get_or nodes j no_node).exact) e ∙ here

placed : (n i : ℕ) (o : ℕ) → o ≡ i → (b : Bool) → nat_lt i n ≡ b → cond (nat_lt o n) (Some o) None ≡ cond b (Some i) None
placed n i o e b t = ap (λ (j : ℕ). cond (nat_lt j n) (Some j) None) e ∙ ap (λ (c : Bool). cond c (Some i) None) t

pub exact-at : (nodes : List NodeView) (i : ℕ) → NoneExact nodes i → i < length nodes → (get_or nodes i no_node).exact ≡ true → position (λ (n : NodeView). n.exact) nodes ≡ Some i
exact-at nodes i h less here =
    placed (length nodes) i _ (position_or_len_is (λ (n : NodeView). n.exact) nodes i no_node (omega arith) h (λ _. here)) true (grind (arith, nat_tests))

pub none-exact : (nodes : List NodeView) → NoneExact nodes (length nodes) → position (λ (n : NodeView). n.exact) nodes ≡ None
none-exact nodes h =
    placed (length nodes) (length nodes) _ (position_or_len_is (λ (n : NodeView). n.exact) nodes (length nodes) no_node (omega arith) h (λ less. absurd (omega arith))) false (grind (arith, nat_tests))

-- ---- how many nodes the layers have

pub layer-down : (nodes : ℕ → List NodeView) (ps : List (List ℕ)) (k m j : ℕ) → j ≤ m → slice_index_or (shown_down nodes ps k m) j [] ≡ shown_layer (path_in (paths_at nodes ps k j)) (nodes (k + j))
layer-down nodes ps k zero zero low = let e : k ≡ k + 0 = omega arith in ap (λ (i : ℕ). shown_layer (path_in ps) (nodes i)) e
layer-down nodes ps k zero (suc j) low = absurd (omega arith)
layer-down nodes ps k (suc m) zero low = let e : k ≡ k + 0 = omega arith in ap (λ (i : ℕ). shown_layer (path_in ps) (nodes i)) e
layer-down nodes ps k (suc m) (suc j) low =
    let e : k + 1 + j ≡ k + suc j = omega arith in
    layer-down nodes (paths_below ps (nodes (k + 1))) (k + 1) m j (omega arith) ∙ ap (λ (i : ℕ). shown_layer (path_in (paths_at nodes ps k (suc j))) (nodes i)) e

-- the layer at a depth, as it is seen
pub layer-seen : (s : Stack) (prefix : List ℕ) (depth : ℕ) → s.first ≤ depth → depth ≤ s.last
    → slice_index_or (shown_stack prefix s) (depth - s.first) [] ≡ shown_layer (path_of (nodes_in s) prefix s.first depth) (nodes_in s depth)
layer-seen s prefix depth above low =
    let e : s.first + (depth - s.first) ≡ depth = omega arith in
    layer-down (nodes_in s) (prefix ∷ []) s.first (s.last - s.first) (depth - s.first) (omega arith)
    ∙ ap (λ (i : ℕ). shown_layer (path_of (nodes_in s) prefix s.first depth) (nodes_in s i)) e

-- how many nodes the layers have
abbrev pub count_all : List (List DdNode) → ℕ
count_all layers = sum_by (λ (layer : List DdNode). length layer) layers

count-more : (layer : List DdNode) (layers : List (List DdNode)) → count_all (layer ∷ layers) ≡ length layer + count_all layers
count-more layer layers = sum_by-cons (λ (l : List DdNode). length l) layer layers

-- they are as many as their rows have places
shown-counted : (nodes : ℕ → List NodeView) (ps : List (List ℕ)) (k m : ℕ) → count_all (shown_down nodes ps k m) ≡ length (places_down nodes k m) + length (nodes (k + m))
shown-counted nodes ps k zero =
    let same : k ≡ k + 0 = omega arith in
    count-more (shown_layer (path_in ps) (nodes k)) [] ∙ (ap (λ (n : ℕ). n + 0) (length-shown (path_in ps) 0 (nodes k)) ∙ (omega arith ∙ ap (λ (d : ℕ). 0 + length (nodes d)) same))
shown-counted nodes ps k (suc m) =
    let here = length-shown (path_in ps) 0 (nodes k) in
    let places = length-places (nodes k) in
    let both = length-append (places_of (nodes k)) (places_down nodes (k + 1) m) in
    let rest = shown-counted nodes (paths_below ps (nodes (k + 1))) (k + 1) m in
    let end : length (nodes (k + 1 + m)) ≡ length (nodes (k + suc m)) = ap (λ (d : ℕ). length (nodes d)) (let same : k + 1 + m ≡ k + suc m = omega arith in same) in
    count-more (shown_layer (path_in ps) (nodes k)) (shown_down nodes (paths_below ps (nodes (k + 1))) (k + 1) m) ∙ omega arith

rest-counted : (nodes : ℕ → List NodeView) (ps : List (List ℕ)) (k m j : ℕ) → j ≤ m → count_all (drop j (shown_down nodes ps k m)) ≡ length (places_down nodes (k + j) (m - j)) + length (nodes (k + m))
rest-counted nodes ps k m zero low = shown-counted nodes ps k m ∙ ap₂ (λ (d n : ℕ). length (places_down nodes d n) + length (nodes (k + m))) (let same : k ≡ k + 0 = omega arith in same) (let all : m ≡ m - 0 = omega arith in all)
rest-counted nodes ps k zero (suc j) low = absurd (omega arith)
rest-counted nodes ps k (suc m) (suc j) low =
    let from : k + 1 + j ≡ k + suc j = omega arith in
    let left : m - j ≡ suc m - suc j = omega arith in
    let end : length (nodes (k + 1 + m)) ≡ length (nodes (k + suc m)) = ap (λ (d : ℕ). length (nodes d)) (let same : k + 1 + m ≡ k + suc m = omega arith in same) in
    rest-counted nodes (paths_below ps (nodes (k + 1))) (k + 1) m j (omega arith) ∙ ap₂ (λ (a b : ℕ). a + b) (ap₂ (λ (d n : ℕ). length (places_down nodes d n)) from left) end

pub held-counted : (s : Stack) (prefix : List ℕ) (held : ℕ) → s.first ≤ held → held ≤ s.last → count_all (drop (held - s.first) (shown_stack prefix s)) ≡ length (places_from held s)
held-counted s prefix held begun low =
    let from : s.first + (held - s.first) ≡ held = omega arith in
    let left : s.last - s.first - (held - s.first) ≡ s.last - held = omega arith in
    let end : s.first + (s.last - s.first) ≡ s.last = omega arith in
    let places = length-places s.newest.nodes in
    let both = length-append (places_above held s) (places_of s.newest.nodes) in
    rest-counted (nodes_in s) (prefix ∷ []) s.first (s.last - s.first) (held - s.first) (omega arith)
    ∙ (ap₂ (λ (a b : ℕ). a + b) (ap₂ (λ (d n : ℕ). length (places_down (nodes_in s) d n)) from left) (ap (λ (d : ℕ). length (nodes_in s d)) end ∙ ap (λ (l : List NodeView). length l) (newest-nodes s)) ∙ omega arith)
