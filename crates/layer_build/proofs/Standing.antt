-- What the readers of a workspace find in its layers.
use Rattle.std.proofs.Common.{◌≡◌, ℕ, zero, suc, ◌+◌, ◌-◌, ◌<◌, ◌≤◌, nat_lt, Bool, true, false, cond, List, [], ◌∷◌, ◌++◌, take, drop, length, get_or, slice_index_or, slice_get, position, Option, Some, None, IsSome, IsTrue, option_map, option_and_then, ◌⊎◌, inl, inr, refl, sym, ap, ap₂, ◌∙◌, subst, arith}
use Rattle.std.proofs.lemmas.Bool.Decides.{nat_tests}
use Rattle.std.proofs.lemmas.List.Sums.{fails_before_first}
use Rattle.std.proofs.lemmas.List.Quantifiers.{position-Some}
use Rattle.std.proofs.lemmas.Option.{slice_get-get_or, slice_get_past}
use Rattle.std.proofs.Math.Seq.{take-append_seam}
use Rattle.std.proofs.lemmas.List.{length-append, length-drop}
use Rattle.std.specs.List.{position_or_len}
use Rattle.dp_model.specs.Lists.{Each}
use Rattle.dp_laws.specs.Diagrams.Nodes.{DdNode, node_at}
use Rattle.dp_laws.specs.Diagrams.Cutsets.{first_exact}
use Rattle.layer_nodes.specs.Nodes.{NodeView, shown, shown_from, shown_layer}
use Rattle.layer_build.specs.contracts.workspace.Workspace.{the_view, the_invariant}
use Rattle.layer_build.specs.declared.workspace.Workspace.TheInside.{Inside}
use Rattle.layer_build.specs.Layers.{SpaceView, diagram_of, last_depth, last_layer}
use Rattle.layer_build.specs.Stacked.{nodes_in, path_in, shown_stack, HasDepth, HasAllDepths, HaveDepth, HaveDepths}
use Rattle.layer_build.proofs.Going.{deep, last_paths, last-seen}
use Rattle.layer_build.proofs.Shown.{length-down, length-shown}
use Rattle.layer_build.proofs.Stacks.{newest-at, count-of}
use Rattle.layer_build.proofs.Walked.{no_node, NoneExact, path_of, layer-seen, place-held}

-- it has a layer for each depth
pub has-all-depths : (i : Inside) → the_invariant i → HasAllDepths i.stack
has-all-depths i h =
    let items = i.stack.layers.items in
    let count = count-of _ _ _ _ items h.stack.rooms in
    record {
      small = h.stack.small;
      last = h.stack.last;
      count = omega arith;
    }

-- and there is one for each depth down to the last one
pub has-depth : (i : Inside) → the_invariant i → (depth : ℕ) → depth ≤ i.stack.last → HasDepth i.stack depth
has-depth i h depth low =
    let few = has-all-depths i h in
    let small = h.stack.small in
    let ordered = h.stack.first in
    let deep = h.stack.last in
    record { first = omega arith; place = place-held i.stack depth few low }

-- ---- one node

shown-at : (paths : ℕ → List ℕ) (p : ℕ) (nodes : List NodeView) (i : ℕ) → i < length nodes → slice_get (shown_from paths p nodes) i ≡ Some (shown (paths (p + i)) (get_or nodes i no_node))
shown-at paths p [] i less = absurd (omega arith)
shown-at paths p (n ∷ nodes) zero less = let e : p ≡ p + 0 = omega arith in ap (λ (j : ℕ). Some (shown (paths j) n)) e
shown-at paths p (n ∷ nodes) (suc i) less =
    let e : p + 1 + i ≡ p + suc i = omega arith in
    shown-at paths (p + 1) nodes i (omega arith) ∙ ap (λ (j : ℕ). Some (shown (paths j) (get_or nodes i no_node))) e

-- the node that stands at the depth and the place
pub record StandsAt (i : Inside) (depth node : ℕ) : Type 0 where
  pub above : i.stack.first ≤ depth
  pub low : depth ≤ i.stack.last
  pub within : node < length (nodes_in i.stack depth)
  pub is : node_at (diagram_of (the_view i)) depth node ≡ Some (shown (path_of (nodes_in i.stack) i.prefix.items i.stack.first depth node) (get_or (nodes_in i.stack depth) node no_node))

none-some : {X : Type 0} (o : Option X) → o ≡ None → IsSome o → ⊥
none-some None e h = absurd (let clash : false ≡ true = h in cc)
none-some (Some x) e h = absurd (let clash : Some x ≡ None = e in cc)

some-of : {X : Type 0} (f : DdNode → X) (o : Option DdNode) (x : X) → option_map f o ≡ Some x → IsSome o
some-of f None x e = absurd (let clash : None ≡ Some x = e in cc)
some-of f (Some n) x e = refl

pub stands-at : (i : Inside) → the_invariant i → (depth node : ℕ) → length i.prefix.items ≤ depth → IsSome (node_at (diagram_of (the_view i)) depth node) → StandsAt i depth node
stands-at i h depth node begun some = deep (grind arith)
  where
    layers : List (List DdNode)
    layers = shown_stack i.prefix.items i.stack

    long : length layers ≡ i.stack.last - i.stack.first + 1
    long = length-down (nodes_in i.stack) (i.prefix.items ∷ []) i.stack.first (i.stack.last - i.stack.first)

    paths : ℕ → List ℕ
    paths = path_of (nodes_in i.stack) i.prefix.items i.stack.first depth

    there : depth ≤ i.stack.last → node_at (diagram_of (the_view i)) depth node ≡ slice_get (shown_layer paths (nodes_in i.stack depth)) node
    there low =
        let first = h.first in
        let ordered = h.stack.first in
        let size = long in
        ap (option_and_then (λ layer. slice_get layer node)) (slice_get-get_or layers (depth - length i.prefix.items) [] (omega arith))
        ∙ ap (λ (l : List DdNode). slice_get l node) (ap (λ (b : ℕ). slice_index_or layers (depth - b) []) (sym first) ∙ layer-seen i.stack i.prefix.items depth (omega arith) low)

    placed : depth ≤ i.stack.last → (node < length (nodes_in i.stack depth)) ⊎ (length (nodes_in i.stack depth) ≤ node) → StandsAt i depth node
    placed low (inl less) =
        let first = h.first in
        let e : 0 + node ≡ node = omega arith in
        record { above = omega arith; low = low; within = less; is = there low ∙ (shown-at paths 0 (nodes_in i.stack depth) node less ∙ ap (λ (j : ℕ). Some (shown (paths j) (get_or (nodes_in i.stack depth) node no_node))) e) }
    placed low (inr past) =
        let count = length-shown paths 0 (nodes_in i.stack depth) in
        absurd (none-some (node_at (diagram_of (the_view i)) depth node) (there low ∙ slice_get_past (shown_layer paths (nodes_in i.stack depth)) node (omega arith)) some)

    deep : (depth ≤ i.stack.last) ⊎ (i.stack.last < depth) → StandsAt i depth node
    deep (inl low) = placed low (grind arith)
    deep (inr past) =
        let first = h.first in
        let ordered = h.stack.first in
        let size = long in
        absurd (none-some (node_at (diagram_of (the_view i)) depth node) (ap (option_and_then (λ layer. slice_get layer node)) (slice_get_past layers (depth - length i.prefix.items) (omega arith))) some)

-- the same, as a caller knows it
pub stands-so : {X : Type 0} (f : DdNode → X) (x : X) (i : Inside) → the_invariant i → (s : SpaceView) → the_view i ≡ s → (depth node : ℕ) → length s.prefix ≤ depth → option_map f (node_at (diagram_of s) depth node) ≡ Some x → StandsAt i depth node
stands-so f x i h s e depth node begun is =
    stands-at i h depth node (subst (λ (t : SpaceView). length t.prefix ≤ depth) (sym e) begun)
    (some-of f (node_at (diagram_of (the_view i)) depth node) x (subst (λ (t : SpaceView). option_map f (node_at (diagram_of t) depth node) ≡ Some x) (sym e) is))

pub stands-some : (i : Inside) → the_invariant i → (s : SpaceView) → the_view i ≡ s → (depth node : ℕ) → length s.prefix ≤ depth → IsSome (node_at (diagram_of s) depth node) → StandsAt i depth node
stands-some i h s e depth node begun some =
    stands-at i h depth node (subst (λ (t : SpaceView). length t.prefix ≤ depth) (sym e) begun) (subst (λ (t : SpaceView). IsSome (node_at (diagram_of t) depth node)) (sym e) some)

-- ---- the depth of a path

depths-at : (k : ℕ) (layers : List (List DdNode)) (j : ℕ) → HaveDepths k layers → j < length layers → HaveDepth (k + j) (slice_index_or layers j [])
depths-at k [] j h less = absurd (omega arith)
depths-at k (layer ∷ layers) zero h less = let e : k ≡ k + 0 = omega arith in subst (λ (d : ℕ). HaveDepth d layer) e h.0
depths-at k (layer ∷ layers) (suc j) h less =
    let e : k + 1 + j ≡ k + suc j = omega arith in
    subst (λ (d : ℕ). HaveDepth d (slice_index_or layers j [])) e (depths-at (k + 1) layers j h.1 (omega arith))

each-shown : (P : DdNode → Type 0) (paths : ℕ → List ℕ) (p : ℕ) (nodes : List NodeView) (i : ℕ) → Each P (shown_from paths p nodes) → i < length nodes → P (shown (paths (p + i)) (get_or nodes i no_node))
each-shown P paths p [] i h less = absurd (omega arith)
each-shown P paths p (n ∷ nodes) zero h less = let e : p ≡ p + 0 = omega arith in subst (λ (j : ℕ). P (shown (paths j) n)) e h.0
each-shown P paths p (n ∷ nodes) (suc i) h less =
    let e : p + 1 + i ≡ p + suc i = omega arith in
    subst (λ (j : ℕ). P (shown (paths j) (get_or nodes i no_node))) e (each-shown P paths (p + 1) nodes i h.1 (omega arith))

pub whole-path : (i : Inside) → the_invariant i → (depth node : ℕ) → i.stack.first ≤ depth → depth ≤ i.stack.last → node < length (nodes_in i.stack depth) → (get_or (nodes_in i.stack depth) node no_node).exact ≡ true
    → length (path_of (nodes_in i.stack) i.prefix.items i.stack.first depth node) ≡ depth
whole-path i h depth node above low within exact =
    let layers = shown_stack i.prefix.items i.stack in
    let long = length-down (nodes_in i.stack) (i.prefix.items ∷ []) i.stack.first (i.stack.last - i.stack.first) in
    let at : i.stack.first + (depth - i.stack.first) ≡ depth = omega arith in
    let same : 0 + node ≡ node = omega arith in
    let paths = path_of (nodes_in i.stack) i.prefix.items i.stack.first depth in
    let here : HaveDepth (i.stack.first + (depth - i.stack.first)) (slice_index_or layers (depth - i.stack.first) []) = depths-at i.stack.first layers (depth - i.stack.first) h.depths (omega arith) in
    let there : HaveDepth depth (shown_layer paths (nodes_in i.stack depth)) =
    subst (λ (d : ℕ). HaveDepth d (shown_layer paths (nodes_in i.stack depth))) at (subst (HaveDepth (i.stack.first + (depth - i.stack.first))) (layer-seen i.stack i.prefix.items depth above low) here) in
    ap (λ (j : ℕ). length (paths j)) (sym same) ∙ each-shown (λ (n : DdNode). IsTrue n.exact → length n.path ≡ depth) paths 0 (nodes_in i.stack depth) node there within exact

-- ---- the first exact node of a layer

pub first-at : (paths : ℕ → List ℕ) (p : ℕ) (nodes : List NodeView) (j : ℕ) → NoneExact nodes j → j < length nodes → (get_or nodes j no_node).exact ≡ true
    → first_exact (shown_from paths p nodes) ≡ Some (record { decisions = paths (p + j); value = (get_or nodes j no_node).value })
first-at paths p [] j none less exact = absurd (omega arith)
first-at paths p (n ∷ nodes) zero none less exact =
    let e : p ≡ p + 0 = omega arith in
    ap (λ (b : Bool). cond b (Some (record { decisions = paths p; value = n.value })) (first_exact (shown_from paths (p + 1) nodes))) exact
    ∙ ap (λ (k : ℕ). Some (record { decisions = paths k; value = n.value })) e
first-at paths p (n ∷ nodes) (suc j) none less exact =
    let e : p + 1 + j ≡ p + suc j = omega arith in
    ap (λ (b : Bool). cond b (Some (record { decisions = paths p; value = n.value })) (first_exact (shown_from paths (p + 1) nodes))) (none 0 (omega arith))
    ∙ (first-at paths (p + 1) nodes j (λ k before. none (suc k) (omega arith)) (omega arith) exact
    ∙ ap (λ (k : ℕ). Some (record { decisions = paths k; value = (get_or nodes j no_node).value })) e)

pub first-none : (paths : ℕ → List ℕ) (p : ℕ) (nodes : List NodeView) → NoneExact nodes (length nodes) → first_exact (shown_from paths p nodes) ≡ None
first-none paths p [] none = refl
first-none paths p (n ∷ nodes) none =
    ap (λ (b : Bool). cond b (Some (record { decisions = paths p; value = n.value })) (first_exact (shown_from paths (p + 1) nodes))) (none 0 (omega arith))
    ∙ first-none paths (p + 1) nodes (λ k before. none (suc k) (omega arith))

not-placed : (n o : ℕ) (b : Bool) → nat_lt o n ≡ b → cond b (Some o) None ≡ None → n ≤ o
not-placed n o true t e = absurd (let clash : Some o ≡ None = e in cc)
not-placed n o false t e = grind (arith, nat_tests)

none-of : (nodes : List NodeView) → position (λ (n : NodeView). n.exact) nodes ≡ None → NoneExact nodes (length nodes)
none-of nodes e k less =
    let past = not-placed (length nodes) (position_or_len (λ (n : NodeView). n.exact) nodes) (nat_lt (position_or_len (λ (n : NodeView). n.exact) nodes) (length nodes)) refl e in
    fails_before_first (λ (n : NodeView). n.exact) nodes k no_node (omega arith)

pub not-found : (i : Inside) → the_invariant i → (s : SpaceView) → the_view i ≡ s → position (λ (n : NodeView). n.exact) i.stack.newest.nodes ≡ None → first_exact (last_layer s.layers) ≡ None
not-found i h s e none =
    ap (λ (t : SpaceView). first_exact (last_layer t.layers)) (sym e)
    ∙ (ap first_exact (last-seen i h) ∙ first-none (path_in (last_paths i)) 0 i.stack.newest.nodes (none-of i.stack.newest.nodes none))

-- the first exact node of the last layer: its place, its path and its value
pub record IsFirstAt (i : Inside) (s : SpaceView) (j : ℕ) : Type 0 where
  pub within : j < length i.stack.newest.nodes
  pub there : j < length (nodes_in i.stack i.stack.last)
  pub whole : length (path_of (nodes_in i.stack) i.prefix.items i.stack.first i.stack.last j) ≡ i.stack.last
  pub found : first_exact (last_layer s.layers) ≡ Some (record { decisions = path_of (nodes_in i.stack) i.prefix.items i.stack.first i.stack.last j; value = (get_or i.stack.newest.nodes j no_node).value })

pub found-at : (i : Inside) → the_invariant i → (s : SpaceView) → the_view i ≡ s → (j : ℕ) → position (λ (n : NodeView). n.exact) i.stack.newest.nodes ≡ Some j → IsFirstAt i s j
found-at i h s e j is =
    let nodes = i.stack.newest.nodes in
    let p = position-Some (λ (n : NodeView). n.exact) nodes j no_node is in
    let ordered = h.stack.first in
    let newest : nodes_in i.stack i.stack.last ≡ nodes = newest-at i.stack.vars i.stack.first i.stack.last i.stack.layers.items i.stack.newest i.stack.last refl in
    let there : j < length (nodes_in i.stack i.stack.last) = subst (λ (l : List NodeView). j < length l) (sym newest) p.0 in
    let same : 0 + j ≡ j = omega arith in
    record {
      within = p.0;
      there = there;
      whole = whole-path i h i.stack.last j ordered (omega arith) there (ap (λ (l : List NodeView). (get_or l j no_node).exact) newest ∙ p.1);
      found = ap (λ (t : SpaceView). first_exact (last_layer t.layers)) (sym e)
          ∙ (ap first_exact (last-seen i h) ∙ (first-at (path_in (last_paths i)) 0 nodes j p.2 p.0 p.1
          ∙ ap (λ (k : ℕ). Some (record { decisions = path_in (last_paths i) k; value = (get_or nodes j no_node).value })) same));
    }

-- ---- the buffer of decisions

-- what was written in front of a buffer
pub written-size : (path buffer out : List ℕ) (d : ℕ) → out ≡ path ++ drop d buffer → length path ≡ d → d ≤ length buffer → length out ≡ length buffer
written-size path buffer out d e deep fits =
    let long = ap (λ (l : List ℕ). length l) e in
    let both = length-append path (drop d buffer) in
    let rest = length-drop d buffer in
    omega arith

pub written-front : (path buffer out : List ℕ) (d : ℕ) → out ≡ path ++ drop d buffer → length path ≡ d → take d out ≡ path
written-front path buffer out d e deep = ap₂ (λ (n : ℕ) (l : List ℕ). take n l) (sym deep) e ∙ take-append_seam path (drop d buffer)

pub taken-back : (out rest : List ℕ) (n : ℕ) → length out ≡ n → take n (out ++ rest) ≡ out
taken-back out rest n e = ap (λ (m : ℕ). take m (out ++ rest)) (sym e) ∙ take-append_seam out rest

pub cells-held : (i : Inside) → the_invariant i → (s : SpaceView) → the_view i ≡ s → last_depth s ≤ length s.path
cells-held i h s e =
    let at = deep i h in
    let size = h.path in
    let low = h.stack.last in
    subst (λ (t : SpaceView). last_depth t ≤ length t.path) e (omega arith)
