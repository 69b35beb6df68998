-- A workspace whose last two layers were changed by a step.
use Rattle.std.proofs.Common.{◌≡◌, ℕ, ◌+◌, ◌-◌, ◌<◌, ◌≤◌, ℤ, Bool, true, false, cond, ◌||◌, List, [], ◌∷◌, map, set, length, get_or, slice_index_or, Option, ◌⊎◌, inl, inr, refl, sym, ap, ap₂, ◌∙◌, subst, arith}
use Rattle.std.specs.Vec.{with_item}
use Rattle.std.proofs.lemmas.List.{get_or-set_other, get_or-set_same}
use Rattle.dp_model.specs.Dp.{Dp}
use Rattle.dp_model.specs.Lists.{Each}
use Rattle.dp_laws.specs.Diagrams.Nodes.{DdNode}
use Rattle.dp_laws.specs.Rules.Compiling.{TwoLayers, prune}
use Rattle.dp_laws.specs.Rules.Pruning.{is_struck, pruned_nodes, prune_redirects}
use Rattle.dp_laws.specs.Rules.Redirects.{with_redirected}
use Rattle.layer_candidates.specs.HeldRows.{HasExchanged}
use Rattle.layer_nodes.specs.Holding.{AreHeld, places_of}
use Rattle.layer_nodes.specs.Nodes.{told_by, told_of, NodeView, LayerView, shown_layer, shown_below, without_arcs}
use Rattle.layer_nodes.specs.Steps.{IsRanked, KeepsNodes, KeepsRoom}
use Rattle.layer_nodes.specs.Stored.{Room}
use Rattle.row_region.specs.Region.{RegionView}
use Rattle.dp_laws.proofs.Rules.Pruned.{few-pruned}
use Rattle.layer_build.specs.contracts.workspace.Workspace.{the_view, the_invariant}
use Rattle.layer_build.specs.declared.workspace.Workspace.TheInside.{Inside}
use Rattle.layer_build.specs.Layers.{last_depth, last_layer, on_last_two}
use Rattle.layer_build.specs.Stacked.{no_layer, place_of, place_above, nodes_in, HaveRooms, HasRows, HaveDepths, path_in, shown_down}
use Rattle.layer_build.specs.UnderWay.{IsUnderWay, last_two}
use Rattle.layer_build.proofs.Held.{HaveSameRows, same-rows, rows-like, room-as}
use Rattle.layer_nodes.proofs.Holding.{held-nodes}
use Rattle.layer_build.proofs.Kept.{last-two}
use Rattle.layer_build.proofs.Shown.{ranks-of}
use Rattle.layer_build.proofs.Stacks.{at_depth, newest-at, kept-at, put-at, places-apart, above-first, above-later, place-low, count-of, rooms-set}
use Rattle.layer_build.proofs.Going.{above_of, below-length, above-is, above-within, place-is, last_paths, deep, last-seen, count-seen, first-or, top-empty, two-view}

-- the workspace with its last two layers changed
abbrev pub changed : Inside → ℕ → LayerView → LayerView → RegionView → Room → Option ℕ → Inside
changed i at x n region redirects first_reduced = record i {
  stack = record { vars = i.stack.vars; first = i.stack.first; last = i.stack.last; layers = with_item i.stack.layers at x; newest = n; region = region };
  redirects = redirects;
  first_reduced = first_reduced;
}

nil-of : (nodes : List NodeView) → map without_arcs nodes ≡ [] → nodes ≡ []
nil-of [] e = refl
nil-of (n ∷ nodes) e = absurd (let clash : without_arcs n ∷ map without_arcs nodes ≡ [] = e in cc)

top-kept : (i : Inside) → the_invariant i → (at : ℕ) (x : LayerView) → at ≡ place_above i.stack.vars i.stack.first i.stack.last → map without_arcs x.nodes ≡ map without_arcs (above_of i).nodes
    → (slice_index_or (set i.stack.layers.items at x) (i.stack.vars + 1) no_layer).nodes ≡ []
top-kept i h at x same bare = go (first-or i h)
  where
    count : length i.stack.layers.items ≡ i.stack.vars + 2
    count = count-of _ _ _ _ i.stack.layers.items h.stack.rooms

    go : (i.stack.first < i.stack.last) ⊎ (i.stack.last ≡ i.stack.first) → (slice_index_or (set i.stack.layers.items at x) (i.stack.vars + 1) no_layer).nodes ≡ []
    go (inl less) =
        let later = above-later i.stack.vars i.stack.first i.stack.last less in
        let low = h.stack.last in
        let place = place-low i.stack.vars i.stack.first (i.stack.last - 1) (omega arith) in
        ap (λ (l : LayerView). l.nodes) (get_or-set_other i.stack.layers.items at (i.stack.vars + 1) x no_layer (λ f. absurd (omega arith))) ∙ h.stack.top
    go (inr e) =
        let here = above-first i.stack.vars i.stack.first i.stack.last e in
        let size = count in
        let empty : x.nodes ≡ [] = nil-of x.nodes (bare ∙ ap (map without_arcs) (top-empty i h e)) in
        subst (λ (k : ℕ). (slice_index_or (set i.stack.layers.items k x) (i.stack.vars + 1) no_layer).nodes ≡ []) (sym (same ∙ here))
        (ap (λ (l : LayerView). l.nodes) (get_or-set_same i.stack.layers.items (i.stack.vars + 1) x no_layer (omega arith)) ∙ empty)

-- the layer above was lent, and came back with other arcs
pub record HasChanged (i : Inside) (at : ℕ) (old d x n : LayerView) (redirects : Room) : Type 0 where
  pub place : at ≡ place_above i.stack.vars i.stack.first i.stack.last
  pub lent : old ≡ get_or i.stack.layers.items at d
  pub above : old ≡ above_of i
  pub rest : KeepsNodes old x
  pub rooms : KeepsRoom i.stack.newest n
  pub redirects_stay : redirects ≡ i.redirects

-- nodes were taken out of the last layer, and their rows were given back
pub record HasGivenBack (i : Inside) (n : LayerView) (region : RegionView) : Type 0 where
  pub held : AreHeld region n.nodes
  pub exchanged : HasExchanged i.stack.region (places_of i.stack.newest.nodes) region (places_of n.nodes)
  pub fewer : length n.nodes ≤ length i.stack.newest.nodes

-- a rule that leaves no more nodes than there were
pub fewer-by : (rule : List DdNode → List DdNode) (old new : List NodeView) → ((paths : ℕ → List ℕ) → shown_below paths new ≡ rule (shown_below paths old)) → ((l : List DdNode) → length l ≡ length old → length (rule l) ≤ length l) → length new ≤ length old
fewer-by rule old new next fewer =
    let none : ℕ → List ℕ = λ i. [] in
    let were = below-length none old in
    let are = below-length none new in
    let same = ap (λ (l : List DdNode). length l) (next none) in
    let less = fewer (shown_below none old) were in
    omega arith

pub bare-above : (i : Inside) (at : ℕ) (old d x n : LayerView) (redirects : Room) → HasChanged i at old d x n redirects → map without_arcs x.nodes ≡ map without_arcs (above_of i).nodes
bare-above i at old d x n redirects e = e.rest.nodes ∙ ap (λ (l : LayerView). map without_arcs l.nodes) e.above

changed-rows : (i : Inside) → the_invariant i → (at : ℕ) (old d x n : LayerView) (region : RegionView) (redirects : Room) (first_reduced : Option ℕ) → HasChanged i at old d x n redirects → HasGivenBack i n region
    → HasRows i.words i.width i.held (changed i at x n region redirects first_reduced).stack
changed-rows i h at old d x n region redirects first_reduced e g =
    rows-like i.words i.width i.held i.stack (changed i at x n region redirects first_reduced).stack
    (record {
      vars = refl;
      first = refl;
      last = refl;
      rooms = rooms-set items at x old d e.lent (record { words = e.rest.words; nodes_room = e.rest.nodes_room; arcs_room = e.rest.arcs_room });
      newest_room = e.rooms.nodes_room;
      above = λ k from low. kept k from low (grind arith);
      held = λ held. g.held;
      exchanged = λ live. g.exchanged;
      fewer = g.fewer;
    }) h.rows
  where
    vars : ℕ
    vars = i.stack.vars

    first : ℕ
    first = i.stack.first

    last : ℕ
    last = i.stack.last

    items : List LayerView
    items = i.stack.layers.items

    new : ℕ → List NodeView
    new = at_depth i.stack.vars i.stack.first i.stack.last (set i.stack.layers.items at x) n

    kept : (k : ℕ) → i.stack.first ≤ k → k < i.stack.last → (k ≡ i.stack.last - 1) ⊎ (k < i.stack.last - 1) → HaveSameRows (nodes_in i.stack k) (new k)
    kept k from low (inl same) =
        let less : i.stack.first < i.stack.last = omega arith in
        let place : at ≡ place_of vars first k = e.place ∙ (place-is i less ∙ ap (place_of vars first) (sym same)) in
        let within = above-within i h in
        let here : new k ≡ x.nodes = ap (λ (p : ℕ). at_depth vars first last (set items p x) n k) place ∙ put-at vars first last items x n k low (subst (λ (p : ℕ). p < length items) (sym e.place ∙ place) within) in
        let was : nodes_in i.stack k ≡ old.nodes = ap (nodes_in i.stack) same ∙ (above-is i less ∙ ap (λ (l : LayerView). l.nodes) (sym e.above)) in
        subst (HaveSameRows (nodes_in i.stack k)) (sym here) (subst (λ (l : List NodeView). HaveSameRows l x.nodes) (sym was) (record { places = e.rest.places; held = λ r held. held-nodes r old x e.rest held }))
    kept k from low (inr deeper) =
        let most = h.stack.last in
        let place : at ≡ place_of vars first (last - 1) = e.place ∙ place-is i (omega arith) in
        same-rows (nodes_in i.stack k) (new k)
        (kept-at vars first last last at items x i.stack.newest n k low low (λ f. places-apart vars first (last - 1) k (omega arith) (omega arith) (λ g. absurd (omega arith)) (sym place ∙ f)))

pub changed-space : (i : Inside) → the_invariant i → (at : ℕ) (old d x n : LayerView) (region : RegionView) (redirects : Room) (first_reduced : Option ℕ) → HasChanged i at old d x n redirects → HasGivenBack i n region
    → HaveDepths i.stack.first (the_view (changed i at x n region redirects first_reduced)).layers → the_invariant (changed i at x n region redirects first_reduced)
changed-space i h at old d x n region redirects first_reduced e g depths = record {
  stack = record {
    small = h.stack.small;
    first = h.stack.first;
    last = h.stack.last;
    rooms = subst (HaveRooms i.stack.vars i.words i.width i.choices.items) (sym (rooms-set i.stack.layers.items at x old d e.lent (record { words = e.rest.words; nodes_room = e.rest.nodes_room; arcs_room = e.rest.arcs_room }))) h.stack.rooms;
    newest_words = e.rooms.words ∙ h.stack.newest_words;
    top = top-kept i h at x e.place (bare-above i at old d x n redirects e);
  };
  rows = changed-rows i h at old d x n region redirects first_reduced e g;
  first = h.first;
  prefix_fits = h.prefix_fits;
  expands = room-as e.rooms.nodes_room h.expands;
  redirects_fit = e.redirects_stay ∙ room-as e.rooms.nodes_room h.redirects_fit;
  path = h.path;
  depths = depths;
  has_layers = h.has_layers;
}

-- what is seen of it
pub changed-seen : (i : Inside) (at : ℕ) (old d x n : LayerView) (region : RegionView) (redirects : Room) (first_reduced : Option ℕ) → HasChanged i at old d x n redirects → (layers : List (List DdNode))
    → (the_view (changed i at x n region redirects first_reduced)).layers ≡ layers
    → the_view (changed i at x n region redirects first_reduced) ≡ record (the_view i) { layers = layers; told = map told_by n.nodes; first_reduced = first_reduced }
changed-seen i at old d x n region redirects first_reduced e layers seen =
    ap₂ (λ (r : ℕ) (l : List (List DdNode)). record (the_view i) { room = r; layers = l; told = map told_by n.nodes; first_reduced = first_reduced }) e.rooms.nodes_room seen

-- a rule on the last two layers
pub changed-layers : (rule : TwoLayers → TwoLayers) (i : Inside) → the_invariant i → i.stack.first < i.stack.last → (at : ℕ) (old d x n : LayerView) (region : RegionView) (redirects : Room) (first_reduced : Option ℕ) → HasChanged i at old d x n redirects
    → ((paths below : ℕ → List ℕ) → shown_layer paths x.nodes ≡ (rule (record { above = shown_layer paths old.nodes; next = shown_below below i.stack.newest.nodes })).above)
    → ((paths : ℕ → List ℕ) (a : List DdNode) → shown_below paths n.nodes ≡ (rule (record { above = a; next = shown_below paths i.stack.newest.nodes })).next)
    → (the_view (changed i at x n region redirects first_reduced)).layers ≡ on_last_two rule (the_view i).layers
changed-layers rule i h less at old d x n region redirects first_reduced e above next =
    subst (λ (k : ℕ). shown_down (at_depth i.stack.vars i.stack.first i.stack.last (set i.stack.layers.items k x) n) (i.prefix.items ∷ []) i.stack.first (i.stack.last - i.stack.first) ≡ on_last_two rule (the_view i).layers) (sym e.place)
    (two-view rule i h less x n (bare-above i at old d x n redirects e)
    (λ paths below. above paths below ∙ ap (λ (l : LayerView). (rule (record { above = shown_layer paths l.nodes; next = shown_below below i.stack.newest.nodes })).above) e.above) next)

-- the ranks of the new last layer
pub changed-ranks : (dp : Dp) (rule : TwoLayers → TwoLayers) (i : Inside) → the_invariant i → IsUnderWay dp (the_view i) → (at : ℕ) (x n : LayerView) (region : RegionView) (redirects : Room) (first_reduced : Option ℕ) → the_invariant (changed i at x n region redirects first_reduced)
    → (the_view (changed i at x n region redirects first_reduced)).layers ≡ on_last_two rule (the_view i).layers → Each (IsRanked dp i.stack.last) n.nodes
    → map told_by n.nodes ≡ map (λ (node : DdNode). told_of dp (last_depth (the_view i)) node.row) (rule (last_two (the_view i).layers)).next
changed-ranks dp rule i h u at x n region redirects first_reduced hn seen ranked =
    let new = changed i at x n region redirects first_reduced in
    let last : shown_layer (path_in (last_paths new)) n.nodes ≡ (rule (last_two (the_view i).layers)).next = sym (last-seen new hn) ∙ (ap last_layer seen ∙ last-two rule (the_view i).layers u.some) in
    subst (λ (k : ℕ). map told_by n.nodes ≡ map (λ (node : DdNode). told_of dp k node.row) (rule (last_two (the_view i).layers)).next) (sym (deep i h))
    (ranks-of dp i.stack.last (path_in (last_paths new)) 0 n.nodes ranked ∙ ap (map (λ (node : DdNode). told_of dp i.stack.last node.row)) last)

-- ---- the first layer alone is struck

some-of : (nodes : List NodeView) → length nodes ≤ 1 → (q : ℕ → List ℕ) → shown_layer q nodes ≡ map (λ (n : DdNode). record n { path = q 0 }) (shown_below (λ _. []) nodes)
some-of [] few q = refl
some-of (n ∷ []) few q = refl
some-of (n ∷ m ∷ nodes) few q = absurd (omega arith)

cond-one : (b : Bool) (f : DdNode → DdNode) (x : DdNode) → cond b [] (f x ∷ []) ≡ map f (cond b [] (x ∷ []))
cond-one true f x = refl
cond-one false f x = refl

or-none : (b : Bool) (x : DdNode) → cond (b || false) [] (x ∷ []) ≡ cond b [] (x ∷ [])
or-none true x = refl
or-none false x = refl

pruned-one : (dp : Dp) (k : ℕ) (t : Option ℤ) (path : List ℕ) (l : List DdNode) → length l ≤ 1
    → pruned_nodes dp k t [] 0 (map (λ (n : DdNode). record n { path = path }) l) ≡ map (λ (n : DdNode). record n { path = path }) (pruned_nodes dp k t [] 0 l)
pruned-one dp k t path [] few = refl
pruned-one dp k t path (x ∷ []) few =
    or-none (is_struck dp k t x) (record x { path = path }) ∙ (cond-one (is_struck dp k t x) (λ (n : DdNode). record n { path = path }) x ∙ ap (map (λ (n : DdNode). record n { path = path })) (sym (or-none (is_struck dp k t x) x)))
pruned-one dp k t path (x ∷ y ∷ l) few = absurd (omega arith)

pub one-pruned : (dp : Dp) (k : ℕ) (t : Option ℤ) (q : ℕ → List ℕ) (old new : List NodeView) → length old ≤ 1
    → shown_below (λ _. []) new ≡ pruned_nodes dp k t [] 0 (shown_below (λ _. []) old) → shown_layer q new ≡ pruned_nodes dp k t [] 0 (shown_layer q old)
one-pruned dp k t q old new few e =
    let f = λ (n : DdNode). record n { path = q 0 } in
    let long = below-length (λ _. []) old in
    let short = below-length (λ _. []) new in
    let fewer = few-pruned dp k t [] 0 (shown_below (λ _. []) old) in
    let size = ap (λ (l : List DdNode). length l) e in
    some-of new (omega arith) q ∙ (ap (map f) e ∙ (sym (pruned-one dp k t (q 0) (shown_below (λ _. []) old) (omega arith)) ∙ ap (pruned_nodes dp k t [] 0) (sym (some-of old few q))))

pub struck-layers : (dp : Dp) (i : Inside) → the_invariant i → (last_depth (the_view i) ≡ length (the_view i).prefix → length (last_layer (the_view i).layers) ≤ 1) → (t : Option ℤ) (at : ℕ) (old d x n : LayerView) (region : RegionView) (redirects : Room) (first_reduced : Option ℕ) → HasChanged i at old d x n redirects
    → ((paths below : ℕ → List ℕ) → shown_layer paths x.nodes ≡ with_redirected (prune_redirects dp i.stack.last t [] 0 (shown_below below i.stack.newest.nodes)) (shown_layer paths old.nodes))
    → ((paths : ℕ → List ℕ) → shown_below paths n.nodes ≡ pruned_nodes dp i.stack.last t [] 0 (shown_below paths i.stack.newest.nodes))
    → (the_view (changed i at x n region redirects first_reduced)).layers ≡ on_last_two (prune dp i.stack.last t) (the_view i).layers
struck-layers dp i h one t at old d x n region redirects first_reduced e above next = go (first-or i h)
  where
    q : ℕ → List ℕ
    q = path_in (i.prefix.items ∷ [])

    alone : length i.stack.newest.nodes ≤ 1 → (m first : ℕ) → m ≡ 0 → first ≡ i.stack.last
        → shown_down (at_depth i.stack.vars i.stack.first i.stack.last (set i.stack.layers.items at x) n) (i.prefix.items ∷ []) first m
        ≡ on_last_two (prune dp i.stack.last t) (shown_down (at_depth i.stack.vars i.stack.first i.stack.last i.stack.layers.items i.stack.newest) (i.prefix.items ∷ []) first m)
    alone few m first none same =
        subst (λ (j : ℕ). shown_down (at_depth i.stack.vars i.stack.first i.stack.last (set i.stack.layers.items at x) n) (i.prefix.items ∷ []) first j
        ≡ on_last_two (prune dp i.stack.last t) (shown_down (at_depth i.stack.vars i.stack.first i.stack.last i.stack.layers.items i.stack.newest) (i.prefix.items ∷ []) first j)) (sym none)
        (ap (λ (l : List DdNode). l ∷ [])
        (ap (shown_layer q) (newest-at i.stack.vars i.stack.first i.stack.last (set i.stack.layers.items at x) n first same)
        ∙ (one-pruned dp i.stack.last t q i.stack.newest.nodes n.nodes few (next (λ _. []))
        ∙ ap (λ (l : List NodeView). pruned_nodes dp i.stack.last t [] 0 (shown_layer q l)) (sym (newest-at i.stack.vars i.stack.first i.stack.last i.stack.layers.items i.stack.newest first same)))))

    go : (i.stack.first < i.stack.last) ⊎ (i.stack.last ≡ i.stack.first) → (the_view (changed i at x n region redirects first_reduced)).layers ≡ on_last_two (prune dp i.stack.last t) (the_view i).layers
    go (inl less) = changed-layers (prune dp i.stack.last t) i h less at old d x n region redirects first_reduced e above (λ paths a. next paths)
    go (inr same) =
        let begun = h.first in
        let here = deep i h in
        let count = count-seen i h in
        let few = one (here ∙ (same ∙ begun)) in
        alone (omega arith) (i.stack.last - i.stack.first) i.stack.first (omega arith) (sym same)
