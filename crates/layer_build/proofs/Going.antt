-- A workspace in which a diagram is under way: what its last layers are in memory.
use Rattle.std.proofs.Common.{◌≡◌, ℕ, suc, ◌+◌, ◌-◌, ◌*◌, ◌<◌, ◌≤◌, List, [], ◌∷◌, map, set, length, get_or, slice_index_or, IsSome, ◌⊎◌, inl, inr, refl, sym, ap, ap₂, ◌∙◌, subst, arith}
use Rattle.std.proofs.lemmas.List.{get_or_default, get_or-set_other}
use Rattle.std.specs.Vec.{with_item}
use Rattle.dp_model.specs.Dp.{Dp}
use Rattle.dp_model.specs.Lists.{Each}
use Rattle.dp_model.specs.Numbers.{IsFar}
use Rattle.dp_model.proofs.Members.{Each-then}
use Rattle.dp_laws.specs.declared.arc.DdArc.{DdArc}
use Rattle.dp_laws.specs.Diagrams.Nodes.{DdNode, path_below}
use Rattle.dp_laws.specs.Rules.Compiling.{TwoLayers}
use Rattle.dp_laws.specs.Rules.Within.{IsLayerWithin, IsArcWithin, AreWithin}
use Rattle.layer_candidates.specs.HeldRows.{HasExchanged}
use Rattle.layer_nodes.specs.Nodes.{Told, told_by, told_of, NodeView, LayerView, shown, shown_from, shown_layer, shown_below, without_arcs}
use Rattle.layer_nodes.specs.Steps.{IsParent, IsNodeOf, MayBeLengthened, IsRanked, KeepsRoom}
use Rattle.row_region.specs.Region.{RegionView}
use Rattle.layer_nodes.specs.Holding.{AreHeld, places_of}
use Rattle.layer_nodes.specs.Stored.{Room}
use Rattle.layer_build.specs.contracts.workspace.Workspace.{the_view, the_invariant}
use Rattle.layer_build.specs.declared.workspace.Workspace.TheInside.{Inside}
use Rattle.layer_build.specs.declared.stack.Stack.{Stack}
use Rattle.layer_build.specs.Layers.{SpaceView, last_depth, last_layer, expand_last, on_last_two}
use Rattle.layer_build.specs.Stacked.{no_layer, place_of, place_above, HaveRooms, HasStack, HasRows, HaveDepths, path_in, paths_at, paths_below, shown_down, nodes_in}
use Rattle.layer_build.specs.UnderWay.{IsUnderWay, last_two}
use Rattle.layer_build.proofs.Depths.{depths-expanded}
use Rattle.layer_build.proofs.Expansions.{Expands}
use Rattle.layer_build.proofs.Held.{kept_stack, room-as, IsNarrow, rows-fit, rows-more}
use Rattle.layer_build.proofs.Kept.{expanded-under-way, wide-deep}
use Rattle.layer_build.proofs.Shown.{length-down, parents-of, nodes-of, far-of, length-shown, last-is, two-are, as-below, expand-shown, two-shown, bare-all, have-paths, ranks-of}
use Rattle.layer_build.proofs.Stacks.{at_depth, newest-at, above-at, depth-is, kept-at, put-at, place-low, place-other, place-second, room-at, places-apart, above-first, above-later, above-low, count-of, words-at, FitsAbove, fits-above, rooms-set, map-length}

-- the layer above the last one in memory
abbrev pub above_of : Inside → LayerView
above_of i = slice_index_or i.stack.layers.items (place_above i.stack.vars i.stack.first i.stack.last) no_layer

-- the paths of the last layer's nodes
abbrev pub last_paths : Inside → List (List ℕ)
last_paths i = paths_at (nodes_in i.stack) (i.prefix.items ∷ []) i.stack.first (i.stack.last - i.stack.first)

pub deep : (i : Inside) → the_invariant i → last_depth (the_view i) ≡ i.stack.last
deep i h = depth-is (nodes_in i.stack) (i.prefix.items ∷ []) (length i.prefix.items) i.stack.first i.stack.last h.first h.stack.first

pub last-seen : (i : Inside) → the_invariant i → last_layer (the_view i).layers ≡ shown_layer (path_in (last_paths i)) i.stack.newest.nodes
last-seen i h =
    let ordered = h.stack.first in
    last-is (nodes_in i.stack) (i.prefix.items ∷ []) i.stack.first (i.stack.last - i.stack.first) i.stack.last (omega arith)
    ∙ ap (shown_layer (path_in (last_paths i))) (newest-at i.stack.vars i.stack.first i.stack.last i.stack.layers.items i.stack.newest i.stack.last refl)

pub count-seen : (i : Inside) → the_invariant i → length (last_layer (the_view i).layers) ≡ length i.stack.newest.nodes
count-seen i h = ap (λ (l : List DdNode). length l) (last-seen i h) ∙ length-shown (path_in (last_paths i)) 0 i.stack.newest.nodes

within-seen : (dp : Dp) (i : Inside) → the_invariant i → IsUnderWay dp (the_view i) → IsLayerWithin dp i.stack.last i.width (shown_layer (path_in (last_paths i)) i.stack.newest.nodes)
within-seen dp i h u =
    subst (IsLayerWithin dp i.stack.last i.width) (last-seen i h) (subst (λ (k : ℕ). IsLayerWithin dp k i.width (last_layer (the_view i).layers)) (deep i h) u.within)

pub ranks-seen : (dp : Dp) (i : Inside) → the_invariant i → IsUnderWay dp (the_view i)
    → map told_by i.stack.newest.nodes ≡ map (λ (n : DdNode). told_of dp i.stack.last n.row) (shown_layer (path_in (last_paths i)) i.stack.newest.nodes)
ranks-seen dp i h u =
    subst (λ (l : List DdNode). map told_by i.stack.newest.nodes ≡ map (λ (n : DdNode). told_of dp i.stack.last n.row) l) (last-seen i h)
    (subst (λ (k : ℕ). map told_by i.stack.newest.nodes ≡ map (λ (n : DdNode). told_of dp k n.row) (last_layer (the_view i).layers)) (deep i h) u.told)

pub parents-seen : (dp : Dp) (i : Inside) → the_invariant i → IsUnderWay dp (the_view i) → i.stack.last < i.stack.vars → Each (IsParent dp i.stack.last) i.stack.newest.nodes
parents-seen dp i h u low =
    let w = within-seen dp i h u in
    let small = h.stack.small in
    parents-of dp i.stack.last (path_in (last_paths i)) 0 i.stack.newest.nodes (omega arith) w.states w.values (ranks-seen dp i h u)

pub nodes-seen : (dp : Dp) (i : Inside) → the_invariant i → IsUnderWay dp (the_view i) → Each (IsNodeOf dp i.stack.last) i.stack.newest.nodes
nodes-seen dp i h u =
    let w = within-seen dp i h u in
    let small = h.stack.small in
    let low = h.stack.last in
    nodes-of dp i.stack.last (path_in (last_paths i)) 0 i.stack.newest.nodes (omega arith) w.states w.values (ranks-seen dp i h u)

-- ---- the layer above

pub place-is : (i : Inside) → i.stack.first < i.stack.last → place_above i.stack.vars i.stack.first i.stack.last ≡ place_of i.stack.vars i.stack.first (i.stack.last - 1)
place-is i less = above-later i.stack.vars i.stack.first i.stack.last less

pub above-is : (i : Inside) → i.stack.first < i.stack.last → nodes_in i.stack (i.stack.last - 1) ≡ (above_of i).nodes
above-is i less =
    above-at i.stack.vars i.stack.first i.stack.last i.stack.layers.items i.stack.newest (i.stack.last - 1) (λ e. absurd (omega arith))
    ∙ ap (λ (k : ℕ). (slice_index_or i.stack.layers.items k no_layer).nodes) (sym (place-is i less))

abbrev above_paths : Inside → List (List ℕ)
above_paths i = paths_at (nodes_in i.stack) (i.prefix.items ∷ []) i.stack.first (i.stack.last - i.stack.first - 1)

pub two-seen : (i : Inside) → the_invariant i → i.stack.first < i.stack.last
    → last_two (the_view i).layers ≡ record { above = shown_layer (path_in (above_paths i)) (above_of i).nodes; next = shown_below (path_in (above_paths i)) i.stack.newest.nodes }
two-seen i h less =
    let m = i.stack.last - i.stack.first - 1 in
    let more : i.stack.last - i.stack.first ≡ suc m = omega arith in
    let next : i.stack.last - 1 + 1 ≡ i.stack.last = omega arith in
    ap (λ (k : ℕ). last_two (shown_down (nodes_in i.stack) (i.prefix.items ∷ []) i.stack.first k)) more
    ∙ (two-are (nodes_in i.stack) (i.prefix.items ∷ []) i.stack.first m (i.stack.last - 1) (omega arith)
    ∙ (ap (λ (l : List NodeView). record { above = shown_layer (path_in (above_paths i)) l; next = shown_below (path_in (above_paths i)) (nodes_in i.stack (i.stack.last - 1 + 1)) }) (above-is i less)
    ∙ ap (λ (l : List NodeView). record { above = shown_layer (path_in (above_paths i)) (above_of i).nodes; next = shown_below (path_in (above_paths i)) l })
    (ap (nodes_in i.stack) next ∙ newest-at i.stack.vars i.stack.first i.stack.last i.stack.layers.items i.stack.newest i.stack.last refl)))

lengths-in : (k : ℕ) (next : List DdNode) (paths : ℕ → List ℕ) (j : ℕ) (nodes : List NodeView) → k < 1024 → Each (λ (n : DdNode). Each (IsArcWithin k next n) n.arcs) (shown_from paths j nodes) → Each MayBeLengthened nodes
lengths-in k next paths j [] low h = tt
lengths-in k next paths j (n ∷ nodes) low h = (Each-then (IsArcWithin k next (shown-at n)) (λ (arc : DdArc). IsFar arc.longer) n.arcs (λ arc a. far-of k arc.longer low a.longer) h.0, lengths-in k next paths (j + 1) nodes low h.1)
  where
    shown-at : NodeView → DdNode
    shown-at m = record { row = m.row; value = m.value; exact = m.exact; arcs = m.arcs; path = paths j; suffix = m.suffix }

pub first-or : (i : Inside) → the_invariant i → (i.stack.first < i.stack.last) ⊎ (i.stack.last ≡ i.stack.first)
first-or i h = let ordered = h.stack.first in grind arith

pub top-empty : (i : Inside) → the_invariant i → i.stack.last ≡ i.stack.first → (above_of i).nodes ≡ []
top-empty i h same = ap (λ (k : ℕ). (slice_index_or i.stack.layers.items k no_layer).nodes) (above-first i.stack.vars i.stack.first i.stack.last same) ∙ h.stack.top

pub lengths-seen : (dp : Dp) (i : Inside) → the_invariant i → IsUnderWay dp (the_view i) → Each MayBeLengthened (above_of i).nodes
lengths-seen dp i h u = go (first-or i h)
  where
    go : (i.stack.first < i.stack.last) ⊎ (i.stack.last ≡ i.stack.first) → Each MayBeLengthened (above_of i).nodes
    go (inl less) =
        let at = deep i h in
        let begun = h.first in
        let small = h.stack.small in
        let low = h.stack.last in
        let both : AreWithin dp (last_depth (the_view i) - 1) i.width (last_two (the_view i).layers) = u.two (omega arith) in
        let here = subst (AreWithin dp (last_depth (the_view i) - 1) i.width) (two-seen i h less) both in
        lengths-in (last_depth (the_view i) - 1) _ (path_in (above_paths i)) 0 (above_of i).nodes (omega arith) here.arcs
    go (inr same) = subst (Each MayBeLengthened) (sym (top-empty i h same)) tt

-- ---- what is seen after a step

pub expanded-view : (rule : List DdNode → TwoLayers) (i : Inside) → the_invariant i → i.stack.last < i.stack.vars → (x n : LayerView)
    → map without_arcs x.nodes ≡ map without_arcs i.stack.newest.nodes
    → ((paths : ℕ → List ℕ) → shown_layer paths x.nodes ≡ (rule (shown_layer paths i.stack.newest.nodes)).above)
    → ((paths : ℕ → List ℕ) → shown_below paths n.nodes ≡ (rule (shown_layer paths i.stack.newest.nodes)).next)
    → shown_down (at_depth i.stack.vars i.stack.first (i.stack.last + 1) (set i.stack.layers.items (place_of i.stack.vars i.stack.first i.stack.last) x) n) (i.prefix.items ∷ []) i.stack.first (i.stack.last + 1 - i.stack.first)
    ≡ expand_last rule (the_view i).layers
expanded-view rule i h low x n rest above next =
    let vars = i.stack.vars in let first = i.stack.first in let last = i.stack.last in let items = i.stack.layers.items in
    let ordered = h.stack.first in
    let count : length items ≡ vars + 2 = count-of _ _ _ _ items h.stack.rooms in
    let place = place-low vars first last (omega arith) in
    let new = at_depth vars first (last + 1) (set items (place_of vars first last) x) n in
    let same : (j : ℕ) → j < last → new j ≡ nodes_in i.stack j = λ j less. kept-at vars first last (last + 1) (place_of vars first last) items x i.stack.newest n j less (omega arith) (places-apart vars first last j low (omega arith) (λ e. absurd (omega arith))) in
    let here : new last ≡ x.nodes = put-at vars first (last + 1) items x n last (omega arith) (omega arith) in
    let old : nodes_in i.stack last ≡ i.stack.newest.nodes = newest-at vars first last items i.stack.newest last refl in
    let below : new (last + 1) ≡ n.nodes = newest-at vars first (last + 1) (set items (place_of vars first last) x) n (last + 1) refl in
    let more : last + 1 - first ≡ suc (last - first) = omega arith in
    ap (shown_down new (i.prefix.items ∷ []) first) more
    ∙ expand-shown rule (nodes_in i.stack) new last same (bare-all (nodes_in i.stack) new last same (ap (map without_arcs) here ∙ (rest ∙ ap (map without_arcs) (sym old))))
    (λ paths. ap (shown_layer paths) here ∙ (above paths ∙ ap (λ (l : List NodeView). (rule (shown_layer paths l)).above) (sym old)))
    (λ paths. ap (shown_below paths) below ∙ (next paths ∙ ap (λ (l : List NodeView). (rule (shown_layer paths l)).next) (sym old)))
    (i.prefix.items ∷ []) first (last - first) (omega arith)

pub two-view : (rule : TwoLayers → TwoLayers) (i : Inside) → the_invariant i → i.stack.first < i.stack.last → (x n : LayerView)
    → map without_arcs x.nodes ≡ map without_arcs (above_of i).nodes
    → ((paths below : ℕ → List ℕ) → shown_layer paths x.nodes ≡ (rule (record { above = shown_layer paths (above_of i).nodes; next = shown_below below i.stack.newest.nodes })).above)
    → ((paths : ℕ → List ℕ) (a : List DdNode) → shown_below paths n.nodes ≡ (rule (record { above = a; next = shown_below paths i.stack.newest.nodes })).next)
    → shown_down (at_depth i.stack.vars i.stack.first i.stack.last (set i.stack.layers.items (place_above i.stack.vars i.stack.first i.stack.last) x) n) (i.prefix.items ∷ []) i.stack.first (i.stack.last - i.stack.first)
    ≡ on_last_two rule (the_view i).layers
two-view rule i h less x n rest above next =
    let vars = i.stack.vars in let first = i.stack.first in let last = i.stack.last in let items = i.stack.layers.items in
    let low = h.stack.last in
    let count : length items ≡ vars + 2 = count-of _ _ _ _ items h.stack.rooms in
    let at = place-is i less in
    let place = place-low vars first (last - 1) (omega arith) in
    let new = at_depth vars first last (set items (place_above vars first last) x) n in
    let same : (j : ℕ) → j < last - 1 → new j ≡ nodes_in i.stack j = λ j deeper. kept-at vars first last last (place_above vars first last) items x i.stack.newest n j (omega arith) (omega arith)
    (λ e. places-apart vars first (last - 1) j (omega arith) (omega arith) (λ f. absurd (omega arith)) (sym at ∙ e)) in
    let here : new (last - 1) ≡ x.nodes = subst (λ (k : ℕ). at_depth vars first last (set items k x) n (last - 1) ≡ x.nodes) (sym at) (put-at vars first last items x n (last - 1) (omega arith) (omega arith)) in
    let old = above-is i less in
    let next-depth : last - 1 + 1 ≡ last = omega arith in
    let below : new (last - 1 + 1) ≡ n.nodes = ap new next-depth ∙ newest-at vars first last (set items (place_above vars first last) x) n last refl in
    let old-below : nodes_in i.stack (last - 1 + 1) ≡ i.stack.newest.nodes = ap (nodes_in i.stack) next-depth ∙ newest-at vars first last items i.stack.newest last refl in
    let more : last - first ≡ suc (last - 1 - first) = omega arith in
    ap (shown_down new (i.prefix.items ∷ []) first) more
    ∙ (two-shown rule (nodes_in i.stack) new (last - 1) same (bare-all (nodes_in i.stack) new (last - 1) same (ap (map without_arcs) here ∙ (rest ∙ ap (map without_arcs) (sym old))))
    (λ paths lower. ap (shown_layer paths) here ∙ (above paths lower ∙ (ap (λ (l : List NodeView). (rule (record { above = shown_layer paths l; next = shown_below lower i.stack.newest.nodes })).above) (sym old)
    ∙ ap (λ (l : List NodeView). (rule (record { above = shown_layer paths (nodes_in i.stack (last - 1)); next = shown_below lower l })).above) (sym old-below))))
    (λ paths a. ap (shown_below paths) below ∙ (next paths a ∙ ap (λ (l : List NodeView). (rule (record { above = a; next = shown_below paths l })).next) (sym old-below)))
    (i.prefix.items ∷ []) first (last - 1 - first) (omega arith)
    ∙ ap (λ (k : ℕ). on_last_two rule (shown_down (nodes_in i.stack) (i.prefix.items ∷ []) first k)) (sym more))

-- ---- for the calls

pub under : (dp : Dp) (i : Inside) (s : SpaceView) → the_view i ≡ s → IsUnderWay dp s → IsUnderWay dp (the_view i)
under dp i s e u = subst (IsUnderWay dp) (sym e) u

pub low-of : (dp : Dp) (i : Inside) → the_invariant i → (s : SpaceView) → the_view i ≡ s → IsUnderWay dp s → last_depth s < dp.vars → i.stack.last < i.stack.vars
low-of dp i h s e u below =
    let at = ap last_depth e in
    let here = deep i h in
    let vars = u.prepared.vars in
    let same = ap (λ (t : SpaceView). t.vars) e in
    omega arith

pub words-seen : (dp : Dp) (i : Inside) (s : SpaceView) → the_view i ≡ s → IsUnderWay dp s → i.words ≡ dp.words
words-seen dp i s e u = ap (λ (t : SpaceView). t.words) e ∙ u.prepared.words

pub fits-seen : (dp : Dp) (i : Inside) → the_invariant i → IsUnderWay dp (the_view i) → i.stack.last < i.stack.vars → (i.stack.first + 2 ≤ i.stack.last → length i.stack.newest.nodes ≤ i.width)
    → FitsAbove (length i.stack.newest.nodes) (dp.choices i.stack.last) i.stack.newest.nodes_room (slice_index_or i.stack.layers.items (place_of i.stack.vars i.stack.first i.stack.last) no_layer)
fits-seen dp i h u low narrow =
    let p = u.prepared in
    let at = deep i h in
    let begun = h.first in
    let count = count-seen i h in
    fits-above dp i.stack.vars i.words i.width i.stack.newest.nodes_room i.choices.items i.stack.layers.items i.stack.first i.stack.last (length i.stack.newest.nodes) h.stack.rooms
    p.choices p.vars p.enough p.width.positive h.stack.first low
    (λ same. (let few = u.one (at ∙ (same ∙ begun)) in omega arith))
    (λ same. (let few = u.second (at ∙ (same ∙ ap (λ (n : ℕ). n + 1) begun)) in let c = ap dp.choices begun in omega arith))
    narrow

pub narrow-seen : (i : Inside) → the_invariant i → (s : SpaceView) → the_view i ≡ s → (length s.prefix + 2 ≤ last_depth s → length (last_layer s.layers) ≤ s.width) → i.stack.first + 2 ≤ i.stack.last → length i.stack.newest.nodes ≤ i.width
narrow-seen i h s e narrow far =
    let at = deep i h in
    let begun = h.first in
    let count = count-seen i h in
    let here : length i.prefix.items + 2 ≤ last_depth (the_view i) → length (last_layer (the_view i).layers) ≤ i.width = subst (λ (t : SpaceView). length t.prefix + 2 ≤ last_depth t → length (last_layer t.layers) ≤ t.width) (sym e) narrow in
    let few = here (omega arith) in
    omega arith

-- the layer that was lent
pub lent : (items : List LayerView) (at place : ℕ) (x d : LayerView) → x ≡ get_or items at d → at ≡ place → place < length items → x ≡ slice_index_or items place no_layer
lent items at place x d e same within = e ∙ (ap (λ (k : ℕ). get_or items k d) same ∙ get_or_default items place d no_layer within)

pub place-within : (i : Inside) → the_invariant i → i.stack.last < i.stack.vars → place_of i.stack.vars i.stack.first i.stack.last < length i.stack.layers.items
place-within i h low =
    let place = place-low i.stack.vars i.stack.first i.stack.last (omega arith) in
    let count = count-of _ _ _ _ i.stack.layers.items h.stack.rooms in
    omega arith

pub above-within : (i : Inside) → the_invariant i → place_above i.stack.vars i.stack.first i.stack.last < length i.stack.layers.items
above-within i h =
    let place = above-low i.stack.vars i.stack.first i.stack.last h.stack.first h.stack.last in
    let count = count-of _ _ _ _ i.stack.layers.items h.stack.rooms in
    omega arith

pub words-of : (dp : Dp) (i : Inside) → the_invariant i → (k : ℕ) → k < length i.stack.layers.items → (slice_index_or i.stack.layers.items k no_layer).words ≡ i.words
words-of dp i h k within = (let count = count-of _ _ _ _ i.stack.layers.items h.stack.rooms in words-at _ _ _ _ i.stack.layers.items h.stack.rooms k (omega arith))

-- ---- what a workspace keeps

-- the stack of a workspace after it was expanded
pub expanded-stack : (dp : Dp) (i : Inside) → the_invariant i → i.stack.last < i.stack.vars → (x n : LayerView) (region : RegionView) (at : ℕ) (old d : LayerView)
    → at ≡ place_of i.stack.vars i.stack.first i.stack.last → old ≡ get_or i.stack.layers.items at d → KeepsRoom old x → KeepsRoom i.stack.newest n
    → HasStack i.words i.width i.choices.items (kept_stack i.stack (with_item i.stack.layers at x) n region)
expanded-stack dp i h low x n region at old d same e rooms next =
    let ordered = h.stack.first in
    let place = place-low i.stack.vars i.stack.first i.stack.last (omega arith) in
    record {
      small = h.stack.small;
      first = omega arith;
      last = omega arith;
      rooms = subst (HaveRooms i.stack.vars i.words i.width i.choices.items) (sym (rooms-set i.stack.layers.items at x old d e rooms)) h.stack.rooms;
      newest_words = next.words ∙ h.stack.newest_words;
      top = ap (λ (l : LayerView). l.nodes) (get_or-set_other i.stack.layers.items at (i.stack.vars + 1) x no_layer (λ f. absurd (omega arith))) ∙ h.stack.top;
    }

-- it has the rows of the last layer, and those of the next one were taken besides
pub record IsHeld (s : Stack) (x n : LayerView) (region : RegionView) : Type 0 where
  pub places : places_of x.nodes ≡ places_of s.newest.nodes
  pub above_held : AreHeld region x.nodes
  pub held : AreHeld region n.nodes
  pub exchanged : HasExchanged s.region [] region (places_of n.nodes)
  pub few : length n.nodes ≤ s.newest.nodes_room

-- the last layer is narrow enough to be kept
narrow-kept : (dp : Dp) (i : Inside) → the_invariant i → IsUnderWay dp (the_view i) → i.stack.last < i.stack.vars → (i.stack.first + 2 ≤ i.stack.last → length i.stack.newest.nodes ≤ i.width) → IsNarrow i.stack i.width
narrow-kept dp i h u low narrow = record {
  second = λ e. subst (λ (k : ℕ). length i.stack.newest.nodes ≤ (slice_index_or i.stack.layers.items k no_layer).nodes_room) (place-second i.stack.vars i.stack.first i.stack.last e) fits.nodes;
  other = λ n. subst (λ (r : ℕ). length i.stack.newest.nodes ≤ r)
      (ap (λ (k : ℕ). (slice_index_or i.stack.layers.items k no_layer).nodes_room) (place-other i.stack.vars i.stack.first i.stack.last n)
      ∙ (ap (λ (l : LayerView). l.nodes_room) (sym (room-at i.stack.layers.items i.stack.last)) ∙ h.stack.rooms.nodes i.stack.last low)) fits.nodes;
}
  where
    fits : FitsAbove (length i.stack.newest.nodes) (dp.choices i.stack.last) i.stack.newest.nodes_room (slice_index_or i.stack.layers.items (place_of i.stack.vars i.stack.first i.stack.last) no_layer)
    fits = fits-seen dp i h u low narrow

-- there are rows to spare for all candidates, and one more
pub spare-seen : (dp : Dp) (i : Inside) → the_invariant i → IsUnderWay dp (the_view i) → i.stack.last < i.stack.vars → (i.stack.first + 2 ≤ i.stack.last → length i.stack.newest.nodes ≤ i.width)
    → length i.stack.newest.nodes * dp.choices i.stack.last + 1 ≤ i.stack.region.spare
spare-seen dp i h u low narrow =
    let fits = (fits-seen dp i h u low narrow).candidates in
    let all = rows-fit i.words i.width i.held i.stack low (narrow-kept dp i h u low narrow) h.rows in
    omega arith

expanded-rows : (dp : Dp) (i : Inside) → the_invariant i → IsUnderWay dp (the_view i) → i.stack.last < i.stack.vars → (i.stack.first + 2 ≤ i.stack.last → length i.stack.newest.nodes ≤ i.width)
    → (x n : LayerView) (region : RegionView) (at : ℕ) (old d : LayerView) → at ≡ place_of i.stack.vars i.stack.first i.stack.last → old ≡ get_or i.stack.layers.items at d → KeepsRoom old x
    → KeepsRoom i.stack.newest n → IsHeld i.stack x n region → HasRows i.words i.width i.held (kept_stack i.stack (with_item i.stack.layers at x) n region)
expanded-rows dp i h u low narrow x n region at old d same e rooms next_rooms put =
    rows-more i.words i.width i.held i.stack (with_item i.stack.layers at x) n region low (narrow-kept dp i h u low narrow)
    (record {
      above = λ k less. kept-at vars first last (last + 1) at items x i.stack.newest n k less (omega arith) (λ f. places-apart vars first last k low (omega arith) (λ g. absurd (omega arith)) (sym same ∙ f));
      places = ap places_of here ∙ put.places;
      above_held = subst (AreHeld region) (sym here) put.above_held;
      held = put.held;
      exchanged = put.exchanged;
      rooms = rooms-set items at x old d e rooms;
      newest_room = next_rooms.nodes_room;
      few = put.few;
    }) h.rows
  where
    vars : ℕ
    vars = i.stack.vars

    first : ℕ
    first = i.stack.first

    last : ℕ
    last = i.stack.last

    items : List LayerView
    items = i.stack.layers.items

    within : place_of i.stack.vars i.stack.first i.stack.last < length i.stack.layers.items
    within = place-within i h low

    here : at_depth i.stack.vars i.stack.first (i.stack.last + 1) (set i.stack.layers.items at x) n i.stack.last ≡ x.nodes
    here = ap (λ (k : ℕ). at_depth vars first (last + 1) (set items k x) n last) same ∙ put-at vars first (last + 1) items x n last (omega arith) within

pub expanded-space : (dp : Dp) (rule : ℕ → List DdNode → TwoLayers) (i : Inside) → Expands dp i.width rule → the_invariant i → IsUnderWay dp (the_view i) → i.stack.last < i.stack.vars
    → (i.stack.first + 2 ≤ i.stack.last → length i.stack.newest.nodes ≤ i.width) → (x n : LayerView) (region : RegionView) (at : ℕ) (expansion redirects : Room) (old d : LayerView)
    → at ≡ place_of i.stack.vars i.stack.first i.stack.last → old ≡ get_or i.stack.layers.items at d
    → map without_arcs x.nodes ≡ map without_arcs i.stack.newest.nodes
    → ((paths : ℕ → List ℕ) → shown_layer paths x.nodes ≡ (rule i.stack.last (shown_layer paths i.stack.newest.nodes)).above)
    → ((paths : ℕ → List ℕ) → shown_below paths n.nodes ≡ (rule i.stack.last (shown_layer paths i.stack.newest.nodes)).next)
    → KeepsRoom old x → KeepsRoom i.stack.newest n → expansion ≡ i.expansion → redirects ≡ i.redirects → IsHeld i.stack x n region
    → the_invariant (record i { stack = kept_stack i.stack (with_item i.stack.layers at x) n region; expansion = expansion; redirects = redirects })
expanded-space dp rule i expands h u low narrow x n region at expansion redirects old d same e rest above next rooms next_rooms kept stay held =
    let ordered = h.stack.first in
    let seen = expanded-view (rule i.stack.last) i h low x n rest above next in
    let long = length-down (nodes_in i.stack) (i.prefix.items ∷ []) i.stack.first (i.stack.last - i.stack.first) in
    let vars = u.prepared.vars in
    record {
      stack = expanded-stack dp i h low x n region at old d same e rooms next_rooms;
      rows = expanded-rows dp i h u low narrow x n region at old d same e rooms next_rooms held;
      first = h.first;
      prefix_fits = h.prefix_fits;
      expands = kept ∙ room-as next_rooms.nodes_room h.expands;
      redirects_fit = stay ∙ room-as next_rooms.nodes_room h.redirects_fit;
      path = h.path;
      depths = subst (λ (k : ℕ). HaveDepths i.stack.first (shown_down (at_depth i.stack.vars i.stack.first (i.stack.last + 1) (set i.stack.layers.items k x) n) (i.prefix.items ∷ []) i.stack.first (i.stack.last + 1 - i.stack.first))) (sym same)
          (subst (HaveDepths i.stack.first) (sym seen)
          (depths-expanded (rule i.stack.last) i.stack.last (λ l a. expands.above i.stack.last l a) (λ l a. expands.next i.stack.last l (omega arith) a) i.stack.first (the_view i).layers (omega arith) h.depths));
      has_layers = h.has_layers;
    }

abbrev ranks_in : LayerView → List Told
ranks_in n = map told_by n.nodes

pub below-length : (paths : ℕ → List ℕ) (nodes : List NodeView) → length (shown_below paths nodes) ≡ length nodes
below-length paths nodes = map-length (λ (node : NodeView). shown (path_below paths node.parent node.decision) node) nodes

ranks-below : (dp : Dp) (k : ℕ) (ps : List (List ℕ)) (n : LayerView) → Each (IsRanked dp k) n.nodes → ranks_in n ≡ map (λ (node : DdNode). told_of dp k node.row) (shown_below (path_in ps) n.nodes)
ranks-below dp k ps n h = ranks-of dp k (path_in (paths_below ps n.nodes)) 0 n.nodes h ∙ ap (map (λ (node : DdNode). told_of dp k node.row)) (as-below ps n.nodes)

pub expanded-seen : (rule : ℕ → List DdNode → TwoLayers) (i : Inside) → the_invariant i → i.stack.last < i.stack.vars → (x n : LayerView) (region : RegionView) (at : ℕ) (expansion redirects : Room)
    → at ≡ place_of i.stack.vars i.stack.first i.stack.last
    → map without_arcs x.nodes ≡ map without_arcs i.stack.newest.nodes
    → ((paths : ℕ → List ℕ) → shown_layer paths x.nodes ≡ (rule i.stack.last (shown_layer paths i.stack.newest.nodes)).above)
    → ((paths : ℕ → List ℕ) → shown_below paths n.nodes ≡ (rule i.stack.last (shown_layer paths i.stack.newest.nodes)).next)
    → KeepsRoom i.stack.newest n
    → the_view (record i { stack = kept_stack i.stack (with_item i.stack.layers at x) n region; expansion = expansion; redirects = redirects })
    ≡ record (the_view i) { layers = expand_last (rule (last_depth (the_view i))) (the_view i).layers; told = ranks_in n }
expanded-seen rule i h low x n region at expansion redirects same rest above next next_rooms =
    let seen = expanded-view (rule i.stack.last) i h low x n rest above next in
    ap₂ (λ (r : ℕ) (l : List (List DdNode)). record (the_view i) { room = r; layers = l; told = ranks_in n }) next_rooms.nodes_room
    (subst (λ (k : ℕ). shown_down (at_depth i.stack.vars i.stack.first (i.stack.last + 1) (set i.stack.layers.items k x) n) (i.prefix.items ∷ []) i.stack.first (i.stack.last + 1 - i.stack.first) ≡ expand_last (rule i.stack.last) (the_view i).layers) (sym same) seen
    ∙ ap (λ (k : ℕ). expand_last (rule k) (the_view i).layers) (sym (deep i h)))

pub expanded-kept : (dp : Dp) (rule : ℕ → List DdNode → TwoLayers) (i : Inside) → Expands dp i.width rule → the_invariant i → IsUnderWay dp (the_view i) → i.stack.last < i.stack.vars → (n : LayerView)
    → (i.stack.first + 2 ≤ i.stack.last → length i.stack.newest.nodes ≤ i.width)
    → ((paths : ℕ → List ℕ) → shown_below paths n.nodes ≡ (rule i.stack.last (shown_layer paths i.stack.newest.nodes)).next)
    → Each (IsRanked dp (i.stack.last + 1)) n.nodes → (i.width < length n.nodes → Each (λ (node : NodeView). IsSome node.parent) n.nodes) → length n.nodes ≤ length i.stack.newest.nodes * dp.choices i.stack.last
    → IsUnderWay dp (record (the_view i) { layers = expand_last (rule (last_depth (the_view i))) (the_view i).layers; told = ranks_in n })
expanded-kept dp rule i expands h u low n narrow next ranked unmerged few =
    let V = the_view i in
    let ps = last_paths i in
    let at = deep i h in
    let is : (rule (last_depth V) (last_layer V.layers)).next ≡ shown_below (path_in ps) n.nodes =
    ap (λ (k : ℕ). (rule k (last_layer V.layers)).next) at ∙ (ap (λ (l : List DdNode). (rule i.stack.last l).next) (last-seen i h) ∙ sym (next (path_in ps))) in
    let vars = u.prepared.vars in
    let long = below-length (path_in ps) n.nodes in
    let count = count-seen i h in
    let fits = fits-seen dp i h u low narrow in
    let candidates = fits.candidates in
    let choices = ap dp.choices at in
    let told = ranks-below dp (i.stack.last + 1) ps n ranked in
    expanded-under-way dp rule V expands (ranks_in n) u (omega arith)
    (subst (λ (k : ℕ). ranks_in n ≡ map (λ (node : DdNode). told_of dp (k + 1) node.row) (rule (last_depth V) (last_layer V.layers)).next) (sym at)
    (subst (λ (l : List DdNode). ranks_in n ≡ map (λ (node : DdNode). told_of dp (i.stack.last + 1) node.row) l) (sym is) told))
    (subst (λ (l : List DdNode). i.width < length l → Each (λ (node : DdNode). 1 ≤ length node.path) l) (sym is) (λ wide. have-paths (path_in ps) n.nodes (unmerged (omega arith))))
    (subst (λ (l : List DdNode). length l ≤ length (last_layer V.layers) * dp.choices (last_depth V)) (sym is)
    (subst (λ (c : ℕ). length (shown_below (path_in ps) n.nodes) ≤ c * dp.choices (last_depth V)) (sym count) (subst (λ (c : ℕ). length (shown_below (path_in ps) n.nodes) ≤ length i.stack.newest.nodes * c) (sym choices) (omega arith))))
    (subst (λ (l : List DdNode). length l ≤ i.stack.newest.nodes_room) (sym is) (omega arith))

-- a last layer that is wider than the width is not the first one
pub wide-less : (dp : Dp) (i : Inside) → the_invariant i → IsUnderWay dp (the_view i) → i.width < length (last_layer (the_view i).layers) → i.stack.first < i.stack.last
wide-less dp i h u wide = (let less = wide-deep dp (the_view i) u wide in let at = deep i h in let begun = h.first in omega arith)
