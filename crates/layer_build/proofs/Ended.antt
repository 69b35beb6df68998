-- The suffixes of a layer are set in memory.
use Rattle.std.proofs.Common.{◌≡◌, ◌≢◌, ℕ, zero, suc, ◌+◌, ◌-◌, ◌<◌, ◌≤◌, nat_eq, nat_lt, ℤ, pos, ◌+ℤ◌, Bool, true, false, cond, List, [], ◌∷◌, ◌++◌, map, set, take, drop, length, get_or, slice_get, slice_index_or, Option, Some, None, unwrap_or, ◌⊎◌, inl, inr, refl, sym, ap, ap₂, ◌∙◌, subst, arith}
use Rattle.std.proofs.lemmas.Bool.Decides.{nat_tests}
use Rattle.std.proofs.lemmas.List.{get_or-set_other, get_or-take, get_or-drop, get_or_default, set-append_left, set-append_right, take-append-drop, length-take-le}
use Rattle.std.specs.List.{filter_map, cons_option}
use Rattle.dp_model.specs.Dp.{Dp}
use Rattle.dp_model.specs.Lists.{Each}
use Rattle.dp_model.specs.Numbers.{add_some, greatest}
use Rattle.dp_laws.specs.declared.arc.DdArc.{DdArc}
use Rattle.dp_laws.specs.Diagrams.Nodes.{DdNode, path_below}
use Rattle.dp_laws.specs.Diagrams.Seen.{suffix_at, suffix_from}
use Rattle.dp_laws.specs.Rules.Compiling.{first_of_layers}
use Rattle.layer_nodes.specs.Nodes.{Told, told_by, NodeView, LayerView, shown, shown_from, shown_layer}
use Rattle.layer_nodes.specs.Ending.{suffix_of, lengths, MayLead, ended_layer}
use Rattle.row_region.specs.Region.{RegionView}
use Rattle.layer_build.specs.contracts.workspace.Workspace.{the_view, the_invariant}
use Rattle.layer_build.specs.declared.stack.Stack.{Stack}
use Rattle.layer_build.specs.declared.workspace.Workspace.TheInside.{Inside}
use Rattle.layer_build.specs.Layers.{SpaceView, last_depth, layer_at}
use Rattle.layer_build.specs.Ended.{ended, ended_at, longest_from, with_suffix, HasSuffixesAt}
use Rattle.layer_build.specs.Stacked.{no_layer, place_of, room_of, nodes_in, path_in, paths_below, paths_at, shown_down, shown_stack, HasAllDepths, HaveDepths, HaveRooms}
use Rattle.layer_nodes.specs.Holding.{AreHeld, places_of}
use Rattle.layer_build.specs.UnderWay.{IsUnderWay}
use Rattle.layer_build.proofs.Going.{deep}
use Rattle.layer_build.proofs.Held.{HaveSameRows, same-rows, rows-still, room-as}
use Rattle.layer_build.proofs.Reading.{layer-down}
use Rattle.layer_build.proofs.Stacks.{newest-at, above-at, kept-at, put-at, place-low, places-apart, rooms-set, is-or}
use Rattle.layer_build.proofs.Suffixed.{ended_by, like-ended, depths-like, like-under-way, same-down}

-- ---- a layer among others

pub set-front : {X : Type 0} (xs : List X) (n i : ℕ) (x : X) → i < n → n ≤ length xs → set (take n xs) i x ++ drop n xs ≡ set xs i x
set-front xs n i x less fits =
    let long = length-take-le n xs fits in
    sym (set-append_left (take n xs) (drop n xs) i x (omega arith)) ∙ ap (λ l. set l i x) (take-append-drop n xs)

pub set-following : {X : Type 0} (xs : List X) (n : ℕ) (x : X) → n ≤ length xs → take n xs ++ set (drop n xs) 0 x ≡ set xs n x
set-following xs n x fits =
    let long = length-take-le n xs fits in
    let none : n - n ≡ 0 = omega arith in
    ap (λ i. take n xs ++ set (drop n xs) i x) (sym none) ∙ (sym (set-append_right (take n xs) (drop n xs) n n x long (omega arith)) ∙ ap (λ l. set l n x) (take-append-drop n xs))

pub front-at : (xs front : List LayerView) (n i : ℕ) (d : LayerView) → front ≡ take n xs → i < n → n ≤ length xs → get_or front i d ≡ slice_index_or xs i no_layer
front-at xs front n i d e less fits = ap (λ l. get_or l i d) e ∙ (get_or-take n xs i d less ∙ get_or_default xs i d no_layer (omega arith))

pub following-at : (xs following : List LayerView) (n : ℕ) (d : LayerView) → following ≡ drop n xs → n < length xs → get_or following 0 d ≡ slice_index_or xs n no_layer
following-at xs following n d e less =
    let same : n + 0 ≡ n = omega arith in
    ap (λ l. get_or l 0 d) e ∙ (get_or-drop n xs 0 d ∙ (ap (λ i. get_or xs i d) same ∙ get_or_default xs n d no_layer less))

-- the arcs of a layer after lead to one in front
pub leads-following : (xs front following : List LayerView) (n i : ℕ) (d e : LayerView) → front ≡ take n xs → following ≡ drop n xs → i < n → n < length xs
    → Each (λ (node : NodeView). Each (λ (arc : DdArc). MayLead (map (λ (other : NodeView). other.suffix) (slice_index_or xs i no_layer).nodes) arc.target) node.arcs) (slice_index_or xs n no_layer).nodes
    → Each (λ (node : NodeView). Each (λ (arc : DdArc). MayLead (map (λ (other : NodeView). other.suffix) (get_or front i d).nodes) arc.target) node.arcs) (get_or following 0 e).nodes
leads-following xs front following n i d e f b less fits h =
    let Leads : LayerView → LayerView → Type 0 = λ l m. Each (λ (node : NodeView). Each (λ (arc : DdArc). MayLead (map (λ (other : NodeView). other.suffix) l.nodes) arc.target) node.arcs) m.nodes in
    subst (λ l. Leads l (get_or following 0 e)) (sym (front-at xs front n i d f less (omega arith))) (subst (λ m. Leads (slice_index_or xs i no_layer) m) (sym (following-at xs following n e b fits)) h)

-- ---- in a stack

above-rule : (s : Stack) (depth : ℕ) → depth ≢ s.last → (nodes : List NodeView)
    → map (λ (n : NodeView). record n { suffix = greatest (lengths (map (λ (below : NodeView). below.suffix) (nodes_in s (depth + 1))) n.arcs) }) nodes ≡ map (with_suffix (longest_from s depth)) nodes
above-rule s depth other nodes =
    let test : nat_eq depth s.last ≡ false = grind (arith, nat_tests) in
    ap (λ (b : Bool). map (with_suffix (λ arcs. cond b (Some (pos 0)) (greatest (lengths (map (λ (below : NodeView). below.suffix) (nodes_in s (depth + 1))) arcs)))) nodes) (sym test)

-- a layer above the last one, and the last one
pub stands-above : (s : Stack) (depth : ℕ) → depth < s.last → nodes_in s depth ≡ (slice_index_or s.layers.items (place_of s.vars s.first depth) no_layer).nodes
stands-above s depth low = above-at s.vars s.first s.last s.layers.items s.newest depth (λ e. absurd (omega arith))

pub next-newest : (s : Stack) (depth : ℕ) → depth ≡ s.last → nodes_in s depth ≡ s.newest.nodes
next-newest s depth e = newest-at s.vars s.first s.last s.layers.items s.newest depth e

-- the last layer

down-to : (j last : ℕ) → j ≤ last → (j < last) ⊎ (j ≡ last)
down-to j last low = grind arith

-- a layer above it
pub layer-ended : (s : Stack) (depth at : ℕ) (layers : List LayerView) (x : LayerView) → HasAllDepths s → depth < s.last → at ≡ place_of s.vars s.first depth
    → x ≡ ended_layer (map (λ (below : NodeView). below.suffix) (nodes_in s (depth + 1))) (slice_index_or s.layers.items at no_layer) → layers ≡ set s.layers.items at x
    → (new : Stack) → new.vars ≡ s.vars → new.first ≡ s.first → new.last ≡ s.last → new.region ≡ s.region → new.newest ≡ s.newest → new.layers.items ≡ layers → HasSuffixesAt depth s new
layer-ended s depth at layers x few low place is put new vars first last region newest items =
    let deep = few.last in
    let count = few.count in
    let within = place-low s.vars s.first depth (omega arith) in
    let apart : depth ≢ s.last = λ e. absurd (omega arith) in
    let olds = s.layers.items in
    let rule = map (λ (n : NodeView). record n { suffix = greatest (lengths (map (λ (below : NodeView). below.suffix) (nodes_in s (depth + 1))) n.arcs) }) in
    let old : nodes_in s depth ≡ (slice_index_or olds at no_layer).nodes = above-at s.vars s.first s.last olds s.newest depth apart ∙ ap (λ (i : ℕ). (slice_index_or olds i no_layer).nodes) (sym place) in
    let all : new.layers.items ≡ set olds (place_of s.vars s.first depth) x = items ∙ (put ∙ ap (λ (i : ℕ). set olds i x) place) in
    let same : (k : ℕ) → nodes_in new k ≡ (cond (nat_eq k s.last) s.newest (slice_index_or (set olds (place_of s.vars s.first depth) x) (place_of s.vars s.first k) no_layer)).nodes = λ k.
    ap (λ (n : ℕ). (cond (nat_eq k n) new.newest (slice_index_or new.layers.items (place_of new.vars new.first k) no_layer)).nodes) last
    ∙ (ap₂ (λ (v f : ℕ). (cond (nat_eq k s.last) new.newest (slice_index_or new.layers.items (place_of v f k) no_layer)).nodes) vars first
    ∙ ap₂ (λ (l : LayerView) (ls : List LayerView). (cond (nat_eq k s.last) l (slice_index_or ls (place_of s.vars s.first k) no_layer)).nodes) newest all) in
    record {
      vars = vars;
      first = first;
      last = last;
      region = region;
      rooms = ap (map room_of) (items ∙ put) ∙ rooms-set olds at x (slice_index_or olds at no_layer) no_layer refl (record { words = ap (λ (l : LayerView). l.words) is; nodes_room = ap (λ (l : LayerView). l.nodes_room) is; arcs_room = ap (λ (l : LayerView). l.arcs_room) is });
      newest = ap room_of newest;
      nodes = same depth ∙ (put-at s.vars s.first s.last olds x s.newest depth low (omega arith) ∙ (ap (λ (l : LayerView). l.nodes) is ∙ (ap rule (sym old) ∙ above-rule s depth apart (nodes_in s depth))));
      others = λ k most other. same k ∙ go k other (down-to k s.last most);
      top = ap (λ (ls : List LayerView). (slice_index_or ls (s.vars + 1) no_layer).nodes) all ∙ ap (λ (l : LayerView). l.nodes) (get_or-set_other olds (place_of s.vars s.first depth) (s.vars + 1) x no_layer (λ e. absurd (omega arith)));
    }
  where
    go : (k : ℕ) → k ≢ depth → (k < s.last) ⊎ (k ≡ s.last) → (cond (nat_eq k s.last) s.newest (slice_index_or (set s.layers.items (place_of s.vars s.first depth) x) (place_of s.vars s.first k) no_layer)).nodes ≡ nodes_in s k
    go k other (inl less) =
        let deep = few.last in
        kept-at s.vars s.first s.last s.last (place_of s.vars s.first depth) s.layers.items x s.newest s.newest k less less (places-apart s.vars s.first depth k (omega arith) (omega arith) (λ e. other (sym e)))
    go k other (inr e) = newest-at s.vars s.first s.last (set s.layers.items (place_of s.vars s.first depth) x) s.newest k e ∙ sym (newest-at s.vars s.first s.last s.layers.items s.newest k e)

-- ---- as the layers are seen

shown-with : (rule : List DdArc → Option ℤ) (paths : ℕ → List ℕ) (p : ℕ) (nodes : List NodeView) → shown_from paths p (map (with_suffix rule) nodes) ≡ map (λ (n : DdNode). record n { suffix = rule n.arcs }) (shown_from paths p nodes)
shown-with rule paths p [] = refl
shown-with rule paths p (n ∷ nodes) = ap (λ (l : List DdNode). record (shown (paths p) n) { suffix = rule n.arcs } ∷ l) (shown-with rule paths (p + 1) nodes)

paths-with : (rule : List DdArc → Option ℤ) (above : List (List ℕ)) (nodes : List NodeView) → paths_below above (map (with_suffix rule) nodes) ≡ paths_below above nodes
paths-with rule above [] = refl
paths-with rule above (n ∷ nodes) = ap (λ (l : List (List ℕ)). path_below (path_in above) n.parent n.decision ∷ l) (paths-with rule above nodes)

ranks-with : (rule : List DdArc → Option ℤ) (nodes : List NodeView) → map told_by (map (with_suffix rule) nodes) ≡ map told_by nodes
ranks-with rule [] = refl
ranks-with rule (n ∷ nodes) = ap (λ (l : List Told). told_by n ∷ l) (ranks-with rule nodes)

-- the layers where the suffixes are set at depth d, of layers down to depth e
end-down : (rule : List DdArc → Option ℤ) (old new : ℕ → List NodeView) (d e : ℕ) → ((j : ℕ) → j ≤ e → j ≢ d → new j ≡ old j) → new d ≡ map (with_suffix rule) (old d)
    → (ps : List (List ℕ)) (k m j : ℕ) → k + j ≡ d → j ≤ m → k + m ≤ e → shown_down new ps k m ≡ ended_by rule j (shown_down old ps k m)
end-down rule old new d e same here ps k zero zero at within low =
    let is : d ≡ k = omega arith in
    let there : new k ≡ map (with_suffix rule) (old k) = subst (λ (h : ℕ). new h ≡ map (with_suffix rule) (old h)) is here in
    ap (λ (l : List NodeView). shown_layer (path_in ps) l ∷ []) there ∙ ap (λ (l : List DdNode). l ∷ []) (shown-with rule (path_in ps) 0 (old k))
end-down rule old new d e same here ps k zero (suc j) at within low = absurd (omega arith)
end-down rule old new d e same here ps k (suc m) zero at within low =
    let is : d ≡ k = omega arith in
    let there : new k ≡ map (with_suffix rule) (old k) = subst (λ (h : ℕ). new h ≡ map (with_suffix rule) (old h)) is here in
    let next = same (k + 1) (omega arith) (λ f. absurd (omega arith)) in
    let rest = same-down old new e (k + 1) m (omega arith) (λ h above below. same h below (λ f. absurd (omega arith))) (paths_below ps (new (k + 1))) in
    ap₂ (λ (a : List DdNode) (b : List (List DdNode)). a ∷ b) (ap (shown_layer (path_in ps)) there ∙ shown-with rule (path_in ps) 0 (old k)) (rest ∙ ap (λ (l : List NodeView). shown_down old (paths_below ps l) (k + 1) m) next)
end-down rule old new d e same here ps k (suc m) (suc j) at within low =
    let first = same k (omega arith) (λ f. absurd (omega arith)) in
    let rest = end-down rule old new d e same here (paths_below ps (new (k + 1))) (k + 1) m j (omega arith) (omega arith) (omega arith) in
    ap₂ (λ (a : List DdNode) (b : List (List DdNode)). a ∷ b) (ap (shown_layer (path_in ps)) first) (rest ∙ ap (λ (p : List (List ℕ)). ended_by rule j (shown_down old p (k + 1) m)) (paths j (omega arith)))
  where
    paths : (j' : ℕ) → k + suc j' ≡ d → paths_below ps (new (k + 1)) ≡ paths_below ps (old (k + 1))
    paths zero f =
        let is : d ≡ k + 1 = omega arith in
        ap (paths_below ps) (subst (λ (h : ℕ). new h ≡ map (with_suffix rule) (old h)) is here) ∙ paths-with rule ps (old (k + 1))
    paths (suc j') f = ap (paths_below ps) (same (k + 1) (omega arith) (λ g. absurd (omega arith)))

-- ---- in a workspace

pub layers-ended : (i : Inside) → the_invariant i → (depth : ℕ) (new : Stack) → i.stack.first ≤ depth → depth ≤ i.stack.last → HasSuffixesAt depth i.stack new
    → shown_stack i.prefix.items new ≡ ended_by (longest_from i.stack depth) (depth - length i.prefix.items) (the_view i).layers
layers-ended i h depth new above low e =
    let ordered = h.stack.first in
    let first = i.stack.first in
    let last = i.stack.last in
    let ps = i.prefix.items ∷ [] in
    let rule = longest_from i.stack depth in
    ap₂ (λ (f l : ℕ). shown_down (nodes_in new) ps f (l - f)) e.first e.last
    ∙ (end-down rule (nodes_in i.stack) (nodes_in new) depth last (λ j most other. e.others j most other) e.nodes ps first (last - first) (depth - first) (omega arith) (omega arith) (omega arith)
    ∙ ap (λ (b : ℕ). ended_by rule (depth - b) (the_view i).layers) h.first)

-- the ranks stay
newest-ranks : (i : Inside) (depth : ℕ) (new : Stack) → HasSuffixesAt depth i.stack new → (i.stack.last ≡ depth) ⊎ (i.stack.last ≢ depth) → map told_by new.newest.nodes ≡ map told_by i.stack.newest.nodes
newest-ranks i depth new e split =
    let s = i.stack in
    let old : nodes_in s s.last ≡ s.newest.nodes = newest-at s.vars s.first s.last s.layers.items s.newest s.last refl in
    let now : nodes_in new s.last ≡ new.newest.nodes = newest-at new.vars new.first new.last new.layers.items new.newest s.last (sym e.last) in
    let told : List NodeView → List Told = map told_by in
    sym (ap told now) ∙ (elim split as (λ _. told (nodes_in new s.last) ≡ told (nodes_in s s.last)) [
      | inl same ↦ subst (λ (d : ℕ). told (nodes_in new d) ≡ told (nodes_in s d)) (sym same) (ap told e.nodes ∙ ranks-with (longest_from s depth) (nodes_in s depth))
      | inr other ↦ ap told (e.others s.last (omega arith) other)
    ] ∙ ap told old)

-- the rows stay held
held-with : (region : RegionView) (rule : List DdArc → Option ℤ) (nodes : List NodeView) → AreHeld region nodes → AreHeld region (map (with_suffix rule) nodes)
held-with region rule [] held = tt
held-with region rule (node ∷ nodes) held = (record { found = held.0.found; size = held.0.size }, held-with region rule nodes held.1)

places-with : (rule : List DdArc → Option ℤ) (nodes : List NodeView) → places_of (map (with_suffix rule) nodes) ≡ places_of nodes
places-with rule [] = refl
places-with rule (node ∷ nodes) = ap (λ (l : List ℕ). node.place ∷ l) (places-with rule nodes)

rows-with : (rule : List DdArc → Option ℤ) (nodes : List NodeView) → HaveSameRows nodes (map (with_suffix rule) nodes)
rows-with rule nodes = record { places = places-with rule nodes; held = λ region held. held-with region rule nodes held }

pub ended-space : (i : Inside) → the_invariant i → (depth : ℕ) (new : Stack) → i.stack.first ≤ depth → depth ≤ i.stack.last → HasSuffixesAt depth i.stack new → the_invariant (record i { stack = new })
ended-space i h depth new above low e =
    let s = i.stack in
    let rule = longest_from s depth in
    let words : new.newest.words ≡ s.newest.words = ap (λ (l : LayerView). l.words) e.newest in
    let room : new.newest.nodes_room ≡ s.newest.nodes_room = ap (λ (l : LayerView). l.nodes_room) e.newest in
    let rooms : HaveRooms new.vars i.words i.width i.choices.items (map room_of new.layers.items) =
    subst (λ (v : ℕ). HaveRooms v i.words i.width i.choices.items (map room_of new.layers.items)) (sym e.vars) (subst (HaveRooms s.vars i.words i.width i.choices.items) (sym e.rooms) h.stack.rooms) in
    let depths : HaveDepths s.first (shown_stack i.prefix.items new) = subst (HaveDepths s.first) (sym (layers-ended i h depth new above low e))
    (depths-like s.first (the_view i).layers (ended_by rule (depth - length i.prefix.items) (the_view i).layers) (like-ended rule (depth - length i.prefix.items) (the_view i).layers) h.depths) in
    let vars = e.vars in
    let first = e.first in
    let last = e.last in
    let small = h.stack.small in
    let ordered = h.stack.first in
    let most = h.stack.last in
    let begun = h.first in
    let fits = h.prefix_fits in
    let path = h.path in
    record {
      stack = record {
        small = omega arith;
        first = omega arith;
        last = omega arith;
        rooms = rooms;
        newest_words = words ∙ h.stack.newest_words;
        top = ap (λ (v : ℕ). (slice_index_or new.layers.items (v + 1) no_layer).nodes) e.vars ∙ (e.top ∙ h.stack.top);
      };
      rows = rows-still i.words i.width i.held s new h.stack.first
          (record { vars = e.vars; first = e.first; last = e.last; region = e.region; rooms = e.rooms; newest_room = room; rows = λ k from deep. kept k deep (is-or k depth) }) h.rows;
      first = e.first ∙ h.first;
      prefix_fits = omega arith;
      expands = room-as room h.expands;
      redirects_fit = room-as room h.redirects_fit;
      path = h.path ∙ sym e.vars;
      depths = subst (λ (f : ℕ). HaveDepths f (shown_stack i.prefix.items new)) (sym e.first) depths;
      has_layers = λ dp a b c. h.has_layers dp a (sym e.vars ∙ b) c;
    }
  where
    kept : (k : ℕ) → k ≤ i.stack.last → (k ≡ depth) ⊎ (k ≢ depth) → HaveSameRows (nodes_in i.stack k) (nodes_in new k)
    kept k deep (inl same) =
        subst (λ (d : ℕ). HaveSameRows (nodes_in i.stack d) (nodes_in new d)) (sym same)
        (subst (HaveSameRows (nodes_in i.stack depth)) (sym e.nodes) (rows-with (longest_from i.stack depth) (nodes_in i.stack depth)))
    kept k deep (inr apart) = same-rows _ _ (e.others k deep apart)

-- what is seen of it
pub ended-seen : (i : Inside) → the_invariant i → (depth : ℕ) (new : Stack) → i.stack.first ≤ depth → depth ≤ i.stack.last → HasSuffixesAt depth i.stack new
    → the_view (record i { stack = new }) ≡ record (the_view i) { layers = ended_by (longest_from i.stack depth) (depth - length i.prefix.items) (the_view i).layers }
ended-seen i h depth new above low e =
    let s = i.stack in
    let layers = ended_by (longest_from s depth) (depth - length i.prefix.items) (the_view i).layers in
    let room : new.newest.nodes_room ≡ s.newest.nodes_room = ap (λ (l : LayerView). l.nodes_room) e.newest in
    let told = newest-ranks i depth new e (is-or s.last depth) in
    let seen = layers-ended i h depth new above low e in
    ap₂ (λ (v r : ℕ). record (the_view i) { vars = v; room = r; layers = shown_stack i.prefix.items new; told = map told_by new.newest.nodes }) e.vars room
    ∙ ap₂ (λ (l : List (List DdNode)) (rs : List Told). record (the_view i) { layers = l; told = rs }) seen told

-- it stays under way
pub ended-under-way : (dp : Dp) (i : Inside) → the_invariant i → (depth : ℕ) (new : Stack) → i.stack.first ≤ depth → depth ≤ i.stack.last → HasSuffixesAt depth i.stack new
    → IsUnderWay dp (the_view i) → IsUnderWay dp (the_view (record i { stack = new }))
ended-under-way dp i h depth new above low e u =
    let rule = longest_from i.stack depth in
    let j = depth - length i.prefix.items in
    subst (IsUnderWay dp) (sym (ended-seen i h depth new above low e)) (like-under-way dp (the_view i) (ended_by rule j (the_view i).layers) (like-ended rule j (the_view i).layers) u)

-- ---- the suffixes are those of the diagram

pub layer-is : (i : Inside) → the_invariant i → (depth : ℕ) → i.stack.first ≤ depth → depth ≤ i.stack.last
    → layer_at (the_view i) depth ≡ shown_layer (path_in (paths_at (nodes_in i.stack) (i.prefix.items ∷ []) i.stack.first (depth - i.stack.first))) (nodes_in i.stack depth)
layer-is i h depth low high =
    let begun = h.first in
    let away : depth - length i.prefix.items ≡ depth - i.stack.first = ap (λ (n : ℕ). depth - n) (sym begun) in
    let layer = layer-down (nodes_in i.stack) (i.prefix.items ∷ []) i.stack.first (i.stack.last - i.stack.first) (depth - i.stack.first) depth (omega arith) (omega arith) in
    ap (λ (o : Option (List DdNode)). unwrap_or o []) (ap (slice_get (shown_stack i.prefix.items i.stack)) away ∙ layer)

suffixes-of : (paths : ℕ → List ℕ) (p : ℕ) (nodes : List NodeView) → map (λ (n : DdNode). n.suffix) (shown_from paths p nodes) ≡ map (λ (n : NodeView). n.suffix) nodes
suffixes-of paths p [] = refl
suffixes-of paths p (n ∷ nodes) = ap (λ (l : List (Option ℤ)). n.suffix ∷ l) (suffixes-of paths (p + 1) nodes)

arcs-of : (P : List DdArc → Type 0) (paths : ℕ → List ℕ) (p : ℕ) (nodes : List NodeView) → Each (λ (n : DdNode). P n.arcs) (shown_from paths p nodes) → Each (λ (n : NodeView). P n.arcs) nodes
arcs-of P paths p [] h = tt
arcs-of P paths p (n ∷ nodes) h = (h.0, arcs-of P paths (p + 1) nodes h.1)

-- in memory
pub suffixes-seen : (i : Inside) → the_invariant i → (depth : ℕ) → i.stack.first ≤ depth → depth ≤ i.stack.last → map (λ (n : DdNode). n.suffix) (layer_at (the_view i) depth) ≡ map (λ (n : NodeView). n.suffix) (nodes_in i.stack depth)
suffixes-seen i h depth low high = ap (map (λ (n : DdNode). n.suffix)) (layer-is i h depth low high) ∙ suffixes-of (path_in (paths_at (nodes_in i.stack) (i.prefix.items ∷ []) i.stack.first (depth - i.stack.first))) 0 (nodes_in i.stack depth)

pub arcs-seen : (P : List DdArc → Type 0) (i : Inside) → the_invariant i → (depth : ℕ) → i.stack.first ≤ depth → depth ≤ i.stack.last → Each (λ (n : DdNode). P n.arcs) (layer_at (the_view i) depth) → Each (λ (n : NodeView). P n.arcs) (nodes_in i.stack depth)
arcs-seen P i h depth low high all =
    arcs-of P (path_in (paths_at (nodes_in i.stack) (i.prefix.items ∷ []) i.stack.first (depth - i.stack.first))) 0 (nodes_in i.stack depth) (subst (Each (λ (n : DdNode). P n.arcs)) (layer-is i h depth low high) all)

suffix-is : (next : List DdNode) (o : Option ℕ) → suffix_of (map (λ (n : DdNode). n.suffix) next) o ≡ suffix_at next o
suffix-is next None = refl
suffix-is next (Some i) = at next i
  where
    at : (next : List DdNode) (i : ℕ) → suffix_of (map (λ (n : DdNode). n.suffix) next) (Some i) ≡ suffix_at next (Some i)
    at [] i = refl
    at (n ∷ next) zero = refl
    at (n ∷ next) (suc i) = at next i

lengths-are : (next : List DdNode) (arcs : List DdArc) → lengths (map (λ (n : DdNode). n.suffix) next) arcs ≡ filter_map (λ arc. add_some (arc.gain +ℤ arc.longer) (suffix_at next arc.target)) arcs
lengths-are next [] = refl
lengths-are next (arc ∷ arcs) = ap₂ (λ (o : Option ℤ) (l : List ℤ). cons_option (add_some (arc.gain +ℤ arc.longer) o) l) (suffix-is next arc.target) (lengths-are next arcs)

-- the rule in memory is that of the diagram
longest-is : (dp : Dp) (i : Inside) → the_invariant i → (depth : ℕ) → i.stack.first ≤ depth → depth ≤ i.stack.last → i.stack.last ≡ dp.vars → (arcs : List DdArc) → (depth ≡ i.stack.last) ⊎ (depth ≢ i.stack.last)
    → longest_from i.stack depth arcs ≡ suffix_from dp depth (layer_at (the_view i) (depth + 1)) arcs
longest-is dp i h depth low high whole arcs (inl same) =
    let next = layer_at (the_view i) (depth + 1) in
    let at : nat_eq depth i.stack.last ≡ true = grind (arith, nat_tests) in
    let low : nat_lt depth dp.vars ≡ false = grind (arith, nat_tests) in
    ap (λ (b : Bool). cond b (Some (pos 0)) (greatest (lengths (map (λ (below : NodeView). below.suffix) (nodes_in i.stack (depth + 1))) arcs))) at
    ∙ sym (ap (λ (b : Bool). cond b (greatest (filter_map (λ arc. add_some (arc.gain +ℤ arc.longer) (suffix_at next arc.target)) arcs)) (Some (pos 0))) low)
longest-is dp i h depth low high whole arcs (inr other) =
    let next = layer_at (the_view i) (depth + 1) in
    let at : nat_eq depth i.stack.last ≡ false = grind (arith, nat_tests) in
    let less : nat_lt depth dp.vars ≡ true = grind (arith, nat_tests) in
    ap (λ (b : Bool). cond b (Some (pos 0)) (greatest (lengths (map (λ (below : NodeView). below.suffix) (nodes_in i.stack (depth + 1))) arcs))) at
    ∙ (ap (λ (l : List (Option ℤ)). greatest (lengths l arcs)) (sym (suffixes-seen i h (depth + 1) (omega arith) (omega arith)))
    ∙ (ap greatest (lengths-are next arcs)
    ∙ sym (ap (λ (b : Bool). cond b (greatest (filter_map (λ arc. add_some (arc.gain +ℤ arc.longer) (suffix_at next arc.target)) arcs)) (Some (pos 0))) less)))

first-is : (rest : List (List DdNode)) → first_of_layers rest ≡ unwrap_or (slice_get rest 0) []
first-is [] = refl
first-is (layer ∷ rest) = refl

layer-with : (dp : Dp) (k : ℕ) (next : List DdNode) (rule : List DdArc → Option ℤ) (layer : List DdNode) → ((arcs : List DdArc) → rule arcs ≡ suffix_from dp k next arcs)
    → map (λ (n : DdNode). record n { suffix = rule n.arcs }) layer ≡ map (ended dp k next) layer
layer-with dp k next rule [] is = refl
layer-with dp k next rule (n ∷ layer) is = ap₂ (λ (o : Option ℤ) (l : List DdNode). record n { suffix = o } ∷ l) (is n.arcs) (layer-with dp k next rule layer is)

ended-is : (dp : Dp) (k j : ℕ) (rule : List DdArc → Option ℤ) (ls : List (List DdNode)) → ((arcs : List DdArc) → rule arcs ≡ suffix_from dp k (unwrap_or (slice_get ls (suc j)) []) arcs) → ended_by rule j ls ≡ ended_at dp k j ls
ended-is dp k j rule [] is = refl
ended-is dp k zero rule (layer ∷ rest) is = ap (λ (l : List DdNode). l ∷ rest) (layer-with dp k (first_of_layers rest) rule layer (λ arcs. is arcs ∙ ap (λ (next : List DdNode). suffix_from dp k next arcs) (sym (first-is rest))))
ended-is dp k (suc j) rule (layer ∷ rest) is = ap (λ (ls : List (List DdNode)). layer ∷ ls) (ended-is dp k j rule rest is)

-- a depth of the diagram is one of the stack
pub record IsWithin (i : Inside) (v : SpaceView) (depth : ℕ) : Type 0 where
  pub above : i.stack.first ≤ depth
  pub low : depth ≤ i.stack.last
  pub deep : last_depth v ≡ i.stack.last

pub is-within : (i : Inside) → the_invariant i → (v : SpaceView) → the_view i ≡ v → (depth : ℕ) → length v.prefix ≤ depth → depth ≤ last_depth v → IsWithin i v depth
is-within i h v e depth begun most =
    let at = deep i h in
    let first = h.first in
    let same : length i.prefix.items ≡ length v.prefix = ap (λ (t : SpaceView). length t.prefix) e in
    let last : last_depth v ≡ i.stack.last = sym (ap last_depth e) ∙ at in
    record { above = omega arith; low = omega arith; deep = last }

pub all-ended : (dp : Dp) (i : Inside) → the_invariant i → (v : SpaceView) → the_view i ≡ v → (depth : ℕ) (new : Stack) → length v.prefix ≤ depth → depth ≤ last_depth v → last_depth v ≡ v.vars → dp.vars ≡ v.vars → HasSuffixesAt depth i.stack new
    → the_view (record i { stack = new }) ≡ record v { layers = ended_at dp depth (depth - length v.prefix) v.layers }
all-ended dp i h v e depth new begun most whole vars ended =
    let at = is-within i h v e depth begun most in
    let first = h.first in
    let above = at.above in
    let low = at.low in
    let all : i.stack.last ≡ dp.vars = sym at.deep ∙ (whole ∙ sym vars) in
    let j = depth - length i.prefix.items in
    let next : depth + 1 - length i.prefix.items ≡ suc j = omega arith in
    let rule : (arcs : List DdArc) → longest_from i.stack depth arcs ≡ suffix_from dp depth (unwrap_or (slice_get (the_view i).layers (suc j)) []) arcs =
    λ arcs. longest-is dp i h depth above low all arcs (is-or depth i.stack.last) ∙ ap (λ (n : ℕ). suffix_from dp depth (unwrap_or (slice_get (the_view i).layers n) []) arcs) next in
    ended-seen i h depth new above low ended
    ∙ (ap (λ (ls : List (List DdNode)). record (the_view i) { layers = ls }) (ended-is dp depth j (longest_from i.stack depth) (the_view i).layers rule)
    ∙ ap (λ (t : SpaceView). record t { layers = ended_at dp depth (depth - length t.prefix) t.layers }) e)
