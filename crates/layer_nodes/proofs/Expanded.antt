-- A layer that was expanded in memory is that of the rules, whatever the paths are.
use Rattle.std.proofs.Common.{◌≡◌, ℕ, zero, suc, ◌+◌, ◌*◌, ◌<◌, ◌≤◌, nat_lt, ℤ, Bool, true, false, not, cond, ◌&&◌, ◌||◌, List, [], ◌∷◌, ◌++◌, length, map, take, drop, slice_get, position, Option, Some, None, IsSome, option_and_then, refl, sym, ◌∙◌, ap, ap₂, subst, append_assoc, length-append, arith}
use Rattle.std.proofs.Math.Seq.{drop-append_seam}
use Rattle.std.proofs.lemmas.List.{map-append, length-map, take-append-drop}
use Rattle.std.proofs.lemmas.Option.{slice_get-map, slice_get-get_or}
use Rattle.std.specs.List.{take-map}
use Rattle.dp_model.specs.Decisions.{below}
use Rattle.dp_model.specs.Dp.{Dp}
use Rattle.dp_model.specs.Gaps.{IsStateOf}
use Rattle.dp_model.specs.Lists.{Each}
use Rattle.dp_model.specs.Rows.{row_same}
use Rattle.dp_model.proofs.Members.{one-of-has, each-has, Each-then}
use Rattle.dp_laws.specs.Restricted.Beam.{expanded}
use Rattle.dp_laws.specs.Restricted.Extensions.{candidates, all_joined}
use Rattle.dp_laws.specs.Restricted.ReductionOrder.{in_order}
use Rattle.dp_laws.proofs.Restricted.Permutations.{each-at, Has-permutation}
use Rattle.dp_laws.specs.declared.arc.DdArc.{DdArc}
use Rattle.dp_laws.specs.Diagrams.Nodes.{DdNode, prefix_at}
use Rattle.dp_laws.specs.Diagrams.Seen.{decisions_at}
use Rattle.dp_laws.proofs.Diagrams.Places.{same-Some, Has-at}
use Rattle.dp_laws.specs.Rules.Compiling.{expand}
use Rattle.dp_laws.specs.Rules.Expanding.{makes, is_exact_row, node_for, new_layer, arc_of, with_arcs}
use Rattle.dp_laws.proofs.Rules.Expanded.{RowsApart, found-row, one-place, new-apart}
use Rattle.layer_candidates.specs.declared.key.Key.{Key}
use Rattle.layer_candidates.specs.declared.way.Way.{Way}
use Rattle.layer_candidates.specs.Extending.{all_allowed}
use Rattle.layer_candidates.specs.KeyOrder.{key_at, keys_of, reached_of, all_of, IsKeyOf}
use Rattle.layer_candidates.specs.Members.{member_as, members_as, IsMemberOf}
use Rattle.layer_candidates.specs.HeldRows.{held_row}
use Rattle.layer_candidates.specs.Ways.{way_at, way_row, all_reached, AreDistinct}
use Rattle.layer_candidates.proofs.HeldRows.{held-is}
use Rattle.layer_candidates.proofs.Layered.{has-table}
use Rattle.layer_candidates.proofs.Sorted.{key-row, keys-are, in-order, length-keys}
use Rattle.layer_nodes.specs.declared.node.Node.{Node}
use Rattle.layer_nodes.specs.declared.routing.Route.{Route}
use Rattle.layer_nodes.specs.declared.routing.StoredArc.{StoredArc}
use Rattle.row_region.specs.Region.{RegionView}
use Rattle.layer_nodes.specs.Holding.{AreHeld}
use Rattle.layer_nodes.specs.Nodes.{NodeView, shown, shown_from, shown_layer, shown_below, without_arcs}
use Rattle.layer_nodes.specs.Stored.{node_view_by, rows_in, HasArcsIn}
use Rattle.layer_nodes.specs.Steps.{IsParent, IsRanked}
use Rattle.layer_nodes.specs.Expanding.{Trial, trial, trials_at, trials_of, all_spanned, arc_to, LeadsToRow, AreArcsOf, all_exact, mark_at, AreTried, key_in, IsNumbered, node_of, member_of, members_from, AreArranged, IsExpanded}
use Rattle.layer_nodes.specs.Routing.{routed, routed_arcs, to_way, to_ways}
use Rattle.layer_nodes.proofs.Routed.{led, routed-led}
use Rattle.layer_nodes.proofs.Spans.{length-spanned}
use Rattle.layer_nodes.proofs.Stored.{get_or-any}
use Rattle.layer_nodes.proofs.Tried.{length-arcs}

-- the decisions of a layer above the last one
allowed-at : (dp : Dp) (k : ℕ) (s : List ℤ) → k < dp.vars → all_allowed dp k s (below (dp.choices k)) ≡ decisions_at dp k s
allowed-at dp k s low = let inside : nat_lt k dp.vars ≡ true = grind arith in sym (ap (λ b. cond b (all_allowed dp k s (below (dp.choices k))) []) inside)

-- Exact rows.

both-ways : (e s m r : Bool) → ((e || not s) && ((e || not m) && r)) ≡ ((e || not (s || m)) && r)
both-ways true s m r = refl
both-ways false true m r = refl
both-ways false false m r = refl

exact-by : (dp : Dp) (k : ℕ) (s : List ℤ) (exact : Bool) (rest : List Trial) (row : List ℤ) (ds : List ℕ)
    → all_exact dp k (map (trial s exact) ds ++ rest) row ≡ ((exact || not (makes dp k s ds row)) && all_exact dp k rest row)
exact-by dp k s exact rest row [] = elim exact as (λ b. all_exact dp k rest row ≡ ((b || true) && all_exact dp k rest row)) [ true ↦ refl | false ↦ refl ]
exact-by dp k s exact rest row (d ∷ ds) =
    ap (λ b. (exact || not (row_same (dp.step k s d) row)) && b) (exact-by dp k s exact rest row ds)
    ∙ both-ways exact (row_same (dp.step k s d) row) (makes dp k s ds row) (all_exact dp k rest row)

pub trials-exact : (dp : Dp) (k : ℕ) (held : ℕ → List ℤ) (arcs : List DdArc) (paths : ℕ → List ℕ) (i : ℕ) (nodes : List Node) (row : List ℤ) → k < dp.vars
    → all_exact dp k (trials_of dp k held nodes) row ≡ is_exact_row dp k (shown_from paths i (map (node_view_by held arcs) nodes)) row
trials-exact dp k held arcs paths i [] row low = refl
trials-exact dp k held arcs paths i (node ∷ nodes) row low =
    let s = held node.row in
    exact-by dp k s node.exact (trials_of dp k held nodes) row (all_allowed dp k s (below (dp.choices k)))
    ∙ ap₂ (λ ds b. (node.exact || not (makes dp k s ds row)) && b) (allowed-at dp k s low) (trials-exact dp k held arcs paths (i + 1) nodes row low)

-- The nodes as members.

pub members-shown : (region : RegionView) (arcs : List DdArc) (paths : ℕ → List ℕ) (i : ℕ) (nodes : List Node)
    → members_as paths region (members_from i nodes) ≡ map prefix_at (shown_from paths i (map (node_view_by (held_row region) arcs) nodes))
members-shown region arcs paths i [] = refl
members-shown region arcs paths i (node ∷ nodes) = ap (λ l. member_as paths region (member_of node i) ∷ l) (members-shown region arcs paths (i + 1) nodes)

-- The place of a row.

pub row-found : (next : List DdNode) (j : ℕ) (row : List ℤ) → slice_get (map (λ (n : DdNode). n.row) next) j ≡ Some row → (node : DdNode) × (slice_get next j ≡ Some node) × (node.row ≡ row)
row-found [] j row h = absurd (let none : None ≡ Some row = h in cc)
row-found (n ∷ next) zero row h = (n, refl, same-Some n.row row h)
row-found (n ∷ next) (suc j) row h = row-found next j row h

pub place-of : (next : List DdNode) (j : ℕ) (row : List ℤ) → RowsApart next → slice_get (map (λ (n : DdNode). n.row) next) j ≡ Some row
    → position (λ (n : DdNode). row_same n.row row) next ≡ Some j
place-of next j row apart h =
    let at_j = row-found next j row h in
    let found = found-row next row (one-of-has (λ (n : DdNode). n.row ≡ row) next at_j.0 at_j.2 (Has-at next j at_j.0 at_j.1)) in
    found.found ∙ ap Some (one-place next found.place j found.node at_j.0 apart found.at at_j.1 (found.same ∙ sym at_j.2))

-- Arcs that are led to the numbers of their targets.

abbrev arc_with : DdArc → Option ℕ → DdArc
arc_with arc target = record arc { target = target }

module _ (dp : Dp) (k : ℕ) (row : ℕ → List ℤ) (count : ℕ) (next : List DdNode) (keys : List Key) (routes : List Route) (apart : RowsApart next)
    (rows-are : map (λ (n : DdNode). n.row) next ≡ map (λ (key : Key). row key.place) keys) (numbered : (p : ℕ) → p < count → IsNumbered (length keys) keys routes p) where
  arc-led : (s : List ℤ) (exact : Bool) (d : ℕ) (arc : DdArc) → LeadsToRow dp k row count (trial s exact d) arc → led routes arc ≡ arc_of dp k next s d
  arc-led s exact d arc h =
      let t = trial s exact d in
      let n = numbered h.place h.within in
      let there : slice_get (map (λ (n : DdNode). n.row) next) n.number ≡ Some (dp.step k s d) =
      ap (λ l. slice_get l n.number) rows-are ∙ (slice_get-map (λ (key : Key). row key.place) keys n.number
      ∙ (ap (λ o. option_and_then (λ (key : Key). Some (row key.place)) o) (slice_get-get_or keys n.number (key_in [] 0) n.within)
      ∙ ap Some (ap row n.same ∙ h.made))) in
      ap (led routes) h.is ∙ (ap (arc_with (arc_to dp k t h.place)) n.is ∙ ap (arc_with (arc_to dp k t h.place)) (sym (place-of next n.number (dp.step k s d) apart there)))

-- Arcs that are changed to those that a rule names.

module _ (dp : Dp) (k : ℕ) (row : ℕ → List ℤ) (count : ℕ) (change : DdArc → DdArc) (named : List ℤ → ℕ → DdArc)
    (leads : (s : List ℤ) (exact : Bool) (d : ℕ) (arc : DdArc) → LeadsToRow dp k row count (trial s exact d) arc → change arc ≡ named s d) where
  arcs-led : (s : List ℤ) (exact : Bool) (ds : List ℕ) (arcs : List DdArc) → AreArcsOf dp k row count (map (trial s exact) ds) arcs → map change arcs ≡ map (named s) ds
  arcs-led s exact [] [] h = refl
  arcs-led s exact [] (arc ∷ arcs) h = absurd h
  arcs-led s exact (d ∷ ds) [] h = absurd h
  arcs-led s exact (d ∷ ds) (arc ∷ arcs) h = ap₂ (λ a l. a ∷ l) (leads s exact d arc h.0) (arcs-led s exact ds arcs h.1)

  arcs-first : (ts us : List Trial) (arcs : List DdArc) → AreArcsOf dp k row count (ts ++ us) arcs → AreArcsOf dp k row count ts (take (length ts) arcs)
  arcs-first [] us arcs h = tt
  arcs-first (t ∷ ts) us [] h = absurd h
  arcs-first (t ∷ ts) us (arc ∷ arcs) h = (h.0, arcs-first ts us arcs h.1)

  arcs-rest : (ts us : List Trial) (arcs : List DdArc) → AreArcsOf dp k row count (ts ++ us) arcs → AreArcsOf dp k row count us (drop (length ts) arcs)
  arcs-rest [] us arcs h = h
  arcs-rest (t ∷ ts) us [] h = absurd h
  arcs-rest (t ∷ ts) us (arc ∷ arcs) h = arcs-rest ts us arcs h.1

  module _ (held : ℕ → List ℤ) (old : List DdArc) (low : k < dp.vars) (paths : ℕ → List ℕ) where
    -- the layer at depth k with these arcs
    abbrev with_arcs_by : List DdNode → List DdNode
    with_arcs_by layer = map (λ (node : DdNode). record node { arcs = map (named node.row) (decisions_at dp k node.row) }) layer

    abbrev view : List DdArc → Node → NodeView
    view arcs node = node_view_by held arcs node

    pub above-from : (i : ℕ) (nodes : List Node) (first : ℕ) (before arcs : List DdArc) → length before ≡ first → AreArcsOf dp k row count (trials_of dp k held nodes) arcs
        → shown_from paths i (map (view (before ++ map change arcs)) (all_spanned dp k held first nodes)) ≡ with_arcs_by (shown_from paths i (map (view old) nodes))
    above-from i [] first before arcs size h = refl
    above-from i (node ∷ nodes) first before arcs size h =
        let s = held node.row in
        let ts = trials_at dp k held node in
        let n = length ts in
        let us = trials_of dp k held nodes in
        let all = before ++ map change arcs in
        let mine = take n arcs in
        let rest = drop n arcs in
        let these : take n (drop first all) ≡ map (named s) (decisions_at dp k s) =
        ap (λ j. take n (drop j all)) (sym size) ∙ (ap (take n) (drop-append_seam before (map change arcs))
        ∙ (take-map change n arcs ∙ (arcs-led s node.exact (all_allowed dp k s (below (dp.choices k))) mine (arcs-first ts us arcs h)
        ∙ ap (map (named s)) (allowed-at dp k s low)))) in
        let split : all ≡ (before ++ map change mine) ++ map change rest =
        ap (λ l. before ++ l) (ap (map change) (sym (take-append-drop n arcs)) ∙ map-append change mine rest)
        ∙ sym (append_assoc before (map change mine) (map change rest)) in
        let count = length-arcs dp k row count ts mine (arcs-first ts us arcs h) in
        let long = length-append before (map change mine) in
        let same = length-map mine change in
        ap₂ (λ a l. a ∷ l) (ap (λ x. record (shown (paths i) (view old node)) { arcs = x }) these)
        (ap (λ x. shown_from paths (i + 1) (map (view x) (all_spanned dp k held (first + n) nodes))) split
        ∙ above-from (i + 1) nodes (first + n) (before ++ map change mine) rest (omega arith) (arcs-rest ts us arcs h))

-- Nothing else of the nodes above changes.

pub rest-stays : (dp : Dp) (k : ℕ) (held : ℕ → List ℤ) (old new : List DdArc) (first : ℕ) (nodes : List Node)
    → map without_arcs (map (node_view_by held new) (all_spanned dp k held first nodes)) ≡ map without_arcs (map (node_view_by held old) nodes)
rest-stays dp k held old new first [] = refl
rest-stays dp k held old new first (node ∷ nodes) =
    ap (λ l. without_arcs (node_view_by held old node) ∷ l) (rest-stays dp k held old new (first + length (trials_at dp k held node)) nodes)

-- the places of their rows too
pub places-stay : (dp : Dp) (k : ℕ) (held : ℕ → List ℤ) (first : ℕ) (nodes : List Node) → rows_in (all_spanned dp k held first nodes) ≡ rows_in nodes
places-stay dp k held first [] = refl
places-stay dp k held first (node ∷ nodes) = ap (λ l. node.row ∷ l) (places-stay dp k held (first + length (trials_at dp k held node)) nodes)

-- What a layer in memory owes.

pub arcs-within : (dp : Dp) (k : ℕ) (held : ℕ → List ℤ) (first : ℕ) (new : List DdArc) (nodes : List Node) → first + length (trials_of dp k held nodes) ≤ length new
    → Each (HasArcsIn new) (all_spanned dp k held first nodes)
arcs-within dp k held first new [] fit = tt
arcs-within dp k held first new (node ∷ nodes) fit =
    let ts = trials_at dp k held node in
    let sum = length-append ts (trials_of dp k held nodes) in
    ((omega arith), arcs-within dp k held (first + length ts) new nodes (omega arith))

pub members-of : (dp : Dp) (k : ℕ) (region : RegionView) (i : ℕ) (row : ℕ → List ℤ) (arcs : List DdArc) (nodes : List Node) → AreHeld region (map (node_view_by row arcs) nodes)
    → Each (IsParent dp k) (map (node_view_by row arcs) nodes) → Each (IsMemberOf dp k region) (members_from i nodes)
members-of dp k region i row arcs [] held h = tt
members-of dp k region i row arcs (node ∷ nodes) held h =
    let same = sym (held-is region node.row (row node.row) held.0.found) in (
      record { held = record { live = (row node.row, held.0.found); state = subst (IsStateOf dp k) same h.0.state; rank = h.0.rank ∙ ap (dp.rank k) same; hash = h.0.hash ∙ ap (dp.hash k) same }; value = h.0.value },
      members-of dp k region (i + 1) row arcs nodes held.1 h.1,
    )

-- The nodes of keys.

pub rows-of : (dp : Dp) (k : ℕ) (row : ℕ → List ℤ) (ways : List Way) (layer : List DdNode) (paths : ℕ → List ℕ) (ks : List Key)
    → map (λ (n : DdNode). n.row) (map (node_for dp k layer) (all_of paths row ways ks)) ≡ map (λ (key : Key). row key.place) ks
rows-of dp k row ways layer paths [] = refl
rows-of dp k row ways layer paths (key ∷ ks) = ap (λ l. row key.place ∷ l) (rows-of dp k row ways layer paths ks)

-- the key's row is found that its way has
abbrev pub IsFoundBy : (ℕ → List ℤ) → (ℕ → List ℤ) → Key → Type 0
IsFoundBy held row key = held key.row ≡ row key.place

module _ (dp : Dp) (k : ℕ) (low : k < dp.vars) (region : RegionView) (old : List DdArc) (nodes : List Node) (row : ℕ → List ℤ) (ways : List Way)
    (marks : List Bool) (arcs : List DdArc) (tried : AreTried dp k row (length ways) (trials_of dp k (held_row region) nodes) marks arcs) (held : ℕ → List ℤ) where
  abbrev layer_in : (ℕ → List ℕ) → List DdNode
  layer_in paths = shown_layer paths (map (node_view_by (held_row region) old) nodes)

  abbrev from : (ℕ → List ℕ) → Key → List ℤ → ℤ → Bool → DdNode
  from paths key cells value exact = record {
    row = cells;
    value = value;
    exact = exact;
    arcs = [];
    path = paths (way_at ways key.place).parent ++ (way_at ways key.place).decision ∷ [];
    suffix = None;
  }

  node-is : (paths : ℕ → List ℕ) (key : Key) → IsKeyOf ways key → IsFoundBy held row key → from paths key (held key.row) key.value (mark_at marks key.place) ≡ node_for dp k (layer_in paths) (reached_of paths row ways key)
  node-is paths key h found =
      let value : key.value ≡ (way_at ways key.place).value = ap (λ (x : Key). x.value) h.is in
      ap (λ cells. from paths key cells key.value (mark_at marks key.place)) found
      ∙ ap₂ (from paths key (row key.place)) value (tried.marks_are key.place h.within ∙ trials-exact dp k (held_row region) old paths 0 nodes (row key.place) low)

  pub keys-shown : (paths : ℕ → List ℕ) (any : List DdArc) (ks : List Key) → Each (IsKeyOf ways) ks → Each (IsFoundBy held row) ks
      → shown_below paths (map (node_view_by held any) (map (node_of ways marks) ks)) ≡ map (node_for dp k (layer_in paths)) (all_of paths row ways ks)
  keys-shown paths any [] h found = refl
  keys-shown paths any (key ∷ ks) h found = ap₂ (λ a l. a ∷ l) (node-is paths key h.0 found.0) (keys-shown paths any ks h.1 found.1)

module _ (dp : Dp) (k : ℕ) (row : ℕ → List ℤ) (ways : List Way) (marks : List Bool) (held : ℕ → List ℤ) where
  pub keys-ranked : AreDistinct dp (k + 1) row ways → (any : List DdArc) (ks : List Key) → Each (IsKeyOf ways) ks → Each (IsFoundBy held row) ks → Each (IsRanked dp (k + 1)) (map (node_view_by held any) (map (node_of ways marks) ks))
  keys-ranked distinct any [] h found = tt
  keys-ranked distinct any (key ∷ ks) h found =
      let way = distinct.good key.place h.0.within in (
        record { state = subst (IsStateOf dp (k + 1)) (sym found.0) way.state; rank = ap (λ (x : Key). x.rank) h.0.is ∙ (way.rank ∙ ap (dp.rank (k + 1)) (sym found.0)); hash = way.hash ∙ ap (dp.hash (k + 1)) (sym found.0) },
        keys-ranked distinct any ks h.1 found.1,
      )

-- nodes of keys have parents
keys-unmerged : (ways : List Way) (marks : List Bool) (ks : List Key) → Each (λ (n : Node). IsSome n.parent) (map (node_of ways marks) ks)
keys-unmerged ways marks [] = tt
keys-unmerged ways marks (key ∷ ks) = (refl, keys-unmerged ways marks ks)

pub nodes-unmerged : (ways : List Way) (marks : List Bool) (ks : List Key) (nodes : List Node) → nodes ≡ map (node_of ways marks) ks → Each (λ (n : Node). IsSome n.parent) nodes
nodes-unmerged ways marks ks nodes is = subst (Each (λ (n : Node). IsSome n.parent)) (sym is) (keys-unmerged ways marks ks)

-- nodes of keys have no arcs
pub keys-bare : (ways : List Way) (marks : List Bool) (any : List DdArc) (ks : List Key) → Each (HasArcsIn any) (map (node_of ways marks) ks)
keys-bare ways marks any [] = tt
keys-bare ways marks any (key ∷ ks) = ((omega arith), keys-bare ways marks any ks)

-- The whole.

module _ (dp : Dp) (k : ℕ) (low : k < dp.vars) (region : RegionView) (old : List DdArc) (nodes : List Node) (new : RegionView) (ways : List Way)
    (marks : List Bool) (arcs : List StoredArc) (routes : List Route) (nodes2 below : List Node)
    (distinct : AreDistinct dp (k + 1) (way_row new ways) ways)
    (list : (paths : ℕ → List ℕ) → all_reached paths (way_row new ways) ways ≡ all_joined [] (candidates dp k (members_as paths region (members_from 0 nodes))))
    (tried : AreTried dp k (way_row new ways) (length ways) (trials_of dp k (held_row region) nodes) marks (to_ways arcs))
    (spans : nodes2 ≡ all_spanned dp k (held_row region) 0 nodes)
    (arranged : AreArranged (held_row new) ways marks routes below) where
  abbrev led_arcs : List DdArc
  led_arcs = routed_arcs routes arcs

  abbrev keys : List Key
  keys = arranged.keys

  abbrev row : ℕ → List ℤ
  row = way_row new ways

  abbrev layer_of : (ℕ → List ℕ) → List DdNode
  layer_of paths = shown_layer paths (map (node_view_by (held_row region) old) nodes)

  layer-keys : Each (IsKeyOf ways) keys
  layer-keys = keys-are dp (k + 1) new ways keys distinct.apart distinct.good arranged.all arranged.sorted

  layer-found : Each (IsFoundBy (held_row new) row) keys
  layer-found = Each-then (IsKeyOf ways) (IsFoundBy (held_row new) row) keys (λ key h. sym (key-row new ways key h)) layer-keys

  order-is : (paths : ℕ → List ℕ) → all_of paths row ways keys ≡ expanded dp k (map prefix_at (layer_of paths))
  order-is paths =
      in-order dp (k + 1) new ways keys distinct.apart distinct.good arranged.all arranged.sorted paths
      ∙ ap (in_order dp (k + 1)) (list paths ∙ ap (λ l. all_joined [] (candidates dp k l)) (members-shown region old paths 0 nodes))

  pub next-shown : (paths : ℕ → List ℕ) (any : List DdArc) → shown_below paths (map (node_view_by (held_row new) any) below) ≡ new_layer dp k (layer_of paths)
  next-shown paths any =
      ap (λ l. shown_below paths (map (node_view_by (held_row new) any) l)) arranged.nodes_are
      ∙ (keys-shown dp k low region old nodes row ways marks (to_ways arcs) tried (held_row new) paths any keys layer-keys layer-found ∙ ap (map (node_for dp k (layer_of paths))) (order-is paths))

  next-rows : (paths : ℕ → List ℕ) → map (λ (n : DdNode). n.row) (new_layer dp k (layer_of paths)) ≡ map (λ (key : Key). row key.place) keys
  next-rows paths = ap (λ l. map (λ (n : DdNode). n.row) (map (node_for dp k (layer_of paths)) l)) (sym (order-is paths)) ∙ rows-of dp k row ways (layer_of paths) paths keys

  all-numbered : (p : ℕ) → p < length ways → IsNumbered (length keys) keys routes p
  all-numbered p less =
      each-has (λ (key : Key). IsNumbered (length keys) keys routes key.place) keys (key_at ways p)
      (each-at (λ (key : Key). IsNumbered (length keys) keys routes key.place) keys
      (λ j d in_keys. subst (λ (key : Key). IsNumbered (length keys) keys routes key.place) (get_or-any keys j _ d in_keys) (arranged.numbered j in_keys)))
      (Has-permutation (keys_of ways) keys arranged.all (key_at ways p) (has-table (key_at ways) (length ways) p less))

  pub above-shown : (paths : ℕ → List ℕ) → shown_layer paths (map (node_view_by (held_row region) led_arcs) nodes2) ≡ with_arcs dp k (new_layer dp k (layer_of paths)) (layer_of paths)
  above-shown paths =
      ap₂ (λ l m. shown_layer paths (map (node_view_by (held_row region) l) m)) (routed-led routes arcs arranged.plain) spans
      ∙ above-from dp k row (length ways) (led routes) (arc_of dp k (new_layer dp k (layer_of paths)))
      (arc-led dp k row (length ways) (new_layer dp k (layer_of paths)) keys routes (new-apart dp k (layer_of paths)) (next-rows paths) all-numbered)
      (held_row region) old low paths 0 nodes 0 [] (to_ways arcs) refl tried.arcs_are

  pub above-rest : map without_arcs (map (node_view_by (held_row region) led_arcs) nodes2) ≡ map without_arcs (map (node_view_by (held_row region) old) nodes)
  above-rest = ap (λ m. map without_arcs (map (node_view_by (held_row region) led_arcs) m)) spans ∙ rest-stays dp k (held_row region) old led_arcs 0 nodes

  pub length-led : length led_arcs ≡ length arcs
  length-led = length-map arcs (routed routes)

  pub above-arcs : Each (HasArcsIn led_arcs) nodes2
  above-arcs =
      let size = length-arcs dp k row (length ways) (trials_of dp k (held_row region) nodes) (to_ways arcs) tried.arcs_are in
      let long = length-map arcs to_way in
      let same = length-led in
      subst (Each (HasArcsIn led_arcs)) (sym spans) (arcs-within dp k (held_row region) 0 led_arcs nodes (omega arith))

  pub above-length : length nodes2 ≡ length nodes
  above-length = ap length spans ∙ length-spanned dp k (held_row region) 0 nodes

  pub next-ranked : (any : List DdArc) → Each (IsRanked dp (k + 1)) (map (node_view_by (held_row new) any) below)
  next-ranked any = subst (λ l. Each (IsRanked dp (k + 1)) (map (node_view_by (held_row new) any) l)) (sym arranged.nodes_are) (keys-ranked dp k row ways marks (held_row new) distinct any keys layer-keys layer-found)

  pub next-length : length below ≡ length ways
  next-length = ap length arranged.nodes_are ∙ (length-map keys (node_of ways marks) ∙ length-keys ways keys arranged.all)

  pub next-bare : (any : List DdArc) → Each (HasArcsIn any) below
  next-bare any = subst (Each (HasArcsIn any)) (sym arranged.nodes_are) (keys-bare ways marks any keys)

-- the extended layer is put in order
pub whole : (dp : Dp) (k : ℕ) → k < dp.vars → (region : RegionView) (nodes : List Node) (new : RegionView) (ways : List Way)
    (marks : List Bool) (arcs : List StoredArc) (routes : List Route) (nodes2 below : List Node) → AreDistinct dp (k + 1) (way_row new ways) ways
    → ((paths : ℕ → List ℕ) → all_reached paths (way_row new ways) ways ≡ all_joined [] (candidates dp k (members_as paths region (members_from 0 nodes))))
    → AreTried dp k (way_row new ways) (length ways) (trials_of dp k (held_row region) nodes) marks (to_ways arcs) → nodes2 ≡ all_spanned dp k (held_row region) 0 nodes → length ways ≤ length nodes * dp.choices k
    → length arcs ≤ length nodes * dp.choices k → AreArranged (held_row new) ways marks routes below → IsExpanded (expand dp k) dp k (held_row region) nodes nodes2 (routed_arcs routes arcs) (held_row new) below
whole dp k low region nodes new ways marks arcs routes nodes2 below distinct list tried spans few few_arcs arranged = record {
  above_is = λ before paths. above-shown dp k low region before nodes new ways marks arcs routes nodes2 below distinct list tried spans arranged paths;
  next_is = λ before any paths. next-shown dp k low region before nodes new ways marks arcs routes nodes2 below distinct list tried spans arranged paths any;
  places = ap rows_in spans ∙ places-stay dp k (held_row region) 0 nodes;
  rest = λ before. above-rest dp k low region before nodes new ways marks arcs routes nodes2 below distinct list tried spans arranged;
  ranked = λ any. next-ranked dp k low region any nodes new ways marks arcs routes nodes2 below distinct list tried spans arranged any;
  arcs_lie = above-arcs dp k low region (to_ways arcs) nodes new ways marks arcs routes nodes2 below distinct list tried spans arranged;
  bare = λ any. next-bare dp k low region any nodes new ways marks arcs routes nodes2 below distinct list tried spans arranged any;
  same = above-length dp k low region (to_ways arcs) nodes new ways marks arcs routes nodes2 below distinct list tried spans arranged;
  few = (let size = next-length dp k low region (to_ways arcs) nodes new ways marks arcs routes nodes2 below distinct list tried spans arranged in omega arith);
  few_arcs = (let size = length-led dp k low region (to_ways arcs) nodes new ways marks arcs routes nodes2 below distinct list tried spans arranged in omega arith);
}

-- the same by equal parts
pub arranged-by : (held : ℕ → List ℤ) (ways ways2 : List Way) (marks marks2 : List Bool) (routes : List Route) (nodes : List Node)
    → AreArranged held ways marks routes nodes → ways ≡ ways2 → marks ≡ marks2 → AreArranged held ways2 marks2 routes nodes
arranged-by held ways ways2 marks marks2 routes nodes h c d =
    subst (λ x. AreArranged held x marks2 routes nodes) c (subst (λ x. AreArranged held ways x routes nodes) d h)
