-- A layer that was expanded in memory without its struck nodes is that of the rules, whatever the paths are.
use Rattle.std.proofs.Common.{◌≡◌, ◌≢◌, ℕ, zero, suc, ◌+◌, ◌*◌, ◌<◌, ◌≤◌, ℤ, pos, ◌+ℤ◌, Bool, true, false, not, cond, List, [], ◌∷◌, length, map, slice_get, Option, Some, None, IsPermutation, option_and_then, inl, inr, refl, sym, ◌∙◌, ap, ap₂, subst, arith}
use Rattle.std.proofs.lemmas.Int.{ints}
use Rattle.std.proofs.lemmas.List.{length-map}
use Rattle.std.proofs.lemmas.List.Sorted.{IsPermutation-map}
use Rattle.std.proofs.lemmas.Option.{slice_get-map, slice_get-get_or}
use Rattle.dp_model.specs.Dp.{Dp}
use Rattle.dp_model.specs.Gaps.{is_struck_by}
use Rattle.dp_model.specs.Lists.{Each}
use Rattle.dp_model.specs.Reached.{Reached}
use Rattle.dp_model.proofs.Members.{Has, each-has, each-of-all, Has-map, Has-filter, Has-filter-from, Each-then}
use Rattle.dp_laws.specs.declared.arc.DdArc.{DdArc}
use Rattle.dp_laws.specs.Diagrams.Nodes.{DdNode, prefix_at}
use Rattle.dp_laws.specs.Diagrams.Seen.{decisions_at}
use Rattle.dp_laws.specs.Restricted.Beam.{expanded}
use Rattle.dp_laws.specs.Restricted.Extensions.{candidates, all_joined}
use Rattle.dp_laws.specs.Restricted.Leaders.{unstruck}
use Rattle.dp_laws.specs.Restricted.ReductionOrder.{in_order}
use Rattle.dp_laws.specs.Rules.Expanding.{node_for, new_layer, arc_of, with_arcs}
use Rattle.dp_laws.specs.Rules.Pruning.{is_struck}
use Rattle.dp_laws.specs.Rules.Redirects.{Redirect, redirected_by, redirected, with_redirected}
use Rattle.dp_laws.proofs.Diagrams.Places.{same-Some}
use Rattle.dp_laws.proofs.Lists.{two-filter}
use Rattle.dp_laws.proofs.Restricted.Joining.{one-in_order}
use Rattle.dp_laws.proofs.Restricted.Permutations.{each-at, each-permutation, Has-permutation}
use Rattle.dp_laws.proofs.Rules.Expanded.{RowsApart, one-place, new-apart}
use Rattle.layer_candidates.specs.declared.key.Key.{Key}
use Rattle.layer_candidates.specs.declared.way.Way.{Way}
use Rattle.layer_candidates.specs.KeyOrder.{key_at, keys_of, key_rows, all_of, IsKeyOf}
use Rattle.layer_candidates.specs.Members.{members_as}
use Rattle.layer_candidates.specs.Pruning.{struck, unstruck_keys}
use Rattle.layer_candidates.specs.HeldRows.{held_row, AreLive, AreSame, HasLeft}
use Rattle.layer_candidates.specs.Ways.{rows_of, way_row, reached_at, all_reached, AreDistinct}
use Rattle.layer_candidates.proofs.HeldRows.{left-moved}
use Rattle.layer_candidates.proofs.Layered.{has-table, rows-same}
use Rattle.layer_candidates.proofs.Sorted.{key-places-of, sorted-same, unstruck-are, unstruck-in-order, unstruck-length}
use Rattle.layer_nodes.specs.declared.node.Node.{Node}
use Rattle.layer_nodes.specs.declared.routing.Route.{Route}
use Rattle.layer_nodes.specs.declared.routing.StoredArc.{StoredArc}
use Rattle.layer_nodes.specs.Nodes.{shown_layer, shown_below, without_arcs}
use Rattle.row_region.specs.Region.{RegionView, IsLive}
use Rattle.layer_nodes.specs.Routing.{routed, routed_arcs, to_way, to_ways}
use Rattle.layer_nodes.specs.Stored.{node_view_by, rows_in, HasArcsIn}
use Rattle.layer_nodes.specs.Steps.{IsRanked}
use Rattle.layer_nodes.specs.Expanding.{trial, trials_of, all_spanned, arc_to, LeadsToRow, AreTried, key_in, number_at, IsNumbered, node_of, members_from, IsExpanded}
use Rattle.layer_nodes.specs.Sifting.{sifted_nodes, sift_redirects, expand_sifted, AreOrdered, AreSifted}
use Rattle.layer_nodes.proofs.KeyRows.{rows-of-nodes, found-by}
use Rattle.layer_nodes.proofs.Routed.{led, routed-led}
use Rattle.layer_nodes.proofs.Spans.{length-spanned}
use Rattle.layer_nodes.proofs.Shown.{map-map}
use Rattle.layer_nodes.proofs.Tried.{length-arcs}
use Rattle.layer_nodes.proofs.Stored.{get_or-any}
use Rattle.layer_nodes.proofs.Expanded.{members-shown, place-of, row-found, above-from, keys-shown, rows-of, rest-stays, places-stay, arcs-within, IsFoundBy, keys-ranked, keys-bare}

-- What is left of nodes.

module _ (dp : Dp) (k : ℕ) (t : Option ℤ) where
  abbrev here : ℕ → Redirect
  here place = record { place = place; longer = pos 0 }

  either : (n : ℕ) (nodes : List DdNode) (j : ℕ) (b : Bool) → slice_get (sift_redirects dp k t n nodes) j ≡ Some None → slice_get (sift_redirects dp k t (n + 1) nodes) j ≡ Some None
      → slice_get (cond b (None ∷ sift_redirects dp k t n nodes) (Some (here n) ∷ sift_redirects dp k t (n + 1) nodes)) (suc j) ≡ Some None
  either n nodes j true a b = a
  either n nodes j false a b = b

  -- the redirect of a struck node
  pub struck-at : (n : ℕ) (nodes : List DdNode) (j : ℕ) (y : DdNode) → slice_get nodes j ≡ Some y → is_struck dp k t y ≡ true → slice_get (sift_redirects dp k t n nodes) j ≡ Some None
  struck-at n [] j y at e = absurd (let none : None ≡ Some y = at in cc)
  struck-at n (x ∷ nodes) zero y at e =
      let here-struck : is_struck dp k t x ≡ true = ap (is_struck dp k t) (same-Some x y at) ∙ e in
      ap (λ b. slice_get (cond b (None ∷ sift_redirects dp k t n nodes) (Some (here n) ∷ sift_redirects dp k t (n + 1) nodes)) 0) here-struck
  struck-at n (x ∷ nodes) (suc j) y at e = either n nodes j (is_struck dp k t x) (struck-at n nodes j y at e) (struck-at (n + 1) nodes j y at e)

  -- the redirect of a node that stays, from the place n on
  pub record Stays (n : ℕ) (kept : List DdNode) (redirects : List (Option Redirect)) (j : ℕ) (y : DdNode) : Type 0 where
    pub place : ℕ
    pub goes : slice_get redirects j ≡ Some (Some (here (n + place)))
    pub at : slice_get kept place ≡ Some y

  stays-later : (n : ℕ) (x : DdNode) (kept : List DdNode) (o : Option Redirect) (redirects : List (Option Redirect)) (j : ℕ) (y : DdNode) → Stays (n + 1) kept redirects j y → Stays n (x ∷ kept) (o ∷ redirects) (suc j) y
  stays-later n x kept o redirects j y s = record { place = suc s.place; goes = s.goes ∙ ap (λ m. Some (Some (here m))) (omega arith); at = s.at }

  either-stays : (n : ℕ) (x : DdNode) (nodes : List DdNode) (j : ℕ) (y : DdNode) (b : Bool) → Stays n (sifted_nodes dp k t nodes) (sift_redirects dp k t n nodes) j y → Stays (n + 1) (sifted_nodes dp k t nodes) (sift_redirects dp k t (n + 1) nodes) j y
      → Stays n (cond (not b) (x ∷ sifted_nodes dp k t nodes) (sifted_nodes dp k t nodes)) (cond b (None ∷ sift_redirects dp k t n nodes) (Some (here n) ∷ sift_redirects dp k t (n + 1) nodes)) (suc j) y
  either-stays n x nodes j y true s m = record { place = s.place; goes = s.goes; at = s.at }
  either-stays n x nodes j y false s m = stays-later n x (sifted_nodes dp k t nodes) (Some (here n)) (sift_redirects dp k t (n + 1) nodes) j y m

  pub stays-at : (n : ℕ) (nodes : List DdNode) (j : ℕ) (y : DdNode) → slice_get nodes j ≡ Some y → is_struck dp k t y ≡ false → Stays n (sifted_nodes dp k t nodes) (sift_redirects dp k t n nodes) j y
  stays-at n [] j y at e = absurd (let none : None ≡ Some y = at in cc)
  stays-at n (x ∷ nodes) zero y at e =
      let free : is_struck dp k t x ≡ false = ap (is_struck dp k t) (same-Some x y at) ∙ e in
      let kept = sifted_nodes dp k t nodes in
      subst (λ b. Stays n (cond (not b) (x ∷ kept) kept) (cond b (None ∷ sift_redirects dp k t n nodes) (Some (here n) ∷ sift_redirects dp k t (n + 1) nodes)) 0 y) (sym free)
      (record { place = 0; goes = ap (λ m. Some (Some (here m))) (omega arith); at = at })
  stays-at n (x ∷ nodes) (suc j) y at e = either-stays n x nodes j y (is_struck dp k t x) (stays-at n nodes j y at e) (stays-at (n + 1) nodes j y at e)

has-place : {X : Type 0} (xs : List X) (x : X) → Has x xs → (j : ℕ) × (slice_get xs j ≡ Some x)
has-place [] x h = absurd h
has-place (y ∷ xs) x (inl e) = (0, ap Some e)
has-place (y ∷ xs) x (inr h) = (let p = has-place xs x h in (suc p.0, p.1))

-- nodes of prefixes that are left are what is left of the nodes
nodes-left : (dp : Dp) (k : ℕ) (t : Option ℤ) (above : List DdNode) (rs : List Reached) → map (node_for dp k above) (unstruck dp (k + 1) t rs) ≡ sifted_nodes dp (k + 1) t (map (node_for dp k above) rs)
nodes-left dp k t above [] = refl
nodes-left dp k t above (r ∷ rs) = pushed (is_struck_by r.value (dp.rough (k + 1) r.row) t) ∙ ap (λ l. cond (not (is_struck dp (k + 1) t (node_for dp k above r))) (node_for dp k above r ∷ l) l) (nodes-left dp k t above rs)
  where
    pushed : (b : Bool) → map (node_for dp k above) (cond (not b) (r ∷ unstruck dp (k + 1) t rs) (unstruck dp (k + 1) t rs))
        ≡ cond (not b) (node_for dp k above r ∷ map (node_for dp k above) (unstruck dp (k + 1) t rs)) (map (node_for dp k above) (unstruck dp (k + 1) t rs))
    pushed true = refl
    pushed false = refl

abbrev arc_with : DdArc → Option ℕ → DdArc
arc_with arc target = record arc { target = target }

two-changes : (dp : Dp) (k : ℕ) (next : List DdNode) (redirects : List (Option Redirect)) (layer : List DdNode)
    → map (λ (node : DdNode). record node { arcs = map (λ d. redirected redirects (arc_of dp k next node.row d)) (decisions_at dp k node.row) }) layer ≡ with_redirected redirects (with_arcs dp k next layer)
two-changes dp k next redirects [] = refl
two-changes dp k next redirects (node ∷ layer) =
    ap₂ (λ as_ l. record node { arcs = as_ } ∷ l) (sym (map-map (redirected redirects) (arc_of dp k next node.row) (decisions_at dp k node.row))) (two-changes dp k next redirects layer)

-- The whole.

module _ (dp : Dp) (k : ℕ) (t : Option ℤ) (low : k < dp.vars) (region : RegionView) (old : List DdArc) (nodes : List Node) (mid : RegionView) (ways : List Way)
    (marks : List Bool) (arcs : List StoredArc) (routes : List Route) (nodes2 below : List Node)
    (distinct : AreDistinct dp (k + 1) (way_row mid ways) ways)
    (list : (paths : ℕ → List ℕ) → all_reached paths (way_row mid ways) ways ≡ all_joined [] (candidates dp k (members_as paths region (members_from 0 nodes))))
    (tried : AreTried dp k (way_row mid ways) (length ways) (trials_of dp k (held_row region) nodes) marks (to_ways arcs))
    (spans : nodes2 ≡ all_spanned dp k (held_row region) 0 nodes)
    (arranged : AreSifted dp (k + 1) t mid ways marks routes below) (held : ℕ → List ℤ) (found : Each (IsFoundBy held (way_row mid ways)) arranged.keys) where
  abbrev led_arcs : List DdArc
  led_arcs = routed_arcs routes arcs

  abbrev keys : List Key
  keys = arranged.keys

  abbrev row : ℕ → List ℤ
  row = way_row mid ways

  abbrev layer_of : (ℕ → List ℕ) → List DdNode
  layer_of paths = shown_layer paths (map (node_view_by (held_row region) old) nodes)

  abbrev next_of : (ℕ → List ℕ) → List DdNode
  next_of paths = new_layer dp k (layer_of paths)

  layer-keys : Each (IsKeyOf ways) keys
  layer-keys = unstruck-are dp (k + 1) t mid ways keys arranged.all

  all-is : (paths : ℕ → List ℕ) → in_order dp (k + 1) (all_reached paths row ways) ≡ expanded dp k (map prefix_at (layer_of paths))
  all-is paths = ap (in_order dp (k + 1)) (list paths ∙ ap (λ l. all_joined [] (candidates dp k l)) (members-shown region old paths 0 nodes))

  order-is : (paths : ℕ → List ℕ) → all_of paths row ways keys ≡ unstruck dp (k + 1) t (expanded dp k (map prefix_at (layer_of paths)))
  order-is paths = unstruck-in-order dp (k + 1) t mid ways keys arranged.all distinct.apart distinct.good arranged.sorted paths ∙ ap (unstruck dp (k + 1) t) (all-is paths)

  kept-is : (paths : ℕ → List ℕ) → map (node_for dp k (layer_of paths)) (all_of paths row ways keys) ≡ sifted_nodes dp (k + 1) t (next_of paths)
  kept-is paths = ap (map (node_for dp k (layer_of paths))) (order-is paths) ∙ nodes-left dp k t (layer_of paths) (expanded dp k (map prefix_at (layer_of paths)))

  pub next-shown : (paths : ℕ → List ℕ) (any : List DdArc) → shown_below paths (map (node_view_by held any) below) ≡ sifted_nodes dp (k + 1) t (next_of paths)
  next-shown paths any =
      ap (λ l. shown_below paths (map (node_view_by held any) l)) arranged.nodes_are
      ∙ (keys-shown dp k low region old nodes row ways marks (to_ways arcs) tried held paths any keys layer-keys found ∙ kept-is paths)

  module _ (paths : ℕ → List ℕ) (p : ℕ) (less : p < length ways) where
    abbrev node : DdNode
    node = node_for dp k (layer_of paths) (reached_at paths row ways p)

    has-node : Has node (next_of paths)
    has-node =
        let r = reached_at paths row ways p in
        Has-map (node_for dp k (layer_of paths)) (expanded dp k (map prefix_at (layer_of paths))) r
        (subst (Has r) (all-is paths) (one-in_order (λ y. y ≡ r) dp (k + 1) (all_reached paths row ways) (has-table (reached_at paths row ways) (length ways) p less)))

    -- a struck way has no number
    none-struck : is_struck dp (k + 1) t node ≡ true → Each (λ (key : Key). key.place ≢ p) keys
    none-struck e = each-permutation (unstruck_keys dp (k + 1) t mid ways) keys arranged.all (λ (key : Key). key.place ≢ p)
        (each-of-all (λ (key : Key). key.place ≢ p) (unstruck_keys dp (k + 1) t mid ways) (λ key has same. (
        let from = Has-filter-from (λ (x : Key). not (struck dp (k + 1) t mid x)) (keys_of ways) key has in
        let mine = each-has (IsKeyOf ways) keys key layer-keys (Has-permutation (unstruck_keys dp (k + 1) t mid ways) keys arranged.all key has) in
        let is : key ≡ key_at ways p = mine.is ∙ ap (key_at ways) same in
        let out : struck dp (k + 1) t mid key ≡ true = ap (struck dp (k + 1) t mid) is ∙ e in
        let free : not (struck dp (k + 1) t mid key) ≡ true = from.1 in
        let no : not true ≡ true = sym (ap not out) ∙ free in
        cc)))

    -- another one has
    number-of : is_struck dp (k + 1) t node ≡ false → IsNumbered (length keys) keys routes p
    number-of e =
        let key = key_at ways p in
        let free : not (struck dp (k + 1) t mid key) ≡ true = ap not e in
        each-has (λ (x : Key). IsNumbered (length keys) keys routes x.place) keys key
        (each-at (λ (x : Key). IsNumbered (length keys) keys routes x.place) keys
        (λ j d in_keys. subst (λ (x : Key). IsNumbered (length keys) keys routes x.place) (get_or-any keys j _ d in_keys) (arranged.numbered j in_keys)))
        (Has-permutation (unstruck_keys dp (k + 1) t mid ways) keys arranged.all key
        (Has-filter (λ (x : Key). not (struck dp (k + 1) t mid x)) (keys_of ways) key (has-table (key_at ways) (length ways) p less) free))

    place-at : (kept : List DdNode) → kept ≡ map (node_for dp k (layer_of paths)) (all_of paths row ways keys) → (h : IsNumbered (length keys) keys routes p)
        → slice_get (map (λ (n : DdNode). n.row) kept) h.number ≡ Some (row p)
    place-at kept is h =
        ap (λ l. slice_get (map (λ (n : DdNode). n.row) l) h.number) is ∙ (ap (λ l. slice_get l h.number) (rows-of dp k row ways (layer_of paths) paths keys)
        ∙ (slice_get-map (λ (key : Key). row key.place) keys h.number
        ∙ (ap (λ o. option_and_then (λ (key : Key). Some (row key.place)) o) (slice_get-get_or keys h.number (key_in [] 0) h.within)
        ∙ ap (λ q. Some (row q)) h.same)))

    abbrev redirects : List (Option Redirect)
    redirects = sift_redirects dp (k + 1) t 0 (next_of paths)

    abbrev goes_at : DdArc → ℕ → DdArc
    goes_at arc j = redirected_by (arc_with arc (Some j)) (option_and_then (λ l. l) (slice_get redirects j))

    target-goes : (arc : DdArc) (j : ℕ) → arc.longer ≡ pos 0 → slice_get (next_of paths) j ≡ Some node → (b : Bool) → is_struck dp (k + 1) t node ≡ b
        → arc_with arc (number_at routes p) ≡ goes_at arc j
    target-goes arc j short at true e =
        let gone = struck-at dp (k + 1) t 0 (next_of paths) j node at e in
        ap (arc_with arc) (arranged.unnumbered p (none-struck e))
        ∙ ap (λ o. redirected_by (arc_with arc (Some j)) (option_and_then (λ l. l) o)) (sym gone)
    target-goes arc j short at false e =
        let s = stays-at dp (k + 1) t 0 (next_of paths) j node at e in
        let h = number-of e in
        let kept = sifted_nodes dp (k + 1) t (next_of paths) in
        let there = row-found kept h.number (row p) (place-at kept (sym (kept-is paths)) h) in
        let apart : RowsApart kept = two-filter (λ (a b : DdNode). a.row ≢ b.row) (λ n. not (is_struck dp (k + 1) t n)) (next_of paths) (new-apart dp k (layer_of paths)) in
        let same : h.number ≡ s.place = one-place kept h.number s.place there.0 node apart there.1 s.at there.2 in
        let sum : arc.longer ≡ (arc.longer +ℤ pos 0) = (let z = short in omega (arith, ints)) in
        let first : s.place ≡ 0 + s.place = omega arith in
        ap (arc_with arc) (h.is ∙ ap Some same)
        ∙ (ap (λ l. record arc { target = Some s.place; longer = l }) sum
        ∙ (ap (λ m. record arc { target = Some m; longer = arc.longer +ℤ pos 0 }) first
        ∙ ap (λ o. redirected_by (arc_with arc (Some j)) (option_and_then (λ l. l) o)) (sym s.goes)))

  arc-goes : (paths : ℕ → List ℕ) (s : List ℤ) (exact : Bool) (d : ℕ) (arc : DdArc) → LeadsToRow dp k row (length ways) (trial s exact d) arc
      → led routes arc ≡ redirected (sift_redirects dp (k + 1) t 0 (next_of paths)) (arc_of dp k (next_of paths) s d)
  arc-goes paths s exact d arc h =
      let to = arc_to dp k (trial s exact d) h.place in
      let y = node_for dp k (layer_of paths) (reached_at paths row ways h.place) in
      let j = has-place (next_of paths) y (has-node paths h.place h.within) in
      let there : slice_get (map (λ (n : DdNode). n.row) (next_of paths)) j.0 ≡ Some (dp.step k s d) =
      slice_get-map (λ (n : DdNode). n.row) (next_of paths) j.0 ∙ (ap (λ o. option_and_then (λ (n : DdNode). Some n.row) o) j.1 ∙ ap Some h.made) in
      let found = place-of (next_of paths) j.0 (dp.step k s d) (new-apart dp k (layer_of paths)) there in
      ap (led routes) h.is
      ∙ (target-goes paths h.place h.within to j.0 refl j.1 (is_struck dp (k + 1) t y) refl
      ∙ ap (λ o. redirected (sift_redirects dp (k + 1) t 0 (next_of paths)) (arc_with to o)) (sym found))

  pub above-shown : (paths : ℕ → List ℕ) → shown_layer paths (map (node_view_by (held_row region) led_arcs) nodes2)
      ≡ with_redirected (sift_redirects dp (k + 1) t 0 (next_of paths)) (with_arcs dp k (next_of paths) (layer_of paths))
  above-shown paths =
      let redirects = sift_redirects dp (k + 1) t 0 (next_of paths) in
      ap₂ (λ l m. shown_layer paths (map (node_view_by (held_row region) l) m)) (routed-led routes arcs arranged.plain) spans
      ∙ (above-from dp k row (length ways) (led routes) (λ s d. redirected redirects (arc_of dp k (next_of paths) s d)) (arc-goes paths) (held_row region) old low paths 0 nodes 0 [] (to_ways arcs) refl tried.arcs_are
      ∙ two-changes dp k (next_of paths) redirects (layer_of paths))

  pub length-led : length led_arcs ≡ length arcs
  length-led = length-map arcs (routed routes)

  pub above-arcs : Each (HasArcsIn led_arcs) nodes2
  above-arcs =
      let size = length-arcs dp k row (length ways) (trials_of dp k (held_row region) nodes) (to_ways arcs) tried.arcs_are in
      let long = length-map arcs to_way in
      let same = length-led in
      subst (Each (HasArcsIn led_arcs)) (sym spans) (arcs-within dp k (held_row region) 0 led_arcs nodes (omega arith))

  pub next-ranked : (any : List DdArc) → Each (IsRanked dp (k + 1)) (map (node_view_by held any) below)
  next-ranked any = subst (λ l. Each (IsRanked dp (k + 1)) (map (node_view_by held any) l)) (sym arranged.nodes_are) (keys-ranked dp k row ways marks held distinct any keys layer-keys found)

  pub next-few : length below ≤ length ways
  next-few = (let size = ap length arranged.nodes_are ∙ length-map keys (node_of ways marks) in let few = unstruck-length dp (k + 1) t mid ways keys arranged.all in omega arith)

  pub next-bare : (any : List DdArc) → Each (HasArcsIn any) below
  next-bare any = subst (Each (HasArcsIn any)) (sym arranged.nodes_are) (keys-bare ways marks any keys)

-- the extended layer is put in order without what is struck, whose rows are given back
pub whole-sifted : (dp : Dp) (k : ℕ) (t : Option ℤ) → k < dp.vars → (region : RegionView) (nodes : List Node) (mid new : RegionView) (ways : List Way)
    (marks : List Bool) (arcs : List StoredArc) (routes : List Route) (nodes2 below : List Node) → AreDistinct dp (k + 1) (way_row mid ways) ways
    → ((paths : ℕ → List ℕ) → all_reached paths (way_row mid ways) ways ≡ all_joined [] (candidates dp k (members_as paths region (members_from 0 nodes))))
    → AreTried dp k (way_row mid ways) (length ways) (trials_of dp k (held_row region) nodes) marks (to_ways arcs) → nodes2 ≡ all_spanned dp k (held_row region) 0 nodes → length ways ≤ length nodes * dp.choices k
    → length arcs ≤ length nodes * dp.choices k → AreSifted dp (k + 1) t mid ways marks routes below → HasLeft mid (rows_of ways) new (rows_in below)
    → IsExpanded (expand_sifted dp k t) dp k (held_row region) nodes nodes2 (routed_arcs routes arcs) (held_row new) below
whole-sifted dp k t low region nodes mid new ways marks arcs routes nodes2 below distinct list tried spans few few_arcs arranged left =
    let held = held_row new in
    let same = subst (AreSame mid new) (ap rows_in arranged.nodes_are ∙ rows-of-nodes ways marks arranged.keys) left.same in
    let live = subst (Each (IsLive new)) (ap rows_in arranged.nodes_are ∙ rows-of-nodes ways marks arranged.keys) left.exchanged.live.live in
    let found = found-by mid new ways arranged.keys (unstruck-are dp (k + 1) t mid ways arranged.keys arranged.all) same live in
    record {
      above_is = λ before paths. above-shown dp k t low region before nodes mid ways marks arcs routes nodes2 below distinct list tried spans arranged held found paths;
      next_is = λ before any paths. next-shown dp k t low region before nodes mid ways marks arcs routes nodes2 below distinct list tried spans arranged held found paths any;
      places = ap rows_in spans ∙ places-stay dp k (held_row region) 0 nodes;
      rest = λ before. ap (λ m. map without_arcs (map (node_view_by (held_row region) (routed_arcs routes arcs)) m)) spans ∙ rest-stays dp k (held_row region) before (routed_arcs routes arcs) 0 nodes;
      ranked = λ any. next-ranked dp k t low region any nodes mid ways marks arcs routes nodes2 below distinct list tried spans arranged held found any;
      arcs_lie = above-arcs dp k t low region (to_ways arcs) nodes mid ways marks arcs routes nodes2 below distinct list tried spans arranged held found;
      bare = λ any. next-bare dp k t low region any nodes mid ways marks arcs routes nodes2 below distinct list tried spans arranged held found any;
      same = ap length spans ∙ length-spanned dp k (held_row region) 0 nodes;
      few = (let size = next-few dp k t low region (to_ways arcs) nodes mid ways marks arcs routes nodes2 below distinct list tried spans arranged held found in omega arith);
      few_arcs = (let size = length-led dp k t low region (to_ways arcs) nodes mid ways marks arcs routes nodes2 below distinct list tried spans arranged held found in omega arith);
    }

-- the same by equal parts
pub ordered-by : (held : ℕ → List ℤ) (listed : List Key) (ways ways2 : List Way) (marks marks2 : List Bool) (routes : List Route) (nodes : List Node)
    → AreOrdered held listed ways marks routes nodes → ways ≡ ways2 → marks ≡ marks2 → AreOrdered held listed ways2 marks2 routes nodes
ordered-by held listed ways ways2 marks marks2 routes nodes h c d =
    subst (λ x. AreOrdered held listed x marks2 routes nodes) c (subst (λ x. AreOrdered held listed ways x routes nodes) d h)

-- the keys of the ways that are not struck were put in order
module _ (dp : Dp) (k : ℕ) (t : Option ℤ) (region left : RegionView) (ways : List Way) (marks : List Bool) (routes : List Route) (nodes : List Node) (listed : List Key) (held : AreLive region (rows_of ways))
    (is : listed ≡ unstruck_keys dp k t region ways) (stay : HasLeft region (rows_of ways) left (key_rows listed)) (h : AreOrdered (held_row left) listed ways marks routes nodes) where
  ordered-all : IsPermutation (unstruck_keys dp k t region ways) h.keys
  ordered-all = subst (λ l. IsPermutation l h.keys) is h.all

  ordered-stay : HasLeft region (rows_of ways) left (key_rows h.keys)
  ordered-stay = left-moved region left (rows_of ways) (key_rows listed) (key_rows h.keys) (IsPermutation-map (λ (key : Key). key.row) listed h.keys h.all) stay

  pub ordered-sifted : AreSifted dp k t region ways marks routes nodes
  ordered-sifted =
      let keys = h.keys in
      let still = rows-same region left keys ordered-stay.same (key-places-of (IsLive region) ways keys (unstruck-are dp k t region ways keys ordered-all) held.live) in
      record {
        keys = keys;
        all = ordered-all;
        sorted = sorted-same (held_row left) (held_row region) keys
            (Each-then (λ (key : Key). held_row left key.row ≡ held_row region key.row) (λ (key : Key). held_row region key.row ≡ held_row left key.row) keys (λ key e. sym e) still) h.sorted;
        numbered = h.numbered;
        unnumbered = h.unnumbered;
        plain = h.plain;
        nodes_are = h.nodes_are;
      }

  pub ordered-left : HasLeft region (rows_of ways) left (rows_in nodes)
  ordered-left = subst (HasLeft region (rows_of ways) left) (sym (ap rows_in h.nodes_are ∙ rows-of-nodes ways marks h.keys)) ordered-stay
