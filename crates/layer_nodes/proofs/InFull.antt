-- The layer of which all but the first keys were merged at once, with all its keys in order: its nodes, and plain routes that get new targets.
use Rattle.std.proofs.Common.{◌≡◌, ◌≢◌, ℕ, zero, suc, ◌+◌, ◌-◌, ◌<◌, ◌≤◌, nat_eq, ℤ, pos, ◌+ℤ◌, Bool, false, cond, List, [], ◌∷◌, ◌++◌, length, map, take, drop, get_or, slice_get, Option, Some, None, option_map, option_and_then, IsPermutation, IsSortedBy, ◌⊎◌, inl, inr, refl, sym, ◌∙◌, ap, ap₂, subst, take-append-drop, length-drop, arith}
use Rattle.std.proofs.lemmas.Int.{ints}
use Rattle.std.proofs.lemmas.List.{get_or_append_left, get_or-append_right, get_or-take, length-take-le, drop-append-le, drop_all, drop-map}
use Rattle.std.proofs.lemmas.List.Sorted.{IsPermutation-append_right, IsPermutation-map, IsPermutation-sym, IsPermutation-trans, length_permutation}
use Rattle.std.proofs.lemmas.Option.{slice_get-map, slice_get-get_or}
use Rattle.dp_model.specs.Dp.{Dp}
use Rattle.dp_model.specs.Lists.{Each}
use Rattle.dp_model.proofs.RowLemmas.{nat_eq-is, nat_eq-self}
use Rattle.dp_laws.specs.Pairs.{EachTwo}
use Rattle.dp_laws.specs.Rules.Redirects.{Redirect}
use Rattle.dp_laws.specs.Rules.Reducing.{staying, row_of_all, redirect_by, merge_redirect}
use Rattle.dp_laws.proofs.Restricted.Permutations.{each-permutation, keys-permutation}
use Rattle.dp_laws.proofs.Rules.Merged.{following, length-staying}
use Rattle.layer_candidates.specs.declared.key.Key.{Key}
use Rattle.layer_candidates.specs.declared.way.Way.{Way}
use Rattle.layer_candidates.specs.HeldRows.{held_row, AreLive, HasLeft}
use Rattle.layer_candidates.specs.KeyOrder.{goes_before, key_rows}
use Rattle.layer_candidates.specs.Pruning.{unstruck_keys}
use Rattle.layer_candidates.specs.Ways.{rows_of}
use Rattle.layer_candidates.proofs.HeldRows.{each-here, left-moved}
use Rattle.layer_candidates.proofs.Sorted.{goes-strict, unstruck-are}
use Rattle.row_region.specs.Region.{RegionView}
use Rattle.layer_nodes.specs.declared.node.Node.{Node}
use Rattle.layer_nodes.specs.declared.routing.Route.{Route}
use Rattle.layer_nodes.specs.Expanding.{key_in, number_at, node_of, IsNumbered}
use Rattle.layer_nodes.specs.Leading.{bare}
use Rattle.layer_nodes.specs.Redirecting.{redirect_of, rerouted_by, rerouted, IsRerouted, AreRerouted}
use Rattle.layer_nodes.specs.Reducing.{route_to, merged_route, row_of_keys, LeadToMerged, AreFirst, AreReduced}
use Rattle.layer_nodes.specs.Routing.{nowhere, route_at, IsPlain}
use Rattle.layer_nodes.specs.Sifting.{AreSifted, AreOrdered}
use Rattle.layer_nodes.specs.Stored.{rows_in}
use Rattle.layer_nodes.proofs.Following.{before-first}
use Rattle.layer_nodes.proofs.InOrder.{put_all, moved-all, sorted-all}
use Rattle.layer_nodes.proofs.Listed.{places-apart}
use Rattle.layer_nodes.proofs.Reordered.{in_full, nodes_in_full, last_of, last_redirects}
use Rattle.layer_nodes.proofs.Routed.{plain-at}
use Rattle.layer_nodes.proofs.Shown.{map-map}
use Rattle.layer_nodes.proofs.SiftedLayers.{ordered-sifted, ordered-left}

-- ---- the keys

module _ (held : ℕ → List ℤ) (n : ℕ) (keys : List Key) where
  -- those after the first n, in order
  abbrev rest : List Key
  rest = put_all (goes_before held) (goes-strict held) (drop n keys)

  pub rest-moved : IsPermutation (drop n keys) rest
  rest-moved = moved-all (goes_before held) (goes-strict held) (drop n keys)

  pub keys-moved : IsPermutation keys (in_full held n keys)
  keys-moved = subst (λ l. IsPermutation l (in_full held n keys)) (take-append-drop n keys) (IsPermutation-append_right (take n keys) (drop n keys) rest rest-moved)

  keys-sorted : AreFirst held n keys → IsSortedBy (goes_before held) (in_full held n keys)
  keys-sorted first = first rest rest-moved (sorted-all (goes_before held) (goes-strict held) (drop n keys))

  module _ (few : n ≤ length keys) where
    key-first : (j : ℕ) → j < n → key_in (in_full held n keys) j ≡ key_in keys j
    key-first j less =
        let size = length-take-le n keys few in
        get_or_append_left (take n keys) rest (key_in [] 0) j (omega arith) ∙ get_or-take n keys j (key_in [] 0) less

    key-last : (j : ℕ) → n ≤ j → key_in (in_full held n keys) j ≡ key_in rest (j - n)
    key-last j more = get_or-append_right (take n keys) rest n j (key_in [] 0) (length-take-le n keys few) more

    pub drop-full : drop n (in_full held n keys) ≡ rest
    drop-full =
        let size = length-take-le n keys few in
        drop-append-le n (take n keys) rest (omega arith) ∙ ap (λ l. l ++ rest) (drop_all n (take n keys) (omega arith))

-- ---- the plain routes

nat_eq-not : (a b : ℕ) → a ≢ b → nat_eq a b ≡ false
nat_eq-not a b h = grind arith

same-or : (a b : ℕ) → (a ≡ b) ⊎ (a ≢ b)
same-or a b = grind arith

-- the place of the first key with the place p, where the first of the keys stands at i
abbrev pub place_in : ℕ → List Key → ℕ → Option ℕ
place_in i [] p = None
place_in i (key ∷ keys) p = cond (nat_eq key.place p) (Some i) (place_in (i + 1) keys p)

-- the route of the way at the place p to the place of its key
abbrev pub plain_route : List Key → ℕ → Route
plain_route keys p = record { target = place_in 0 keys p; longer = pos 0 }

-- the routes of this many ways from the place p on
abbrev pub plain_from : List Key → ℕ → ℕ → List Route
plain_from keys p zero = []
plain_from keys p (suc count) = plain_route keys p ∷ plain_from keys (p + 1) count

-- the routes of this many ways
abbrev pub plain_routes : List Key → ℕ → List Route
plain_routes keys count = plain_from keys 0 count

place-found : (i : ℕ) (keys : List Key) (j : ℕ) (d : Key) → EachTwo (λ (a b : Key). a.place ≢ b.place) keys → j < length keys → place_in i keys (get_or keys j d).place ≡ Some (i + j)
place-found i [] j d apart less = absurd (omega arith)
place-found i (key ∷ keys) zero d apart less = ap (λ b. cond b (Some i) (place_in (i + 1) keys key.place)) (nat_eq-self key.place) ∙ ap Some (omega arith)
place-found i (key ∷ keys) (suc j) d apart less =
    let p = (get_or keys j d).place in
    let other : nat_eq key.place p ≡ false = nat_eq-not key.place p (each-here (λ (b : Key). key.place ≢ b.place) keys j d apart.0 (omega arith)) in
    ap (λ b. cond b (Some i) (place_in (i + 1) keys p)) other ∙ (place-found (i + 1) keys j d apart.1 (omega arith) ∙ ap Some (omega arith))

place-missing : (i : ℕ) (keys : List Key) (p : ℕ) → Each (λ (key : Key). key.place ≢ p) keys → place_in i keys p ≡ None
place-missing i [] p none = refl
place-missing i (key ∷ keys) p none = ap (λ b. cond b (Some i) (place_in (i + 1) keys p)) (nat_eq-not key.place p none.0) ∙ place-missing (i + 1) keys p none.1

-- a place is that of a key or not
key-or-none : (keys : List Key) (p : ℕ) → ((j : ℕ) × (j < length keys) × ((key_in keys j).place ≡ p)) ⊎ Each (λ (key : Key). key.place ≢ p) keys
key-or-none [] p = inr tt
key-or-none (key ∷ keys) p = go (same-or key.place p) (key-or-none keys p)
  where
    go : (key.place ≡ p) ⊎ (key.place ≢ p) → ((j : ℕ) × (j < length keys) × ((key_in keys j).place ≡ p)) ⊎ Each (λ (key : Key). key.place ≢ p) keys
        → ((j : ℕ) × (j < length (key ∷ keys)) × ((key_in (key ∷ keys) j).place ≡ p)) ⊎ Each (λ (key : Key). key.place ≢ p) (key ∷ keys)
    go (inl e) later = inl (0, omega arith, e)
    go (inr ne) (inl h) = inl (suc h.0, (let less = h.1 in omega arith), h.2)
    go (inr ne) (inr none) = inr (ne, none)

from-length : (keys : List Key) (p count : ℕ) → length (plain_from keys p count) ≡ count
from-length keys p zero = refl
from-length keys p (suc count) = (let later = from-length keys (p + 1) count in omega arith)

from-plain : (keys : List Key) (p count : ℕ) → Each IsPlain (plain_from keys p count)
from-plain keys p zero = tt
from-plain keys p (suc count) = (refl, from-plain keys (p + 1) count)

from-at : (keys : List Key) (p count i : ℕ) → i < count → route_at (plain_from keys p count) i ≡ plain_route keys (p + i)
from-at keys p zero i less = absurd (omega arith)
from-at keys p (suc count) zero less = ap (plain_route keys) (omega arith)
from-at keys p (suc count) (suc i) less = from-at keys (p + 1) count i (omega arith) ∙ ap (plain_route keys) (omega arith)

from-none : (keys : List Key) (p count i : ℕ) → place_in 0 keys (p + i) ≡ None → number_at (plain_from keys p count) i ≡ None
from-none keys p zero i none = refl
from-none keys p (suc count) zero none = (let same : p ≡ p + 0 = omega arith in ap (place_in 0 keys) same ∙ none)
from-none keys p (suc count) (suc i) none = (let same : p + 1 + i ≡ p + suc i = omega arith in from-none keys (p + 1) count i (ap (place_in 0 keys) same ∙ none))

pub plain-length : (keys : List Key) (count : ℕ) → length (plain_routes keys count) ≡ count
plain-length keys count = from-length keys 0 count

pub plain-each : (keys : List Key) (count : ℕ) → Each IsPlain (plain_routes keys count)
plain-each keys count = from-plain keys 0 count

-- the route of the way of a key
pub plain-found : (keys : List Key) (count : ℕ) → EachTwo (λ (a b : Key). a.place ≢ b.place) keys → Each (λ (key : Key). key.place < count) keys
    → (j : ℕ) → j < length keys → route_at (plain_routes keys count) (key_in keys j).place ≡ route_to j
plain-found keys count apart within j less =
    let p = (key_in keys j).place in
    let low = each-here (λ (key : Key). key.place < count) keys j (key_in [] 0) within less in
    let from : 0 + p ≡ p = omega arith in
    let zero_more : 0 + j ≡ j = omega arith in
    from-at keys 0 count p low ∙ (ap (plain_route keys) from ∙ ap (λ (t : Option ℕ). record { target = t; longer = pos 0 }) (place-found 0 keys j (key_in [] 0) apart less ∙ ap Some zero_more))

pub plain-numbered : (keys : List Key) (count : ℕ) → EachTwo (λ (a b : Key). a.place ≢ b.place) keys → Each (λ (key : Key). key.place < count) keys
    → (j : ℕ) → j < length keys → IsNumbered (length keys) keys (plain_routes keys count) (key_in keys j).place
plain-numbered keys count apart within j less = record { number = j; is = ap (λ (r : Route). r.target) (plain-found keys count apart within j less); within = less; same = refl }

pub plain-unnumbered : (keys : List Key) (count p : ℕ) → Each (λ (key : Key). key.place ≢ p) keys → number_at (plain_routes keys count) p ≡ None
plain-unnumbered keys count p none = from-none keys 0 count p (place-missing 0 keys (0 + p) (let same : p ≡ 0 + p = omega arith in subst (λ q. Each (λ (key : Key). key.place ≢ q) keys) same none))

pub plain-nowhere : (keys : List Key) (count p : ℕ) → Each (λ (key : Key). key.place ≢ p) keys → route_at (plain_routes keys count) p ≡ nowhere
plain-nowhere keys count p none = ap₂ (λ (t : Option ℕ) (l : ℤ). record { target = t; longer = l }) (plain-unnumbered keys count p none) (plain-at (plain_routes keys count) p (plain-each keys count))

-- ---- new targets

-- routes that have their new targets one by one
pub rerouted-each : (ls : List (Option Redirect)) (olds news : List Route) → length news ≡ length olds → ((p : ℕ) → p < length olds → IsRerouted ls (route_at olds p) (route_at news p)) → AreRerouted ls olds news
rerouted-each ls [] [] same h = tt
rerouted-each ls [] (n ∷ news) same h = absurd (omega arith)
rerouted-each ls (o ∷ olds) [] same h = absurd (omega arith)
rerouted-each ls (o ∷ olds) (n ∷ news) same h = (h 0 (omega arith), rerouted-each ls olds news (omega arith) (λ p less. h (suc p) (omega arith)))

none-plus : (z : ℤ) → pos 0 +ℤ z ≡ z
none-plus z = omega (arith, ints)

-- the route to the merged node
by-gap : (j place : ℕ) (o : Option ℤ) → merged_route place o ≡ rerouted_by (route_to j) (redirect_by place o)
by-gap j place None = refl
by-gap j place (Some gap) = ap (λ (l : ℤ). record { target = Some place; longer = l }) (sym (none-plus gap))

module _ (dp : Dp) (k n : ℕ) (held : ℕ → List ℤ) (ways : List Way) (marks : List Bool) (keys : List Key) (few : n ≤ length keys) where
  abbrev nodes : List Node
  nodes = nodes_in_full held ways marks n keys

  abbrev last : List Key
  last = rest held n keys

  -- the row into which the last nodes are merged
  abbrev row : List ℤ
  row = row_of_all dp k (last_of held n nodes)

  last-are : last_of held n nodes ≡ map (λ (key : Key). bare held (node_of ways marks key)) last
  last-are =
      let f = node_of ways marks in
      ap (map (bare held)) (drop-map f n (in_full held n keys) ∙ ap (map f) (drop-full held n keys few)) ∙ map-map (bare held) f last

  redirect-last : (i : ℕ) → i < length last → slice_get (last_redirects dp k held n nodes) i ≡ Some (redirect_by n (dp.gap k row (held (key_in last i).row)))
  redirect-last i less =
      let shown = λ (key : Key). bare held (node_of ways marks key) in
      let go = merge_redirect dp k n row in
      slice_get-map go (last_of held n nodes) i
      ∙ ap (option_map go) (ap (λ l. slice_get l i) last-are ∙ (slice_get-map shown last i ∙ ap (option_map shown) (slice_get-get_or last i (key_in [] 0) less)))

  -- the route to a merged node's place becomes that to the merged node
  rerouted-last : (j : ℕ) → n ≤ j → j - n < length last → merged_route n (dp.gap k row (held (key_in last (j - n)).row)) ≡ rerouted (staying n ++ last_redirects dp k held n nodes) (route_to j)
  rerouted-last j more less =
      let ls = staying n ++ last_redirects dp k held n nodes in
      let sum : j ≡ n + (j - n) = omega arith in
      let at : redirect_of ls (Some j) ≡ redirect_by n (dp.gap k row (held (key_in last (j - n)).row)) =
      ap (λ i. option_and_then (λ (l : Option Redirect). l) (slice_get ls i)) sum
      ∙ ap (option_and_then (λ (l : Option Redirect). l)) (following (staying n) (last_redirects dp k held n nodes) n (j - n) (length-staying n) ∙ redirect-last (j - n) less) in
      by-gap j n (dp.gap k row (held (key_in last (j - n)).row)) ∙ sym (ap (rerouted_by (route_to j)) at)

-- ---- all of it

module _ (dp : Dp) (k : ℕ) (t : Option ℤ) (width : ℕ) (region : RegionView) (ways : List Way) (marks : List Bool) (new : RegionView) (routes : List Route) (nodes : List Node)
    (r : AreReduced dp k t width region ways marks new routes nodes) where
  abbrev held : ℕ → List ℤ
  held = held_row r.left

  abbrev n : ℕ
  n = width - 1

  abbrev keys : List Key
  keys = in_full held n r.keys

  abbrev all : List Node
  all = nodes_in_full held ways marks n r.keys

  abbrev plain : List Route
  plain = plain_routes keys (length routes)

  few : n ≤ length r.keys
  few = (let wide = r.wide in omega arith)

  pub full-permutation : IsPermutation r.keys (in_full (held_row r.left) (width - 1) r.keys)
  full-permutation = keys-moved held n r.keys

  pub full-sorted : IsSortedBy (goes_before (held_row r.left)) (in_full (held_row r.left) (width - 1) r.keys)
  full-sorted = keys-sorted held n r.keys r.first

  pub full-length : length (in_full (held_row r.left) (width - 1) r.keys) ≡ length r.keys
  full-length = length_permutation r.keys keys full-permutation

  full-all : IsPermutation (unstruck_keys dp k t region ways) keys
  full-all = IsPermutation-trans (unstruck_keys dp k t region ways) r.keys keys r.all full-permutation

  full-apart : EachTwo (λ (a b : Key). a.place ≢ b.place) keys
  full-apart = keys-permutation nat_eq nat_eq-is nat_eq-self (λ (key : Key). key.place) r.keys keys full-permutation
      (places-apart ways r.keys (unstruck-are dp k t region ways r.keys r.all) r.stay.exchanged.live.apart)

  full-within : Each (λ (key : Key). key.place < length routes) keys
  full-within = each-permutation r.keys keys full-permutation (λ (key : Key). key.place < length routes) r.within

  full-ordered : AreOrdered held (unstruck_keys dp k t region ways) ways marks plain all
  full-ordered = record {
    keys = keys;
    all = full-all;
    sorted = full-sorted;
    numbered = plain-numbered keys (length routes) full-apart full-within;
    unnumbered = plain-unnumbered keys (length routes);
    plain = plain-each keys (length routes);
    nodes_are = refl;
  }

  full-stay : HasLeft region (rows_of ways) r.left (key_rows (unstruck_keys dp k t region ways))
  full-stay = left-moved region r.left (rows_of ways) (key_rows r.keys) (key_rows (unstruck_keys dp k t region ways))
      (IsPermutation-map (λ (key : Key). key.row) r.keys (unstruck_keys dp k t region ways) (IsPermutation-sym (unstruck_keys dp k t region ways) r.keys r.all)) r.stay

  module _ (live : AreLive region (rows_of ways)) where
    pub full-sifted : AreSifted dp k t region ways marks (plain_routes (in_full (held_row r.left) (width - 1) r.keys) (length routes)) (nodes_in_full (held_row r.left) ways marks (width - 1) r.keys)
    full-sifted = ordered-sifted dp k t region r.left ways marks plain all (unstruck_keys dp k t region ways) live refl full-stay full-ordered

    pub full-left : HasLeft region (rows_of ways) r.left (rows_in (nodes_in_full (held_row r.left) ways marks (width - 1) r.keys))
    full-left = ordered-left dp k t region r.left ways marks plain all (unstruck_keys dp k t region ways) live refl full-stay full-ordered

  module _ (same_row : row_of_all dp k (last_of (held_row r.left) (width - 1) (nodes_in_full (held_row r.left) ways marks (width - 1) r.keys)) ≡ row_of_keys dp k (held_row r.left) (drop (width - 1) r.keys)) where
    abbrev ls : List (Option Redirect)
    ls = staying n ++ last_redirects dp k held n all

    abbrev into : List ℤ
    into = row_of_keys dp k held (drop n r.keys)

    -- the route of a key before the merged ones
    route-first : (j : ℕ) → j < n → route_at routes (key_in keys j).place ≡ rerouted ls (route_to j)
    route-first j less =
        ap (λ (key : Key). route_at routes key.place) (key-first held n r.keys few j less)
        ∙ (r.merged.numbered j less ∙ before-first (last_redirects dp k held n all) (route_to j) n j refl less)

    -- the route of a merged key
    route-last : (j : ℕ) → n ≤ j → j < length keys → route_at routes (key_in keys j).place ≡ rerouted ls (route_to j)
    route-last j more less =
        let last = rest held n r.keys in
        let size : length last ≡ length keys - n = sym (ap length (drop-full held n r.keys few)) ∙ length-drop n keys in
        let lead : LeadToMerged dp k held into n last routes =
        each-permutation (drop n r.keys) last (rest-moved held n r.keys) (λ (key : Key). route_at routes key.place ≡ merged_route n (dp.gap k into (held key.row))) r.merged.lead in
        ap (λ (key : Key). route_at routes key.place) (key-last held n r.keys few j more)
        ∙ (each-here (λ (key : Key). route_at routes key.place ≡ merged_route n (dp.gap k into (held key.row))) last (j - n) (key_in [] 0) lead (omega arith)
        ∙ (ap (λ row. merged_route n (dp.gap k row (held (key_in last (j - n)).row))) (sym same_row) ∙ rerouted-last dp k n held ways marks r.keys few j more (omega arith)))

    route-here : (j : ℕ) → j < length keys → route_at routes (key_in keys j).place ≡ rerouted ls (route_at plain (key_in keys j).place)
    route-here j less = go (let at : (j < n) ⊎ (n ≤ j) = grind arith in at) ∙ ap (rerouted ls) (sym (plain-found keys (length routes) full-apart full-within j less))
      where
        go : (j < n) ⊎ (n ≤ j) → route_at routes (key_in keys j).place ≡ rerouted ls (route_to j)
        go (inl low) = route-first j low
        go (inr more) = route-last j more less

    route-nowhere : (p : ℕ) → Each (λ (key : Key). key.place ≢ p) keys → route_at routes p ≡ rerouted ls (route_at plain p)
    route-nowhere p none =
        let back = each-permutation keys r.keys (IsPermutation-sym r.keys keys full-permutation) (λ (key : Key). key.place ≢ p) none in
        r.merged.others p back ∙ ap (rerouted ls) (sym (plain-nowhere keys (length routes) p none))

    pub full-rerouted : AreRerouted (staying (width - 1) ++ last_redirects dp k (held_row r.left) (width - 1) (nodes_in_full (held_row r.left) ways marks (width - 1) r.keys))
        (plain_routes (in_full (held_row r.left) (width - 1) r.keys) (length routes)) routes
    full-rerouted = rerouted-each ls plain routes (sym (plain-length keys (length routes))) (λ p less far. go p (key-or-none keys p))
      where
        go : (p : ℕ) → ((j : ℕ) × (j < length keys) × ((key_in keys j).place ≡ p)) ⊎ Each (λ (key : Key). key.place ≢ p) keys → route_at routes p ≡ rerouted ls (route_at plain p)
        go p (inl h) = subst (λ q. route_at routes q ≡ rerouted ls (route_at plain q)) h.2 (route-here h.0 h.1)
        go p (inr none) = route-nowhere p none
