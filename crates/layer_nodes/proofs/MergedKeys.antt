-- Keys that are merged, one after another.
use Rattle.std.proofs.Common.{◌≡◌, ◌≢◌, ℕ, zero, suc, ◌+◌, ◌<◌, ◌≤◌, ℤ, pos, false, Bool, List, [], ◌∷◌, ◌++◌, length, map, take, drop, set, get_or, Option, Some, None, ◌⊎◌, inl, inr, unwrap_or, refl, sym, ◌∙◌, ap, ap₂, subst, append-nil, take-append-drop, arith}
use Rattle.std.proofs.lemmas.List.{map-append, take_more, take_all, length-set, get_or-set_same, get_or-set_other, get_or-take, length-take-le}
use Rattle.dp_model.specs.Dp.{Dp}
use Rattle.dp_model.specs.Gaps.{IsStateOf}
use Rattle.dp_model.specs.Lists.{Each}
use Rattle.dp_model.specs.Numbers.{add_some, greatest}
use Rattle.dp_model.proofs.Members.{Each-append, Each-map, Each-then}
use Rattle.dp_laws.specs.Pairs.{EachTwo}
use Rattle.layer_candidates.specs.declared.key.Key.{Key}
use Rattle.layer_candidates.proofs.HeldRows.{each-here, each-left, each-right, put-same, exchange-beside, exchange-then}
use Rattle.layer_candidates.specs.declared.way.Way.{Way}
use Rattle.layer_candidates.specs.HeldRows.{held_row, AreLive, HasExchanged}
use Rattle.layer_candidates.specs.KeyOrder.{key_rows}
use Rattle.row_region.specs.Region.{RegionView, IsRow, HasPut}
use Rattle.row_region.proofs.Callers.{put_row}
use Rattle.layer_nodes.specs.declared.node.Node.{Node}
use Rattle.layer_nodes.specs.declared.routing.Route.{Route}
use Rattle.layer_nodes.specs.Leading.{bare}
use Rattle.layer_nodes.specs.Expanding.{key_in, number_at, IsNumbered, node_of}
use Rattle.layer_nodes.specs.Holding.{HaveRows}
use Rattle.layer_nodes.specs.Merging.{IsStateIn, row_of_places, greater, lifted, merged_at}
use Rattle.layer_nodes.specs.Reducing.{key_node, bare_keys, IsKeyNode, merged_route, row_of_keys, LeadHere, LeadToMerged, HasMergedKeys}
use Rattle.layer_nodes.specs.Routing.{nowhere, route_at, IsPlain}
use Rattle.layer_nodes.specs.Stored.{rows_in}
use Rattle.layer_nodes.proofs.Exchanges.{rows-same, live-right, exchange-push}
use Rattle.layer_nodes.proofs.KeyRows.{rows-of-nodes}
use Rattle.layer_nodes.proofs.Merged.{row-of-nodes, lifted-push}
use Rattle.layer_nodes.proofs.Routed.{plain-at}
use Rattle.layer_nodes.proofs.Shown.{map-map}
use Rattle.layer_nodes.proofs.Stored.{each-drop}

-- ---- the row

-- the rows of keys are states
pub key-states : (dp : Dp) (k : ℕ) (region : RegionView) (keys : List Key) → Each (IsKeyNode dp k region) keys → Each (IsStateIn dp k region) (key_rows keys)
key-states dp k region [] h = tt
key-states dp k region (key ∷ keys) h = (h.0.row, key-states dp k region keys h.1)

-- keys have the rows of their places
pub row-of-keys : (dp : Dp) (k : ℕ) (row : ℕ → List ℤ) (keys : List Key) → row_of_places dp k row (key_rows keys) ≡ row_of_keys dp k row keys
row-of-keys dp k row keys = ap (row_of_places dp k row) (sym (map-map (λ (node : Node). node.row) key_node keys)) ∙ row-of-nodes dp k row (map key_node keys)

-- ---- the routes

-- the first i keys were looked at
pub record AreLed (dp : Dp) (k : ℕ) (row : ℕ → List ℤ) (into : List ℤ) (place : ℕ) (keys : List Key) (old : List Route) (best : Option ℤ) (now : List Route) (i : ℕ) : Type 0 where
  pub value : best ≡ greatest (lifted dp k into (bare_keys row (take i keys)))
  pub lead : LeadToMerged dp k row into place (take i keys) now
  pub others : (p : ℕ) → Each (λ (key : Key). key.place ≢ p) (take i keys) → route_at now p ≡ route_at old p
  pub same : length now ≡ length old

-- the members before one
pub before-one : {X : Type 0} (R : X → X → Type 0) (xs : List X) (i : ℕ) (d : X) → EachTwo R xs → i < length xs → Each (λ x. R x (get_or xs i d)) (take i xs)
before-one R [] i d two less = absurd (omega arith)
before-one R (x ∷ xs) zero d two less = tt
before-one R (x ∷ xs) (suc i) d two less = (each-here (R x) xs i d two.0 (omega arith), before-one R xs i d two.1 (omega arith))

-- an earlier member and a later one
pub two-at : {X : Type 0} (R : X → X → Type 0) (xs : List X) (i j : ℕ) (d : X) → EachTwo R xs → i < j → j < length xs → R (get_or xs i d) (get_or xs j d)
two-at R xs i j d two less within =
    let few = length-take-le j xs (omega arith) in
    subst (λ x. R x (get_or xs j d)) (get_or-take j xs i d less) (each-here (λ x. R x (get_or xs j d)) (take j xs) i d (before-one R xs j d two within) (omega arith))

-- each of the first n members with each of the others
pub two-parts : {X : Type 0} (R : X → X → Type 0) (xs : List X) (n : ℕ) → EachTwo R xs → Each (λ x. Each (R x) (drop n xs)) (take n xs)
two-parts R xs zero two = tt
two-parts R [] (suc n) two = tt
two-parts R (x ∷ xs) (suc n) two = (each-drop (R x) n xs two.0, two-parts R xs n two.1)

pub two-drop : {X : Type 0} (R : X → X → Type 0) (n : ℕ) (xs : List X) → EachTwo R xs → EachTwo R (drop n xs)
two-drop R zero xs two = two
two-drop R (suc n) [] two = two
two-drop R (suc n) (x ∷ xs) two = two-drop R n xs two.1

-- keys with the same place stand at the same place
pub one-key : (keys : List Key) (i j : ℕ) (d : Key) → EachTwo (λ (a b : Key). a.place ≢ b.place) keys → i < length keys → j < length keys → (get_or keys i d).place ≡ (get_or keys j d).place → i ≡ j
one-key keys i j d apart less within same = go three
  where
    three : (i < j) ⊎ ((j < i) ⊎ (i ≡ j))
    three = grind arith

    go : (i < j) ⊎ ((j < i) ⊎ (i ≡ j)) → i ≡ j
    go (inl low) = absurd (two-at (λ (a b : Key). a.place ≢ b.place) keys i j d apart low within same)
    go (inr (inl high)) = absurd (two-at (λ (a b : Key). a.place ≢ b.place) keys j i d apart high less (sym same))
    go (inr (inr e)) = e

module _ (dp : Dp) (k : ℕ) (row : ℕ → List ℤ) (into : List ℤ) (place : ℕ) (keys : List Key) (old : List Route) where
  pub led-none : AreLed dp k row into place keys old None old 0
  led-none = record { value = refl; lead = tt; others = λ p h. refl; same = refl }

  pub led-more : (best best2 : Option ℤ) (now : List Route) (route : Route) (i : ℕ) (d : Key) → AreLed dp k row into place keys old best now i → i < length keys
      → EachTwo (λ (a b : Key). a.place ≢ b.place) keys → (get_or keys i d).place < length now
      → best2 ≡ greater best (add_some (get_or keys i d).value (dp.gap k into (row (get_or keys i d).row)))
      → route ≡ merged_route place (dp.gap k into (row (get_or keys i d).row))
      → AreLed dp k row into place keys old best2 (set now (get_or keys i d).place route) (i + 1)
  led-more best best2 now route i d h less apart within value is =
      let key = get_or keys i d in
      let done = bare_keys row (take i keys) in
      let now2 = set now key.place route in
      let more : take (i + 1) keys ≡ take i keys ++ key ∷ [] = take_more keys i d less in
      let bares : bare_keys row (take (i + 1) keys) ≡ done ++ bare row (key_node key) ∷ [] =
      ap (bare_keys row) more ∙ (ap (map (bare row)) (map-append key_node (take i keys) (key ∷ [])) ∙ map-append (bare row) (map key_node (take i keys)) (key_node key ∷ [])) in
      let other : (p : ℕ) → p ≢ key.place → route_at now2 p ≡ route_at now p = λ p n. get_or-set_other now key.place p route nowhere n in
      let here : route_at now2 key.place ≡ merged_route place (dp.gap k into (row key.row)) = get_or-set_same now key.place route nowhere within ∙ is in
      record {
        value = value ∙ (ap (λ b. greater b (add_some key.value (dp.gap k into (row key.row)))) h.value ∙ (sym (lifted-push dp k into done (bare row (key_node key))) ∙ ap (λ l. greatest (lifted dp k into l)) (sym bares)));
        lead = subst (λ l. LeadToMerged dp k row into place l now2) (sym more)
            (Each-append (λ (x : Key). route_at now2 x.place ≡ merged_route place (dp.gap k into (row x.row))) (take i keys) (key ∷ [])
            (still (take i keys) (before-one (λ (a b : Key). a.place ≢ b.place) keys i d apart less) h.lead) (here, tt));
        others = λ p none.
            (let both = subst (Each (λ (x : Key). x.place ≢ p)) more none in
            let mine = each-right (λ (x : Key). x.place ≢ p) (take i keys) (key ∷ []) both in
            other p (λ e. mine.0 (sym e)) ∙ h.others p (each-left (λ (x : Key). x.place ≢ p) (take i keys) (key ∷ []) both));
        same = length-set now key.place route ∙ h.same;
      }
    where
      still : (xs : List Key) → Each (λ (a : Key). a.place ≢ (get_or keys i d).place) xs → LeadToMerged dp k row into place xs now → LeadToMerged dp k row into place xs (set now (get_or keys i d).place route)
      still [] n l = tt
      still (x ∷ xs) n l = (get_or-set_other now (get_or keys i d).place x.place route nowhere n.0 ∙ l.0, still xs n.1 l.1)

  pub led-all : (best : Option ℤ) (now : List Route) (i : ℕ) → AreLed dp k row into place keys old best now i → length keys ≤ i → AreLed dp k row into place keys old best now (length keys)
  led-all best now i h end =
      let all : take i keys ≡ take (length keys) keys = take_all i keys end ∙ sym (take_all (length keys) keys (omega arith)) in
      record {
        value = h.value ∙ ap (λ l. greatest (lifted dp k into (bare_keys row l))) all;
        lead = subst (λ l. LeadToMerged dp k row into place l now) all h.lead;
        others = λ p none. h.others p (subst (Each (λ (x : Key). x.place ≢ p)) (sym all) none);
        same = h.same;
      }

-- ---- all of it

-- the rows of the merged keys are given back, and then the row into which they are merged is put
module _ (dp : Dp) (k n : ℕ) (old now new : RegionView) (ways : List Way) (marks : List Bool) (keys : List Key) (first routes : List Route) (into : List ℤ) (place : ℕ) (some : n < length keys)
    (live : AreLive old (key_rows keys)) (apart : EachTwo (λ (a b : Key). a.place ≢ b.place) keys) where
  abbrev front : List ℕ
  front = key_rows (take n keys)

  abbrev following : List ℕ
  following = key_rows (drop n keys)

  abbrev held : ℕ → List ℤ
  held = held_row old

  parts : key_rows keys ≡ front ++ following
  parts = sym (ap key_rows (take-append-drop n keys)) ∙ map-append (λ (key : Key). key.row) (take n keys) (drop n keys)

  both : AreLive old (front ++ following)
  both = subst (AreLive old) parts live

  pub following-live : AreLive old (key_rows (drop n keys))
  following-live = live-right old front following both

  pub rest-apart : EachTwo (λ (a b : Key). a.place ≢ b.place) (drop n keys)
  rest-apart = two-drop (λ (a b : Key). a.place ≢ b.place) n keys apart

  module _ (given : HasExchanged old (key_rows (drop n keys)) now []) (put : HasPut now place into new) (long : length into ≡ now.words) where
    stays : HasExchanged old (key_rows keys) now front
    stays = subst (λ l. HasExchanged old l now front) (sym parts) (subst (HasExchanged old (front ++ following) now) (append-nil front) (exchange-beside old now following [] given front both).0)

    still : HaveRows old held (key_rows keys) → HaveRows new held front
    still have =
        rows-same now new held front put.words (put-same now new place into put long front stays.live.live)
        (rows-same old now held front given.words (exchange-beside old now following [] given front both).1 (each-left (λ (p : ℕ). IsRow old p (held p)) front following (subst (HaveRows old held) parts have)))

    module _ (numbered : (j : ℕ) → j < length (take n keys) → IsNumbered (length (take n keys)) (take n keys) first (key_in (take n keys) j).place)
        (none : (p : ℕ) → Each (λ (key : Key). key.place ≢ p) (take n keys) → number_at first p ≡ None) (plain : Each IsPlain first)
        (others : (p : ℕ) → Each (λ (key : Key). key.place ≢ p) (drop n keys) → route_at routes p ≡ route_at first p) where
      lead-here : LeadHere n keys routes
      lead-here j less =
          let d = key_in [] 0 in
          let size : length (take n keys) ≡ n = length-take-le n keys (omega arith) in
          let h = numbered j (omega arith) in
          let one : key_in (take n keys) j ≡ key_in keys j = get_or-take n keys j d less in
          let low : h.number < n = (let w = h.within in omega arith) in
          let two : key_in (take n keys) h.number ≡ key_in keys h.number = get_or-take n keys h.number d low in
          let same : h.number ≡ j = one-key keys h.number j d apart (omega arith) (omega arith) (ap (λ (x : Key). x.place) (sym two) ∙ (h.same ∙ ap (λ (x : Key). x.place) one)) in
          let p = (key_in keys j).place in
          let away = each-here (λ (a : Key). Each (λ (b : Key). a.place ≢ b.place) (drop n keys)) (take n keys) j d (two-parts (λ (a b : Key). a.place ≢ b.place) keys n apart) (omega arith) in
          let away2 : Each (λ (b : Key). p ≢ b.place) (drop n keys) = subst (λ (a : Key). Each (λ (b : Key). a.place ≢ b.place) (drop n keys)) one away in
          others p (Each-then (λ (b : Key). p ≢ b.place) (λ (b : Key). b.place ≢ p) (drop n keys) (λ b ne e. ne (sym e)) away2)
          ∙ ap₂ (λ (t : Option ℕ) (l : ℤ). record { target = t; longer = l }) (ap (λ (x : Key). number_at first x.place) (sym one) ∙ (h.is ∙ ap Some same)) (plain-at first p plain)

      lead-nowhere : (p : ℕ) → Each (λ (key : Key). key.place ≢ p) keys → route_at routes p ≡ nowhere
      lead-nowhere p away =
          let split = subst (Each (λ (key : Key). key.place ≢ p)) (sym (take-append-drop n keys)) away in
          others p (each-right (λ (key : Key). key.place ≢ p) (take n keys) (drop n keys) split)
          ∙ ap₂ (λ (t : Option ℕ) (l : ℤ). record { target = t; longer = l }) (none p (each-left (λ (key : Key). key.place ≢ p) (take n keys) (drop n keys) split)) (plain-at first p plain)

      pub has-merged-keys : Each (IsKeyNode dp k old) keys → into ≡ row_of_keys dp k (held_row old) (drop n keys) → IsStateOf dp k into
          → (best : Option ℤ) (node : Node) (nodes : List Node)
          → best ≡ greatest (lifted dp k into (bare_keys (held_row old) (drop n keys)))
          → LeadToMerged dp k (held_row old) into n (drop n keys) routes
          → node ≡ record { value = unwrap_or best (pos 0); rank = dp.rank k into; hash = dp.hash k into; suffix = None; parent = None; row = place; decision = 0; first_arc = 0; arcs = 0; exact = false }
          → nodes ≡ map (node_of ways marks) (take n keys) ++ node ∷ [] → HasMergedKeys dp k n old ways marks keys new routes nodes
      has-merged-keys within merged state best node nodes value lead is list =
          let last = bare_keys held (drop n keys) in
          let have : HaveRows old held (key_rows keys) = Each-map (λ (key : Key). key.row) (λ (p : ℕ). IsRow old p (held p)) keys (Each-then (IsKeyNode dp k old) (λ (key : Key). IsRow old key.row (held key.row)) keys (λ key h. h.row.found) within) in
          let best_is : best ≡ greatest (lifted dp k (row_of_keys dp k held (drop n keys)) last) = value ∙ ap (λ r. greatest (lifted dp k r last)) merged in
          let all = list ∙ ap (λ m. map (node_of ways marks) (take n keys) ++ m ∷ []) (is ∙ ap₂ (λ b r. record { value = unwrap_or b (pos 0); rank = dp.rank k r; hash = dp.hash k r; suffix = None; parent = None; row = place; decision = 0; first_arc = 0; arcs = 0; exact = false }) best_is merged) in
          let places : rows_in nodes ≡ front ++ place ∷ [] =
          ap rows_in all ∙ (map-append (λ (m : Node). m.row) (map (node_of ways marks) (take n keys)) (merged_at dp k place last ∷ []) ∙ ap (λ l. l ++ place ∷ []) (rows-of-nodes ways marks (take n keys))) in
          record {
            place = place;
            list = all;
            held = still have;
            merged = subst (IsRow new place) merged (put_row now new place into put long);
            state = subst (IsStateOf dp k) merged state;
            exchanged = subst (HasExchanged old (key_rows keys) new) (sym places) (exchange-then old now new (key_rows keys) front (front ++ place ∷ []) stays (exchange-push now new front place into stays.live put long));
            numbered = lead-here;
            lead = subst (λ r. LeadToMerged dp k held r n (drop n keys) routes) merged lead;
            others = lead-nowhere;
          }
