-- Keys that are listed, as they stand or in another order.
use Rattle.std.proofs.Common.{◌≡◌, ◌≢◌, ℕ, ◌<◌, ◌≤◌, ℤ, List, [], ◌∷◌, length, nat_eq, Option, Some, IsPermutation, sym, ◌∙◌, ap, subst, arith}
use Rattle.std.proofs.lemmas.List.Sorted.{IsPermutation-map, IsPermutation-refl, length_permutation}
use Rattle.dp_model.specs.Dp.{Dp}
use Rattle.dp_model.specs.Gaps.{IsStateOf}
use Rattle.dp_model.specs.Laws.{IsLawful}
use Rattle.dp_model.specs.Lists.{Each}
use Rattle.dp_model.proofs.Members.{Each-then}
use Rattle.dp_model.proofs.RowLemmas.{nat_eq-is, nat_eq-self}
use Rattle.dp_laws.specs.Pairs.{EachTwo}
use Rattle.dp_laws.proofs.Restricted.Permutations.{each-permutation, keys-permutation}
use Rattle.layer_candidates.specs.declared.key.Key.{Key}
use Rattle.layer_candidates.specs.declared.way.Way.{Way}
use Rattle.layer_candidates.specs.HeldRows.{held_row, AreLive, HasLeft}
use Rattle.layer_candidates.specs.KeyOrder.{key_rows, IsKeyOf}
use Rattle.layer_candidates.specs.Pruning.{unstruck_keys, IsKeyIn}
use Rattle.layer_candidates.specs.Rows.{HasZeros}
use Rattle.layer_candidates.specs.Ways.{way_at, rows_of, way_row, AreDistinct}
use Rattle.layer_candidates.proofs.HeldRows.{held-is, live-moved}
use Rattle.layer_candidates.proofs.Layered.{key-in}
use Rattle.layer_candidates.proofs.Pruned.{keys-same}
use Rattle.layer_candidates.proofs.Sorted.{unstruck-are, unstruck-length}
use Rattle.row_region.specs.Region.{RegionView, IsLive}
use Rattle.layer_nodes.specs.Reducing.{IsKeyNode, AreListed}

-- keys of ways whose rows differ have different places
pub places-apart : (ways : List Way) (keys : List Key) → Each (IsKeyOf ways) keys → EachTwo (λ (a b : ℕ). a ≢ b) (key_rows keys) → EachTwo (λ (a b : Key). a.place ≢ b.place) keys
places-apart ways [] of apart = tt
places-apart ways (key ∷ keys) of apart = (one keys of.1 apart.0, places-apart ways keys of.1 apart.1)
  where
    one : (ks : List Key) → Each (IsKeyOf ways) ks → Each (λ (p : ℕ). key.row ≢ p) (key_rows ks) → Each (λ (b : Key). key.place ≢ b.place) ks
    one [] h other = tt
    one (b ∷ ks) h other = (λ e. other.0 (ap (λ (x : Key). x.row) of.0.is ∙ (ap (λ p. (way_at ways p).row) e ∙ sym (ap (λ (x : Key). x.row) h.0.is))), one ks h.1 other.1)

-- the keys of the ways that are not struck
pub unstruck-listed : (dp : Dp) (k : ℕ) (t : Option ℤ) (region left : RegionView) (ways : List Way) (keys : List Key) → AreDistinct dp k (way_row region ways) ways → AreLive region (rows_of ways)
    → keys ≡ unstruck_keys dp k t region ways → HasLeft region (rows_of ways) left (key_rows keys) → AreListed dp k left ways keys
unstruck-listed dp k t region left ways keys distinct held is stay =
    let all = subst (IsPermutation (unstruck_keys dp k t region ways)) (sym is) (IsPermutation-refl (unstruck_keys dp k t region ways)) in
    let of = unstruck-are dp k t region ways keys all in
    record {
      known = keys-same dp k region left keys stay.same (key-in dp k region ways distinct.good held.live keys of);
      live = stay.exchanged.live;
      within = Each-then (IsKeyOf ways) (λ (key : Key). key.place < length ways) keys (λ key h. h.within) of;
      apart = places-apart ways keys of stay.exchanged.live.apart;
      few = unstruck-length dp k t region ways keys all;
    }

module _ (dp : Dp) (k : ℕ) (region : RegionView) (ways : List Way) (keys : List Key) (h : AreListed dp k region ways keys) where
  pub listed-live : Each (λ (key : Key). IsLive region key.row) keys
  listed-live = Each-then (IsKeyIn dp k region) (λ (key : Key). IsLive region key.row) keys (λ key g. g.live) h.known

  pub listed-zeros : (live : ℕ) → ((s : List ℤ) → IsStateOf dp k s → HasZeros live s) → Each (λ (key : Key). HasZeros live (held_row region key.row)) keys
  listed-zeros live zeros = Each-then (IsKeyIn dp k region) (λ (key : Key). HasZeros live (held_row region key.row)) keys (λ key g. zeros (held_row region key.row) g.state) h.known

  pub listed-within : (n : ℕ) → length ways ≤ n → Each (λ (key : Key). key.place < n) keys
  listed-within n few = Each-then (λ (key : Key). key.place < length ways) (λ (key : Key). key.place < n) keys (λ key low. omega arith) h.within

  pub listed-nodes : IsLawful dp → region.words ≡ dp.words → Each (IsKeyNode dp k region) keys
  listed-nodes laws words = Each-then (IsKeyIn dp k region) (IsKeyNode dp k region) keys (λ key g. (
      let is = held-is region key.row g.live.0 g.live.1 in
      record {
        row = record {
          found = record { found = g.live.1 ∙ ap (λ (r : List ℤ). Some (Some r)) (sym is); size = laws.sizes.cells k (held_row region key.row) g.state ∙ sym words };
          state = g.state;
        };
        ranked = g.rank;
        near = g.value;
      })) h.known

  -- in another order
  pub listed-moved : (moved : List Key) → IsPermutation keys moved → AreListed dp k region ways moved
  listed-moved moved perm =
      let long = length_permutation keys moved perm in
      let few = h.few in
      record {
        known = each-permutation keys moved perm (IsKeyIn dp k region) h.known;
        live = live-moved region (key_rows keys) (key_rows moved) (IsPermutation-map (λ (key : Key). key.row) keys moved perm) h.live;
        within = each-permutation keys moved perm (λ (key : Key). key.place < length ways) h.within;
        apart = keys-permutation nat_eq nat_eq-is nat_eq-self (λ (key : Key). key.place) keys moved perm h.apart;
        few = omega arith;
      }
