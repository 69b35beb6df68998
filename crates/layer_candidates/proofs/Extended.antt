-- A layer is extended, decision by decision and member by member.
use Rattle.std.specs.Int.{IsPowerOfTwo}
use Rattle.std.proofs.Common.{◌≡◌, ℕ, zero, suc, ◌+◌, ◌<◌, ◌≤◌, ◌≢◌, ℤ, pos, ◌+ℤ◌, nat_eq, true, false, cond, List, [], ◌∷◌, ◌++◌, length, map, set, drop, get_or, None, replicate, ◌⊎◌, refl, sym, ap, subst, ◌∙◌, arith, add-one, IsTrue, length-append, inl, inr}
use Rattle.std.proofs.lemmas.Bool.Decides.{nat_tests}
use Rattle.std.proofs.lemmas.Int.{ints}
use Rattle.std.proofs.lemmas.List.{append-nil, map-append, length-replicate, get_or-replicate, length-map, drop_all, drop_more, drop-map, get_or_append_left}
use Rattle.std.proofs.lemmas.List.Sorted.{IsPermutation-cons, IsPermutation-sym, IsPermutation-to_front}
use Rattle.std.proofs.lemmas.List.Elements.{filter-append}
use Rattle.dp_model.specs.Decisions.{below}
use Rattle.dp_model.specs.Dp.{Dp, IsAllowed}
use Rattle.dp_model.specs.Gaps.{IsStateOf}
use Rattle.dp_model.specs.Laws.{IsLawful}
use Rattle.dp_model.specs.Lists.{Each}
use Rattle.dp_model.specs.Numbers.{IsSmall}
use Rattle.dp_model.proofs.Members.{Each-append}
use Rattle.dp_laws.specs.Restricted.Extensions.{extended, extensions, joined, all_joined, candidates}
use Rattle.dp_laws.proofs.Diagrams.Places.{length-below}
use Rattle.layer_candidates.specs.declared.way.Way.{Way}
use Rattle.layer_candidates.specs.declared.member.Member.{Member}
use Rattle.layer_candidates.specs.HeldRows.{held_row, AreLive, AreSame, HasExchanged, HasWritten}
use Rattle.layer_candidates.specs.Rows.{HasZeros}
use Rattle.layer_candidates.specs.Table.{HaveHash}
use Rattle.layer_candidates.specs.Ways.{rows_of, way_row, reached_by, all_reached, IsNear, IsNearly, IsWay, AllHaveZeros, AreHashed, AreWays, AreJoined}
use Rattle.layer_candidates.specs.Members.{member_rows, member_as, members_as, IsMemberOf}
use Rattle.layer_candidates.specs.Extending.{HasWayRoom, parent_as, all_allowed, HasExtended, AreExtended}
use Rattle.layer_candidates.proofs.HeldRows.{each-here, each-left, each-right, held-same, same-self, same-then, ways-same, exchange-self, exchange-then, exchange-moved, length-rows, put-same, exchange-put, given-same, exchange-give, written-here, written-beside, exchange-written}
use Rattle.layer_candidates.proofs.Joined.{last_or, all_joined_both, zeros-same, row-kept, joined-same, reached-same}
use Rattle.row_region.specs.Region.{RegionView, IsLive, HasPut}

-- A state is written at the spot.

pub record Written (dp : Dp) (k : ℕ) (s : List ℤ) (d : ℕ) (old new : RegionView) (spot : ℕ) (ways : List Way) : Type 0 where
  pub here : IsStateOf dp k s
  pub state : IsStateOf dp (k + 1) (dp.step k s d)
  pub row : held_row new spot ≡ dp.step k s d
  pub rows : (i : ℕ) → i < length ways → way_row new ways i ≡ way_row old ways i
  pub exchanged : HasExchanged old (spot ∷ rows_of ways) new (spot ∷ rows_of ways)

pub written : (dp : Dp) → IsLawful dp → (k : ℕ) (s : List ℤ) (d : ℕ) (old new : RegionView) (spot : ℕ) (ways : List Way) → IsTrue (dp.is_state k s) → IsAllowed dp k s d → AreLive old (spot ∷ rows_of ways)
    → HasWritten old spot (dp.step k s d) new → Written dp k s d old new spot ways
written dp laws k s d old new spot ways test allowed live h =
    let low = allowed.layer in
    let here : IsStateOf dp k s = record { layer = omega arith; test = test } in
    record {
      here = here;
      state = record { layer = omega arith; test = laws.states.step k s d here allowed };
      row = written-here old new spot (dp.step k s d) h live.live.0;
      rows = ways-same old new ways (written-beside old new spot (dp.step k s d) h (rows_of ways) live) live.live.1;
      exchanged = exchange-written old new spot (dp.step k s d) h (rows_of ways) live;
    }

-- the rows of the ways begin with zeros
pub rows-zeros : (dp : Dp) (k live : ℕ) (row : ℕ → List ℤ) (ways : List Way) → AllHaveZeros dp k live → AreWays dp k row ways → (i : ℕ) → i < length ways → HasZeros live (row i)
rows-zeros dp k live row ways zeros good i less = zeros (row i) (good i less).state

-- of rows that begin with zeros those have the hash of a state that have its live cells
pub have-hash : (dp : Dp) (k live : ℕ) (row : ℕ → List ℤ) (ways : List Way) (hashes : List ℕ) (state : List ℤ) (hash : ℕ) → AreHashed dp k row (length ways) hashes → ((i : ℕ) → i < length ways → HasZeros live (row i)) → HasZeros live state
    → hash ≡ dp.hash k state → HaveHash row live (length ways) (drop live state) hash hashes
have-hash dp k live row ways hashes state hash hashed zeros new is = λ i less e. hashed i less ∙ (ap (dp.hash k) (zeros-same live (row i) state (zeros i less) new e) ∙ sym is)

-- Where the row at the spot is kept, another one is the spot.

pub record IsSpotted (old new : RegionView) (spot spot2 : ℕ) (ways ways2 : List Way) : Type 0 where
  pub exchanged : HasExchanged old (spot ∷ rows_of ways) new (spot2 ∷ rows_of ways2)
  pub rows : (i : ℕ) → i < length ways2 → way_row new ways2 i ≡ way_row old ways2 i
  pub before : (i : ℕ) → i < length ways → way_row new ways2 i ≡ way_row old ways i

module _ (old new : RegionView) (spot spot2 : ℕ) (ways ways2 : List Way) (place : ℕ) (live : AreLive old (spot ∷ rows_of ways))
    (grown : ((place < length ways) × (length ways2 ≡ length ways)) ⊎ ((place ≡ length ways) × (length ways2 ≡ length ways + 1)))
    (is_new : place ≡ length ways → rows_of ways2 ≡ rows_of ways ++ spot ∷ []) (is_old : place < length ways → rows_of ways2 ≡ rows_of ways)
    (when_new : place ≡ length ways → (row : List ℤ) × (length row ≡ old.words) × HasPut old spot2 row new) (when_old : place < length ways → (new ≡ old) × (spot2 ≡ spot)) where
  spot-exchanged : HasExchanged old (spot ∷ rows_of ways) new (spot2 ∷ rows_of ways2)
  spot-exchanged = elim grown as (λ _. HasExchanged old (spot ∷ rows_of ways) new (spot2 ∷ rows_of ways2)) [
    | inl h ↦
        let same = when_old h.0 in
        subst (λ (r : RegionView). HasExchanged old (spot ∷ rows_of ways) r (spot2 ∷ rows_of ways2)) (sym same.0)
        (subst (λ (p : ℕ). HasExchanged old (spot ∷ rows_of ways) old (p ∷ rows_of ways2)) (sym same.1)
        (subst (λ (l : List ℕ). HasExchanged old (spot ∷ rows_of ways) old (spot ∷ l)) (sym (is_old h.0)) (exchange-self old (spot ∷ rows_of ways) live)))
    | inr h ↦
        let put = when_new h.0 in
        subst (λ (l : List ℕ). HasExchanged old (spot ∷ rows_of ways) new (spot2 ∷ l)) (sym (is_new h.0))
        (exchange-moved old new (spot ∷ rows_of ways) (spot2 ∷ (spot ∷ rows_of ways)) (spot2 ∷ (rows_of ways ++ spot ∷ []))
        (IsPermutation-cons spot2 (spot ∷ rows_of ways) (rows_of ways ++ spot ∷ []) (IsPermutation-sym (rows_of ways ++ spot ∷ []) (spot ∷ rows_of ways) (IsPermutation-to_front (rows_of ways) spot)))
        (exchange-put old new spot2 put.0 put.2 put.1 (spot ∷ rows_of ways) live))
  ]

  live2 : Each (IsLive old) (rows_of ways2)
  live2 = elim grown as (λ _. Each (IsLive old) (rows_of ways2)) [
    | inl h ↦ subst (Each (IsLive old)) (sym (is_old h.0)) live.live.1
    | inr h ↦ subst (Each (IsLive old)) (sym (is_new h.0)) (Each-append (IsLive old) (rows_of ways) (spot ∷ []) live.live.1 (live.live.0, tt))
  ]

  spot-same : AreSame old new (rows_of ways2)
  spot-same = elim grown as (λ _. AreSame old new (rows_of ways2)) [
    | inl h ↦ subst (λ (r : RegionView). AreSame old r (rows_of ways2)) (sym (when_old h.0).0) (same-self old (rows_of ways2))
    | inr h ↦ (let put = when_new h.0 in put-same old new spot2 put.0 put.2 put.1 (rows_of ways2) live2)
  ]

  spot-rows : (i : ℕ) → i < length ways2 → way_row new ways2 i ≡ way_row old ways2 i
  spot-rows = ways-same old new ways2 spot-same live2

  first-row : (i : ℕ) → i < length ways → get_or (rows_of ways2) i 0 ≡ get_or (rows_of ways) i 0
  first-row i less = elim grown as (λ _. get_or (rows_of ways2) i 0 ≡ get_or (rows_of ways) i 0) [
    | inl h ↦ ap (λ (l : List ℕ). get_or l i 0) (is_old h.0)
    | inr h ↦
        (let long = length-map ways (λ (w : Way). w.row) in
        ap (λ (l : List ℕ). get_or l i 0) (is_new h.0) ∙ get_or_append_left (rows_of ways) (spot ∷ []) 0 i (omega arith))
  ]

  spot-before : (i : ℕ) → i < length ways → way_row new ways2 i ≡ way_row old ways i
  spot-before i less =
      let longer : length ways ≤ length ways2 = elim grown as (λ _. length ways ≤ length ways2) [ inl h ↦ (let e = h.1 in omega arith) | inr h ↦ (let e = h.1 in omega arith) ] in
      spot-rows i (omega arith) ∙ row-kept old ways ways2 i less (omega arith) (first-row i less)

  spot-is : IsSpotted old new spot spot2 ways ways2
  spot-is = record { exchanged = spot-exchanged; rows = spot-rows; before = spot-before }

pub spotted : (old new : RegionView) (spot spot2 row : ℕ) (ways ways2 : List Way) (place count : ℕ) → AreLive old (spot ∷ rows_of ways) → row ≡ spot → count ≡ length ways
    → ((place < length ways) × (length ways2 ≡ length ways)) ⊎ ((place ≡ length ways) × (length ways2 ≡ length ways + 1))
    → (place ≡ length ways → rows_of ways2 ≡ rows_of ways ++ row ∷ []) → (place < length ways → rows_of ways2 ≡ rows_of ways)
    → (nat_eq place count ≡ true → (row : List ℤ) × (length row ≡ old.words) × HasPut old spot2 row new) → (nat_eq place count ≡ false → (new ≡ old) × (spot2 ≡ spot))
    → IsSpotted old new spot spot2 ways ways2
spotted old new spot spot2 row ways ways2 place count live row_is size grown is_new is_old kept left =
    spot-is old new spot spot2 ways ways2 place live grown (λ e. is_new e ∙ ap (λ (p : ℕ). rows_of ways ++ p ∷ []) row_is) is_old
    (λ e. kept (grind (arith, nat_tests))) (λ less. left (grind (arith, nat_tests)))

-- A way by an allowed decision.

pub near-sum : (v g : ℤ) → IsNear v → IsSmall g → IsNearly (v +ℤ g)
near-sum v g near small = record { low = omega (arith, ints); high = omega (arith, ints) }

pub is-way : (dp : Dp) → IsLawful dp → (k : ℕ) (s : List ℤ) (d : ℕ) (way : Way) (value : ℤ) → IsStateOf dp k s → IsAllowed dp k s d → IsNear value
    → way.value ≡ (value +ℤ dp.gain k s d) → way.rank ≡ dp.rank (k + 1) (dp.step k s d) → way.hash ≡ dp.hash (k + 1) (dp.step k s d) → IsWay dp (k + 1) (dp.step k s d) way
is-way dp laws k s d way value here allowed near is ranked hashed = record {
  state = record { layer = (let low = allowed.layer in omega arith); test = laws.states.step k s d here allowed };
  rank = ranked;
  hash = hashed;
  value = subst IsNearly (sym is) (near-sum value (dp.gain k s d) near (laws.sizes.gain k s d here allowed));
}

pub way-reaches : (dp : Dp) (k : ℕ) (paths : ℕ → List ℕ) (row s : List ℤ) (d step : ℕ) (way : Way) (value : ℤ) → row ≡ dp.step k s d → way.value ≡ (value +ℤ dp.gain k s d) → way.parent ≡ step → way.decision ≡ d
    → reached_by paths row way ≡ extended dp k (parent_as paths step s value) d
way-reaches dp k paths row s d step way value a b c e = cc

-- Decisions.

pub room-less : (m n cap cap2 : ℕ) (hashes hashes2 next next2 : List ℕ) → HasWayRoom n cap hashes next → m ≤ n → cap2 ≡ cap → length hashes2 ≡ length hashes → length next2 ≡ length next → HasWayRoom m cap2 hashes2 next2
room-less m n cap cap2 hashes hashes2 next next2 h few a b c =
    let two = h.ways_hold in let three = h.hashes_hold in let four = h.next_hold in let five = h.small in
    record { ways_hold = omega arith; hashes_hold = omega arith; next_hold = omega arith; small = omega arith }

module _ (dp : Dp) (k step : ℕ) (s : List ℤ) (value : ℤ) (live : ℕ) where
  -- no decision
  pub extended-none : (row : ℕ → List ℤ) (ways : List Way) (hashes heads next : List ℕ) → AreJoined dp (k + 1) row live ways hashes heads next
      → HasExtended dp k step s value [] live row ways row ways hashes heads next
  extended-none row ways hashes heads next j = record { joined = j; list = λ paths. refl; few = omega arith }

  -- one that is allowed
  pub extended-one : (d : ℕ) (row row2 : ℕ → List ℤ) (ways ways2 : List Way) (hashes heads next : List ℕ) → dp.allowed k s d ≡ true → AreJoined dp (k + 1) row2 live ways2 hashes heads next
      → ((paths : ℕ → List ℕ) → all_reached paths row2 ways2 ≡ joined (all_reached paths row ways) (extended dp k (parent_as paths step s value) d))
      → length ways2 ≤ length ways + 1
      → HasExtended dp k step s value (d ∷ []) live row ways row2 ways2 hashes heads next
  extended-one d row row2 ways ways2 hashes heads next test j list few = record {
    joined = j;
    list = λ paths. list paths ∙ sym (ap (λ b. all_joined (all_reached paths row ways) (map (extended dp k (parent_as paths step s value)) (cond b (d ∷ []) []))) test);
    few = few;
  }

  -- one that is not
  pub extended-same : (d : ℕ) (row : ℕ → List ℤ) (ways : List Way) (hashes heads next : List ℕ) → dp.allowed k s d ≡ false → AreJoined dp (k + 1) row live ways hashes heads next
      → HasExtended dp k step s value (d ∷ []) live row ways row ways hashes heads next
  extended-same d row ways hashes heads next test j = record {
    joined = j;
    list = λ paths. sym (ap (λ b. all_joined (all_reached paths row ways) (map (extended dp k (parent_as paths step s value)) (cond b (d ∷ []) []))) test);
    few = omega arith;
  }

  -- some, and then others
  extended-both : (ds es : List ℕ) (old_row row row2 : ℕ → List ℤ) (old_ways ways ways2 : List Way) (hashes heads next hashes2 heads2 next2 : List ℕ)
      → HasExtended dp k step s value ds live old_row old_ways row ways hashes heads next → HasExtended dp k step s value es live row ways row2 ways2 hashes2 heads2 next2
      → HasExtended dp k step s value (ds ++ es) live old_row old_ways row2 ways2 hashes2 heads2 next2
  extended-both ds es old_row row row2 old_ways ways ways2 hashes heads next hashes2 heads2 next2 g h =
      let sum = length-append ds es in
      let one = g.few in
      let two = h.few in
      record {
        joined = h.joined;
        list = λ paths. (
            let f = extended dp k (parent_as paths step s value) in
            let rs = all_reached paths old_row old_ways in
            h.list paths ∙ (ap (λ l. all_joined l (map f (all_allowed dp k s es))) (g.list paths)
            ∙ (sym (all_joined_both rs (map f (all_allowed dp k s ds)) (map f (all_allowed dp k s es)))
            ∙ ap (all_joined rs) (sym (ap (map f) (filter-append (dp.allowed k s) ds es) ∙ map-append f (all_allowed dp k s ds) (all_allowed dp k s es))))));
        few = omega arith;
      }

  -- those below n, and then n
  pub extended-next : (n : ℕ) (old_row row row2 : ℕ → List ℤ) (old_ways ways ways2 : List Way) (hashes heads next hashes2 heads2 next2 : List ℕ)
      → HasExtended dp k step s value (below n) live old_row old_ways row ways hashes heads next → HasExtended dp k step s value (n ∷ []) live row ways row2 ways2 hashes2 heads2 next2
      → HasExtended dp k step s value (below (n + 1)) live old_row old_ways row2 ways2 hashes2 heads2 next2
  extended-next n old_row row row2 old_ways ways ways2 hashes heads next hashes2 heads2 next2 g h =
      subst (λ l. HasExtended dp k step s value l live old_row old_ways row2 ways2 hashes2 heads2 next2) (sym (ap below (add-one n)))
      (extended-both (below n) (n ∷ []) old_row row row2 old_ways ways ways2 hashes heads next hashes2 heads2 next2 g h)

-- Decisions that are stepped over.

-- none of those from a number on is allowed
abbrev pub AreSkipped : Dp → ℕ → List ℤ → ℕ → ℕ → Type 0
AreSkipped dp k s from to = (d : ℕ) → from ≤ d → d < to → dp.allowed k s d ≡ false

pub allowed-skipped : (dp : Dp) (k : ℕ) (s : List ℤ) (from to : ℕ) → from ≤ to → AreSkipped dp k s from to → all_allowed dp k s (below to) ≡ all_allowed dp k s (below from)
allowed-skipped dp k s from zero on skipped = let e : from ≡ 0 = omega arith in ap (λ n. all_allowed dp k s (below n)) (sym e)
allowed-skipped dp k s from (suc to) on skipped =
    elim (last_or from (suc to) (omega arith)) [
      | inl e ↦ ap (λ n. all_allowed dp k s (below n)) (sym e)
      | inr less ↦
          filter-append (dp.allowed k s) (below to) (to ∷ [])
          ∙ (ap (λ b. all_allowed dp k s (below to) ++ cond b (to ∷ []) []) (skipped to (omega arith) (omega arith))
          ∙ (append-nil (all_allowed dp k s (below to)) ∙ allowed-skipped dp k s from to (omega arith) (λ d a b. skipped d a (omega arith))))
    ]

pub extended-skipped : (dp : Dp) (k step : ℕ) (s : List ℤ) (value : ℤ) (live from to : ℕ) (old_row row : ℕ → List ℤ) (old_ways ways : List Way) (hashes heads next : List ℕ) → from ≤ to → AreSkipped dp k s from to
    → HasExtended dp k step s value (below from) live old_row old_ways row ways hashes heads next → HasExtended dp k step s value (below to) live old_row old_ways row ways hashes heads next
extended-skipped dp k step s value live from to old_row row old_ways ways hashes heads next on skipped h =
    let few = h.few in let one = length-below from in let two = length-below to in
    record {
      joined = h.joined;
      list = λ paths. h.list paths ∙ ap (λ ds. all_joined (all_reached paths old_row old_ways) (map (extended dp k (parent_as paths step s value)) ds)) (sym (allowed-skipped dp k s from to on skipped));
      few = omega arith;
    }

-- A parent's decisions, one after another.

-- its ways by those below n were taken in, and the region has their rows, and the row at the spot
pub record IsExtending (dp : Dp) (k step : ℕ) (s : List ℤ) (value : ℤ) (live n : ℕ) (old : RegionView) (old_spot : ℕ) (old_ways : List Way) (region : RegionView) (spot : ℕ) (ways : List Way) (hashes heads next : List ℕ) : Type 0 where
  pub extended : HasExtended dp k step s value (below n) live (way_row old old_ways) old_ways (way_row region ways) ways hashes heads next
  pub exchanged : HasExchanged old (old_spot ∷ rows_of old_ways) region (spot ∷ rows_of ways)

module _ (dp : Dp) (k step : ℕ) (s : List ℤ) (value : ℤ) (live : ℕ) (old : RegionView) (old_spot : ℕ) (old_ways : List Way) where
  -- up to the first one that is not stepped over
  pub extending-first : (to : ℕ) (hashes heads next : List ℕ) → 0 ≤ to → AreSkipped dp k s 0 to → AreLive old (old_spot ∷ rows_of old_ways) → AreJoined dp (k + 1) (way_row old old_ways) live old_ways hashes heads next
      → IsExtending dp k step s value live to old old_spot old_ways old old_spot old_ways hashes heads next
  extending-first to hashes heads next on skipped held joined = record {
    extended = extended-skipped dp k step s value live 0 to (way_row old old_ways) (way_row old old_ways) old_ways old_ways hashes heads next on skipped
        (extended-none dp k step s value live (way_row old old_ways) old_ways hashes heads next joined);
    exchanged = exchange-self old (old_spot ∷ rows_of old_ways) held;
  }

  module _ (n : ℕ) (region : RegionView) (spot : ℕ) (ways : List Way) (hashes heads next : List ℕ) (h : IsExtending dp k step s value live n old old_spot old_ways region spot ways hashes heads next) where
    -- n, and up to the next one
    pub extending-more : (to : ℕ) (new : RegionView) (spot2 : ℕ) (ways2 : List Way) (hashes2 heads2 next2 : List ℕ) → n + 1 ≤ to → AreSkipped dp k s (n + 1) to
        → HasExtended dp k step s value (n ∷ []) live (way_row region ways) ways (way_row new ways2) ways2 hashes2 heads2 next2 → HasExchanged region (spot ∷ rows_of ways) new (spot2 ∷ rows_of ways2)
        → IsExtending dp k step s value live to old old_spot old_ways new spot2 ways2 hashes2 heads2 next2
    extending-more to new spot2 ways2 hashes2 heads2 next2 on skipped one x = record {
      extended = extended-skipped dp k step s value live (n + 1) to (way_row old old_ways) (way_row new ways2) old_ways ways2 hashes2 heads2 next2 on skipped
          (extended-next dp k step s value live n (way_row old old_ways) (way_row region ways) (way_row new ways2) old_ways ways ways2 hashes heads next hashes2 heads2 next2 h.extended one);
      exchanged = exchange-then old region new (old_spot ∷ rows_of old_ways) (spot ∷ rows_of ways) (spot2 ∷ rows_of ways2) h.exchanged x;
    }

    -- there is a free row for the next way, and room
    pub extending-spare : n < dp.choices k → dp.choices k ≤ old.spare → 0 < region.spare
    extending-spare less enough =
        let few = h.extended.few in
        let count = length-below n in
        let spare = h.exchanged.spare in
        let before = length-rows old_ways in
        let after = length-rows ways in
        omega arith

    pub extending-few : n < dp.choices k → length ways + 1 ≤ length old_ways + dp.choices k
    extending-few less =
        let few = h.extended.few in
        let count = length-below n in
        omega arith

    -- all of them
    pub extending-all : n ≤ dp.choices k → ¬ (n < dp.choices k) → HasExtended dp k step s value (below (dp.choices k)) live (way_row old old_ways) old_ways (way_row region ways) ways hashes heads next
    extending-all within past =
        let all : n ≡ dp.choices k = omega arith in
        subst (λ (m : ℕ). HasExtended dp k step s value (below m) live (way_row old old_ways) old_ways (way_row region ways) ways hashes heads next) all h.extended

-- Members.

abbrev pub no_member : Member
no_member = record { value = pos 0; rank = pos 0; hash = 0; row = 0; step = 0 }

-- a member's row was copied and given back, and those of the later ones stay
pub record HasMoved (old region new : RegionView) (all : List ℕ) (m : Member) (rest : List Member) (spot : ℕ) (ways : List Way) (s : List ℤ) : Type 0 where
  pub row : s ≡ held_row old m.row
  pub exchanged : HasExchanged old all new (member_rows rest ++ spot ∷ rows_of ways)
  pub same : AreSame old new (member_rows rest)
  pub rows : (i : ℕ) → i < length ways → way_row new ways i ≡ way_row region ways i

pub moved : (old region new : RegionView) (all : List ℕ) (m : Member) (rest : List Member) (spot : ℕ) (ways : List Way) (s : List ℤ) → IsLive old m.row
    → HasExchanged old all region (m.row ∷ (member_rows rest ++ spot ∷ rows_of ways)) → AreSame old region (m.row ∷ member_rows rest) → s ≡ held_row region m.row
    → new ≡ record region { rows = set region.rows m.row None; spare = region.spare + 1 } → HasMoved old region new all m rest spot ways s
moved old region new all m rest spot ways s live x same is given =
    let R = member_rows rest in
    let B = spot ∷ rows_of ways in
    let none = x.live.apart.0 in
    let each = x.live.live.1 in
    let differ = λ (q : ℕ). m.row ≢ q in
    record {
      row = is ∙ held-same old region m.row live same.0;
      exchanged = exchange-then old region new all (m.row ∷ (R ++ B)) (R ++ B) x (exchange-give region new m.row given (R ++ B) x.live);
      same = same-then old region new R same.1 (given-same region new m.row given R (each-left differ R B none) (each-left (IsLive region) R B each));
      rows = ways-same region new ways (given-same region new m.row given (rows_of ways) (each-right differ R B none).1 (each-right (IsLive region) R B each).1) (each-right (IsLive region) R B each).1;
    }

pub moved-at : (dp : Dp) (k : ℕ) (old region new : RegionView) (members : List Member) (i spot : ℕ) (ways : List Way) (s : List ℤ) → Each (IsMemberOf dp k old) members → i < length members
    → HasExchanged old (member_rows members) region (member_rows (drop i members) ++ spot ∷ rows_of ways) → AreSame old region (member_rows (drop i members)) → s ≡ held_row region (get_or members i no_member).row
    → new ≡ record region { rows = set region.rows (get_or members i no_member).row None; spare = region.spare + 1 }
    → HasMoved old region new (member_rows members) (get_or members i no_member) (drop (i + 1) members) spot ways s
moved-at dp k old region new members i spot ways s all less x same is given =
    let next = ap member_rows (drop_more members i no_member less) in
    moved old region new (member_rows members) (get_or members i no_member) (drop (i + 1) members) spot ways s (each-here (IsMemberOf dp k old) members i no_member all less).held.live
    (subst (λ ps. HasExchanged old (member_rows members) region (ps ++ spot ∷ rows_of ways)) next x) (subst (AreSame old region) next same) is given

pub members-start : (dp : Dp) (k : ℕ) (above : RegionView) (live : ℕ) (members : List Member) (row : ℕ → List ℤ) (hashes next : List ℕ) (size : ℕ) → IsPowerOfTwo size
    → AreExtended dp k 0 above live members row [] hashes (replicate size 0) next
members-start dp k above live members row hashes next size power = record {
  joined = record {
    table = record {
      hashes_size = omega arith;
      next_size = omega arith;
      slots = subst IsPowerOfTwo (sym (length-replicate {A = ℕ} size 0)) power;
      heads_are = λ slot less. get_or-replicate size slot 0 0 (let e : length (replicate {A = ℕ} size 0) ≡ size = length-replicate size 0 in omega arith);
      next_are = λ i less. absurd (omega arith);
    };
    hashed = λ i less. absurd (omega arith);
    apart = λ a b less within. absurd (omega arith);
    good = λ i less. absurd (omega arith);
  };
  list = λ paths. refl;
  few = omega arith;
}

-- where the rows of the ways stay
pub extended-same-rows : (dp : Dp) (k i : ℕ) (above : RegionView) (live : ℕ) (members : List Member) (row row2 : ℕ → List ℤ) (ways : List Way) (hashes heads next : List ℕ) → ((j : ℕ) → j < length ways → row2 j ≡ row j)
    → AreExtended dp k i above live members row ways hashes heads next → AreExtended dp k i above live members row2 ways hashes heads next
extended-same-rows dp k i above live members row row2 ways hashes heads next same h = record {
  joined = joined-same row row2 ways same dp (k + 1) live hashes heads next h.joined;
  list = λ paths. ap (λ l. all_joined l (candidates dp k (drop i (members_as paths above members)))) (reached-same row row2 ways same paths) ∙ h.list paths;
  few = h.few;
}

-- at the end the spot is given back
pub spot-given : (old region new : RegionView) (members : List Member) (i spot : ℕ) (ways : List Way) → i ≡ length members
    → HasExchanged old (member_rows members) region (member_rows (drop i members) ++ spot ∷ rows_of ways) → new ≡ record region { rows = set region.rows spot None; spare = region.spare + 1 }
    → HasExchanged old (member_rows members) new (rows_of ways) × ((j : ℕ) → j < length ways → way_row new ways j ≡ way_row region ways j)
spot-given old region new members i spot ways end x given =
    let none : drop i members ≡ [] = drop_all i members (omega arith) in
    let y = subst (λ l. HasExchanged old (member_rows members) region (member_rows l ++ spot ∷ rows_of ways)) none x in (
      exchange-then old region new (member_rows members) (spot ∷ rows_of ways) (rows_of ways) y (exchange-give region new spot given (rows_of ways) y.live),
      ways-same region new ways (given-same region new spot given (rows_of ways) y.live.apart.0 y.live.live.1) y.live.live.1,
    )

drop-members : (paths : ℕ → List ℕ) (above : RegionView) (members : List Member) (i : ℕ) (d : Member) → i < length members
    → drop i (members_as paths above members) ≡ member_as paths above (get_or members i d) ∷ drop (i + 1) (members_as paths above members)
drop-members paths above members i d less =
    let f = member_as paths above in
    drop-map f i members ∙ (ap (map f) (drop_more members i d less) ∙ ap (λ l. f (get_or members i d) ∷ l) (sym (drop-map f (i + 1) members)))

pub members-more : (dp : Dp) (k i : ℕ) (above : RegionView) (live : ℕ) (members : List Member) (d : Member) (s : List ℤ) (row row2 : ℕ → List ℤ) (ways ways2 : List Way) (hashes heads next hashes2 heads2 next2 : List ℕ)
    → AreExtended dp k i above live members row ways hashes heads next → i < length members → s ≡ held_row above (get_or members i d).row
    → HasExtended dp k (get_or members i d).step s (get_or members i d).value (below (dp.choices k)) live row ways row2 ways2 hashes2 heads2 next2
    → AreExtended dp k (i + 1) above live members row2 ways2 hashes2 heads2 next2
members-more dp k i above live members d s row row2 ways ways2 hashes heads next hashes2 heads2 next2 h less is e =
    let m = get_or members i d in
    let low = h.few in let more = e.few in let all = length-below (dp.choices k) in
    record {
      joined = e.joined;
      list = λ paths. (
          let L = members_as paths above members in
          let p = parent_as paths m.step s m.value in
          let same : p ≡ member_as paths above m = ap (λ r. parent_as paths m.step r m.value) is in
          ap (λ l. all_joined l (candidates dp k (drop (i + 1) L))) (e.list paths)
          ∙ (sym (all_joined_both (all_reached paths row ways) (extensions dp k p) (candidates dp k (drop (i + 1) L)))
          ∙ (ap (λ x. all_joined (all_reached paths row ways) (extensions dp k x ++ candidates dp k (drop (i + 1) L))) same
          ∙ (ap (λ l. all_joined (all_reached paths row ways) (candidates dp k l)) (sym (drop-members paths above members i d less)) ∙ h.list paths))));
      few = omega arith;
    }

pub members-all : (dp : Dp) (k i : ℕ) (above : RegionView) (live : ℕ) (members : List Member) (row : ℕ → List ℤ) (ways : List Way) (hashes heads next : List ℕ)
    → AreExtended dp k i above live members row ways hashes heads next → i ≡ length members
    → (paths : ℕ → List ℕ) → all_reached paths row ways ≡ all_joined [] (candidates dp k (members_as paths above members))
members-all dp k i above live members row ways hashes heads next h whole paths =
    let L = members_as paths above members in
    let none : drop i L ≡ [] = drop_all i L (let e = length-map members (member_as paths above) in omega arith) in
    ap (λ l. all_joined (all_reached paths row ways) (candidates dp k l)) (sym none) ∙ h.list paths
