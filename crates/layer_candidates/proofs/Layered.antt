-- A layer made from the one above it.
use Rattle.std.proofs.Common.{◌≡◌, ℕ, zero, suc, ◌+◌, ◌<◌, ◌≤◌, nat_le, nat_lt, ℤ, Bool, true, false, cond, List, [], ◌∷◌, ◌++◌, length, map, take, filter, Option, append_assoc, ◌⊎◌, inl, inr, refl, sym, ap, ap₂, subst, ◌∙◌, arith}
use Rattle.std.proofs.lemmas.Bool.Decides.{nat_tests}
use Rattle.std.proofs.lemmas.List.{append-nil, length_push, get_or_append_left}
use Rattle.std.proofs.Math.Seq.{get_or-append_seam}
use Rattle.std.proofs.lemmas.List.Sorted.{IsPermutation-map}
use Rattle.dp_model.specs.Decisions.{below}
use Rattle.dp_model.specs.Dp.{Dp}
use Rattle.dp_model.specs.Gaps.{IsStateOf}
use Rattle.dp_model.specs.Lists.{Each}
use Rattle.dp_model.specs.Reached.{Reached}
use Rattle.dp_model.proofs.Members.{Has, Has-append-left, Has-append-right, each-has, Each-append, Each-then}
use Rattle.dp_laws.specs.Restricted.Beam.{whole_layer}
use Rattle.dp_laws.specs.Restricted.Extensions.{extended, extensions, candidates, all_joined}
use Rattle.dp_laws.specs.Restricted.Leaders.{unstruck, undominated}
use Rattle.dp_laws.specs.Restricted.ReductionOrder.{in_order}
use Rattle.dp_laws.proofs.Restricted.Keeping.{each-all_joined}
use Rattle.layer_candidates.specs.declared.key.Key.{Key}
use Rattle.layer_candidates.specs.declared.member.Member.{Member}
use Rattle.layer_candidates.specs.declared.step.Step.{Step}
use Rattle.layer_candidates.specs.declared.way.Way.{Way}
use Rattle.layer_candidates.specs.KeyOrder.{key_rows, all_of, IsKeyOf}
use Rattle.layer_candidates.specs.HeldRows.{AreLive, HasExchanged, AreSame, HasLeft, held_row}
use Rattle.layer_candidates.specs.Layering.{AreListed}
use Rattle.layer_candidates.specs.Members.{member_rows, member_as, members_as, IsHeldAt}
use Rattle.layer_candidates.specs.Pruning.{keyed, all_keyed, unstruck_keys, IsKeyIn, IsOfWay, HasPruned}
use Rattle.layer_candidates.specs.Rows.{HasZeros}
use Rattle.layer_candidates.specs.Steps.{path_at, step_of, step_at, entered, AreBackward, IsReachedWithin}
use Rattle.row_region.specs.Layout.{table}
use Rattle.layer_candidates.specs.Ways.{way_at, rows_of, way_row, reached_at, all_reached, IsNearly, AreWays}
use Rattle.layer_candidates.proofs.Descended.{descended, entered-rows, entered-same}
use Rattle.layer_candidates.proofs.HeldRows.{held-same, way-each, exchange-then, left-moved}
use Rattle.layer_candidates.proofs.Joined.{last_or}
use Rattle.layer_candidates.proofs.Pruned.{keys-same, of-ways-same}
use Rattle.layer_candidates.proofs.Sorted.{key-row, key-places-of, sorted-same, unstruck-of, unstruck-rows, unstruck-are, unstruck-in-order}
use Rattle.row_region.specs.Region.{RegionView, IsLive}

-- Each way's parent is a member of the layer above.

pub has-table : {X : Type 0} (f : ℕ → X) (n i : ℕ) → i < n → Has (f i) (table f n)
has-table f zero i less = absurd (omega arith)
has-table f (suc n) i less = elim (last_or i n less) as (λ _. Has (f i) (table f (suc n))) [
  | inl e ↦ Has-append-right (f i) (table f n) (f n ∷ []) (inl (ap f (sym e)))
  | inr low ↦ Has-append-left (f i) (table f n) (f n ∷ []) (has-table f n i low)
]

-- a path that tells the steps up to the n-th from the later ones
abbrev telling : ℕ → ℕ → List ℕ
telling n i = cond (nat_le i n) (0 ∷ []) []

abbrev IsTold : Reached → Type 0
IsTold r = length r.decisions ≡ 2

told : (n i d : ℕ) → i ≤ n → length (telling n i ++ d ∷ []) ≡ 2
told n i d le = let yes : nat_le i n ≡ true = grind (arith, nat_tests) in ap (λ b. length (cond b (0 ∷ []) [] ++ d ∷ [])) yes

told-back : (n i d : ℕ) → length (telling n i ++ d ∷ []) ≡ 2 → i ≤ n
told-back n i d h = go (nat_le i n) refl
  where
    go : (b : Bool) → nat_le i n ≡ b → i ≤ n
    go true e = grind (arith, nat_tests)
    go false e = absurd (let one : length (telling n i ++ d ∷ []) ≡ 1 = ap (λ b. length (cond b (0 ∷ []) [] ++ d ∷ [])) e in omega arith)

module _ (dp : Dp) (k n : ℕ) (above : RegionView) where
  told-by : (m : Member) → m.step ≤ n → (ds : List ℕ) → Each IsTold (map (extended dp k (member_as (telling n) above m)) ds)
  told-by m low [] = tt
  told-by m low (d ∷ ds) = (told n m.step d low, told-by m low ds)

  told-all : (members : List Member) → Each (IsReachedWithin n) members → Each IsTold (candidates dp k (members_as (telling n) above members))
  told-all [] h = tt
  told-all (m ∷ members) h =
      Each-append IsTold (extensions dp k (member_as (telling n) above m)) (candidates dp k (members_as (telling n) above members))
      (told-by m h.0 (filter (dp.allowed k (held_row above m.row)) (below (dp.choices k)))) (told-all members h.1)

  pub parents-within : (members : List Member) (row : ℕ → List ℤ) (ways : List Way) → Each (IsReachedWithin n) members
      → ((paths : ℕ → List ℕ) → all_reached paths row ways ≡ all_joined [] (candidates dp k (members_as paths above members)))
      → (i : ℕ) → i < length ways → (way_at ways i).parent ≤ n
  parents-within members row ways h list i less =
      let all : Each IsTold (all_reached (telling n) row ways) =
      subst (Each IsTold) (sym (list (telling n))) (each-all_joined IsTold [] (candidates dp k (members_as (telling n) above members)) tt (told-all members h)) in
      told-back n (way_at ways i).parent (way_at ways i).decision
      (each-has IsTold (all_reached (telling n) row ways) (reached_at (telling n) row ways i) all (has-table (reached_at (telling n) row ways) (length ways) i less))

-- Keys.

module _ (dp : Dp) (k : ℕ) (region : RegionView) (ways : List Way) where
  pub key-in : AreWays dp k (way_row region ways) ways → Each (IsLive region) (rows_of ways) → (keys : List Key) → Each (IsKeyOf ways) keys → Each (IsKeyIn dp k region) keys
  key-in good live keys all = Each-then (IsKeyOf ways) (IsKeyIn dp k region) keys (λ key h. (
      let way = good key.place h.within in
      let row = key-row region ways key h in
      record {
        live = subst (IsLive region) (sym (ap (λ (x : Key). x.row) h.is)) (way-each (IsLive region) ways key.place live h.within);
        state = subst (IsStateOf dp k) row way.state;
        rank = ap (λ (x : Key). x.rank) h.is ∙ (way.rank ∙ ap (dp.rank k) row);
        value = subst IsNearly (ap (λ (x : Key). x.value) (sym h.is)) way.value;
      })) all

-- keys whose rows stay stand for the prefixes of their ways
keyed-of : (paths : ℕ → List ℕ) (old new : RegionView) (ways : List Way) (keys : List Key) → Each (IsKeyOf ways) keys → Each (λ key. held_row new key.row ≡ held_row old key.row) keys
    → all_keyed paths new ways keys ≡ all_of paths (way_row old ways) ways keys
keyed-of paths old new ways [] h same = refl
keyed-of paths old new ways (key ∷ keys) h same =
    ap₂ (λ (r : Reached) rs. r ∷ rs) (ap₂ (λ v r. record (keyed paths new ways key) { value = v; row = r }) (ap (λ (x : Key). x.value) h.0.is) (same.0 ∙ sym (key-row old ways key h.0))) (keyed-of paths old new ways keys h.1 same.1)

pub of-ways : (dp : Dp) (k : ℕ) (old new : RegionView) (ways : List Way) → AreWays dp k (way_row old ways) ways → (keys : List Key) → Each (IsKeyOf ways) keys → Each (λ key. held_row new key.row ≡ held_row old key.row) keys → Each (IsOfWay dp k new ways) keys
of-ways dp k old new ways good [] of same = tt
of-ways dp k old new ways good (key ∷ keys) of same = (
  record { within = of.0.within; hash = (good key.place of.0.within).hash ∙ ap (dp.hash k) (key-row old ways key of.0 ∙ sym same.0) },
  of-ways dp k old new ways good keys of.1 same.1,
)

pub held-each : (dp : Dp) (k n : ℕ) (region : RegionView) (ways : List Way) (keys : List Key) → Each (IsKeyIn dp k region) keys → Each (IsOfWay dp k region ways) keys → Each (IsHeldAt dp k region) (entered ways n keys)
held-each dp k n region ways [] h of = tt
held-each dp k n region ways (key ∷ keys) h of = (record { live = h.0.live; state = h.0.state; rank = h.0.rank; hash = of.0.hash }, held-each dp k (n + 1) region ways keys h.1 of.1)

each-row : (P : ℕ → Type 0) (keys : List Key) → Each P (key_rows keys) → Each (λ key. P key.row) keys
each-row P [] h = tt
each-row P (key ∷ keys) h = (h.0, each-row P keys h.1)

pub rows-same : (old new : RegionView) (keys : List Key) → AreSame old new (key_rows keys) → Each (λ key. IsLive old key.row) keys → Each (λ key. held_row new key.row ≡ held_row old key.row) keys
rows-same old new [] same live = tt
rows-same old new (key ∷ keys) same live = (held-same old new key.row live.0 same.0, rows-same old new keys same.1 live.1)

zeros-same : (old new : RegionView) (live : ℕ) (keys : List Key) → Each (λ key. held_row new key.row ≡ held_row old key.row) keys → Each (λ key. HasZeros live (held_row old key.row)) keys → Each (λ key. HasZeros live (held_row new key.row)) keys
zeros-same old new live [] same zeros = tt
zeros-same old new live (key ∷ keys) same zeros = (subst (HasZeros live) (sym same.0) zeros.0, zeros-same old new live keys same.1 zeros.1)

-- The whole layer.

-- the keys that are not struck can be put in order
pub unstruck-live : (r1 r2 : RegionView) (places : List ℕ) (keys : List Key) → HasLeft r1 places r2 (key_rows keys) → Each (λ key. IsLive r2 key.row) keys
unstruck-live r1 r2 places keys struck = each-row (IsLive r2) keys struck.exchanged.live.live

pub unstruck-zeros : (dp : Dp) (k : ℕ) (t : Option ℤ) (r1 r2 : RegionView) (ways : List Way) (live : ℕ) → Each (IsLive r1) (rows_of ways) → HasLeft r1 (rows_of ways) r2 (key_rows (unstruck_keys dp k t r1 ways))
    → ((i : ℕ) → i < length ways → HasZeros live (way_row r1 ways i)) → Each (λ key. HasZeros live (held_row r2 key.row)) (unstruck_keys dp k t r1 ways)
unstruck-zeros dp k t r1 r2 ways live held struck zeros =
    let keys = unstruck_keys dp k t r1 ways in
    zeros-same r1 r2 live keys (rows-same r1 r2 keys struck.same (key-places-of (IsLive r1) ways keys (unstruck-of dp k t r1 ways) held)) (unstruck-rows dp k t r1 ways (HasZeros live) zeros)

module _ (dp : Dp) (k : ℕ) (t : Option ℤ) (above r1 r2 : RegionView) (members : List Member) (ways : List Way) (keys : List Key) (h : AreListed dp k t above r1 r2 members ways keys) where
  pub layer-keys : Each (IsKeyOf ways) keys
  layer-keys = unstruck-are dp (k + 1) t r1 ways keys h.all

  ordered : HasLeft r1 (rows_of ways) r2 (key_rows keys)
  ordered =
      let unstruck = unstruck_keys dp (k + 1) t r1 ways in
      left-moved r1 r2 (rows_of ways) (key_rows unstruck) (key_rows keys) (IsPermutation-map (λ (key : Key). key.row) unstruck keys h.all) h.struck

  pub layer-live : AreLive r2 (key_rows keys)
  layer-live = ordered.exchanged.live

  keys-still : Each (λ key. held_row r2 key.row ≡ held_row r1 key.row) keys
  keys-still = rows-same r1 r2 keys ordered.same (key-places-of (IsLive r1) ways keys layer-keys h.exchanged.live.live)

  pub layer-in : Each (IsKeyIn dp (k + 1) r2) keys
  layer-in = keys-same dp (k + 1) r1 r2 keys ordered.same (key-in dp (k + 1) r1 ways h.distinct.good h.exchanged.live.live keys layer-keys)

  pub layer-of : Each (IsOfWay dp (k + 1) r2 ways) keys
  layer-of = of-ways dp (k + 1) r1 r2 ways h.distinct.good keys layer-keys keys-still

  pub whole : (paths : ℕ → List ℕ) → undominated dp (k + 1) [] (all_keyed paths r2 ways keys) ≡ whole_layer dp k t (members_as paths above members)
  whole paths =
      let sorted = sorted-same (held_row r2) (held_row r1) keys (Each-then (λ (key : Key). held_row r2 key.row ≡ held_row r1 key.row) (λ (key : Key). held_row r1 key.row ≡ held_row r2 key.row) keys (λ key e. sym e) keys-still) h.sorted in
      ap (undominated dp (k + 1) []) (keyed-of paths r1 r2 ways keys layer-keys keys-still
      ∙ (unstruck-in-order dp (k + 1) t r1 ways keys h.all h.distinct.apart h.distinct.good sorted paths
      ∙ ap (λ rs. unstruck dp (k + 1) t (in_order dp (k + 1) rs)) (h.list paths)))

  module _ (most : ℕ) (r3 : RegionView) (kept : List Key) (more : Bool) (done : HasPruned dp (k + 1) most r2 keys kept more) (left : HasLeft r2 (key_rows keys) r3 (key_rows kept)) (steps : List Step) where
    kept-of : Each (IsOfWay dp (k + 1) r2 ways) kept
    kept-of = done.own ways layer-of

    pub kept-places : Each (λ key. key.place < length ways) kept
    kept-places = Each-then (IsOfWay dp (k + 1) r2 ways) (λ key. key.place < length ways) kept (λ key h. h.within) kept-of

    parents-low : Each (IsReachedWithin (length steps)) members → Each (λ key. (way_at ways key.place).parent ≤ length steps) kept
    parents-low reached = Each-then (λ (key : Key). key.place < length ways) (λ (key : Key). (way_at ways key.place).parent ≤ length steps) kept
        (λ key low. parents-within dp k (length steps) above members (way_row r1 ways) ways reached h.list key.place low) kept-places

    pub next-list : Each (IsReachedWithin (length steps)) members → (prefix : List ℕ) → members_as (path_at prefix (steps ++ map (step_of ways) kept)) r3 (entered ways (length steps) kept)
        ≡ take most (whole_layer dp k t (members_as (path_at prefix steps) above members))
    next-list reached prefix =
        let live = Each-then (IsKeyIn dp (k + 1) r2) (λ (key : Key). IsLive r2 key.row) kept (λ key h. h.live) done.within in
        entered-same ways (path_at prefix (steps ++ map (step_of ways) kept)) r2 r3 (length steps) kept left.same live
        ∙ (descended prefix r2 ways steps kept (parents-low reached) ∙ (done.list (path_at prefix steps) ways ∙ ap (take most) (whole (path_at prefix steps))))

    pub next-more : (prefix : List ℕ) → more ≡ nat_lt most (length (whole_layer dp k t (members_as (path_at prefix steps) above members)))
    next-more prefix = done.more_stay (path_at prefix steps) ways ∙ ap (λ l. nat_lt most (length l)) (whole (path_at prefix steps))

    pub next-held : Each (IsHeldAt dp (k + 1) r3) (entered ways (length steps) kept)
    next-held =
        held-each dp (k + 1) (length steps) r3 ways kept (keys-same dp (k + 1) r2 r3 kept left.same done.within)
        (of-ways-same dp (k + 1) r2 r3 ways kept left.same done.within kept-of)

    pub next-exchanged : HasExchanged above (member_rows members) r3 (member_rows (entered ways (length steps) kept))
    next-exchanged =
        subst (HasExchanged above (member_rows members) r3) (sym (entered-rows ways (length steps) kept))
        (exchange-then above r2 r3 (member_rows members) (key_rows keys) (key_rows kept) (exchange-then above r1 r2 (member_rows members) (rows_of ways) (key_rows keys) h.exchanged ordered.exchanged) left.exchanged)

    pub next-backward : Each (IsReachedWithin (length steps)) members → AreBackward steps → AreBackward (steps ++ map (step_of ways) kept)
    next-backward reached back = following steps kept (parents-low reached) back
      where
        following : (before : List Step) (keys : List Key) → Each (λ key. (way_at ways key.place).parent ≤ length before) keys → AreBackward before → AreBackward (before ++ map (step_of ways) keys)
        following before [] low back = subst AreBackward (sym (append-nil before)) back
        following before (key ∷ keys) low back =
            let s = step_of ways key in
            let longer : length (before ++ s ∷ []) ≡ length before + 1 = length_push before s in
            subst AreBackward (append_assoc before (s ∷ []) (map (step_of ways) keys))
            (following (before ++ s ∷ []) keys (Each-then (λ (key : Key). (way_at ways key.place).parent ≤ length before) (λ (key : Key). (way_at ways key.place).parent ≤ length (before ++ s ∷ [])) keys (λ key le. omega arith) low.1)
            (λ j less. one before s low.0 back j (last_or j (length before) (omega arith))))
          where
            one : (before : List Step) (s : Step) → s.before ≤ length before → AreBackward before → (j : ℕ) → (j ≡ length before) ⊎ (j < length before) → (step_at (before ++ s ∷ []) j).before ≤ j
            one before s le back j (inl e) = subst (λ (i : ℕ). (step_at (before ++ s ∷ []) i).before ≤ i) (sym e) (subst (λ (x : Step). x.before ≤ length before) (sym (get_or-append_seam before s [] _)) le)
            one before s le back j (inr less) = subst (λ (x : Step). x.before ≤ j) (sym (get_or_append_left before (s ∷ []) _ j less)) (back j less)
