-- Keys that are taken out, or stay, one after another.
use Rattle.std.proofs.Common.{◌≡◌, ℕ, zero, suc, ◌+◌, ◌<◌, ◌≤◌, nat_le, nat_lt, ℤ, pos, ◌+ℤ◌, ◌-ℤ◌, int_le, Bool, true, false, cond, ◌||◌, List, [], ◌∷◌, ◌++◌, length, take, drop, get_or, slice_get, Option, Some, None, is_some, refl, sym, ap, ap₂, subst, ◌∙◌, append_assoc, arith}
use Rattle.std.proofs.lemmas.Int.{ints}
use Rattle.std.proofs.lemmas.Bool.Decides.{nat_tests}
use Rattle.std.proofs.lemmas.List.{map-append, length-map, drop_all, drop_more, length_push, length-append, take_all, take-append-le, length-take-le}
use Rattle.std.proofs.Math.Seq.{take-append_seam}
use Rattle.dp_model.specs.Dp.{Dp}
use Rattle.dp_model.specs.Gaps.{covers_at, within, IsStateOf}
use Rattle.dp_model.specs.Lists.{Each}
use Rattle.dp_model.specs.Reached.{Reached}
use Rattle.dp_model.proofs.Members.{Each-append}
use Rattle.dp_laws.proofs.Lists.{each-take}
use Rattle.dp_laws.specs.Restricted.Leaders.{dominated, undominated}
use Rattle.dp_model.specs.declared.limits.TheConstants.{MOST_LEADERS}
use Rattle.layer_candidates.specs.declared.key.Key.{Key}
use Rattle.layer_candidates.specs.declared.way.Way.{Way}
use Rattle.layer_candidates.specs.HeldRows.{AreSame, HasLeft, held_row}
use Rattle.layer_candidates.specs.KeyOrder.{key_at, key_rows}
use Rattle.layer_candidates.specs.Pruning.{keyed, all_keyed, IsKeyIn, IsOfWay, led_by, ArePruned, HasPruned}
use Rattle.layer_candidates.specs.Ways.{rows_of, way_row, AreWays}
use Rattle.layer_candidates.proofs.HeldRows.{each-here, each-left, each-right, held-same, way-each}
use Rattle.row_region.specs.Region.{RegionView, IsLive}

abbrev pub none : Key
none = record { value = pos 0; rank = pos 0; place = 0; row = 0 }

-- Keys whose rows stay.

module _ (dp : Dp) (k : ℕ) (old new : RegionView) where
  key-same : (key : Key) → slice_get new.rows key.row ≡ slice_get old.rows key.row → IsKeyIn dp k old key → IsKeyIn dp k new key
  key-same key same h =
      let row : held_row new key.row ≡ held_row old key.row = held-same old new key.row h.live same in
      record {
        live = (h.live.0, same ∙ h.live.1);
        state = subst (IsStateOf dp k) (sym row) h.state;
        rank = h.rank ∙ ap (dp.rank k) (sym row);
        value = h.value;
      }

  pub keys-same : (keys : List Key) → AreSame old new (key_rows keys) → Each (IsKeyIn dp k old) keys → Each (IsKeyIn dp k new) keys
  keys-same [] same h = tt
  keys-same (key ∷ keys) same h = (key-same key same.0 h.0, keys-same keys same.1 h.1)

  way-same : (ways : List Way) (key : Key) → slice_get new.rows key.row ≡ slice_get old.rows key.row → IsKeyIn dp k old key → IsOfWay dp k old ways key → IsOfWay dp k new ways key
  way-same ways key same h of = record { within = of.within; hash = of.hash ∙ ap (dp.hash k) (sym (held-same old new key.row h.live same)) }

  pub of-ways-same : (ways : List Way) (keys : List Key) → AreSame old new (key_rows keys) → Each (IsKeyIn dp k old) keys → Each (IsOfWay dp k old ways) keys → Each (IsOfWay dp k new ways) keys
  of-ways-same ways [] same h of = tt
  of-ways-same ways (key ∷ keys) same h of = (way-same ways key same.0 h.0 of.0, of-ways-same ways keys same.1 h.1 of.1)

  -- the leaders dominate the same key
  pub led-same : (leaders : List Key) (key : Key) → AreSame old new (key_rows leaders) → Each (IsKeyIn dp k old) leaders → slice_get new.rows key.row ≡ slice_get old.rows key.row → IsKeyIn dp k old key
      → led_by dp k new leaders key ≡ led_by dp k old leaders key
  led-same [] key same all stays one = refl
  led-same (a ∷ leaders) key same all stays one =
      let first = ap₂ (λ x y. covers_at (dp.gap k x y) a.value key.value) (held-same old new a.row all.0.live same.0) (held-same old new key.row one.live stays) in
      ap₂ (λ b c. b || c) first (led-same leaders key same.1 all.1 stays one)

-- a key more stays, of which the row was the next one
pub rows-push : (keys : List Key) (key : Key) (rest : List ℕ) → key_rows (keys ++ key ∷ []) ++ rest ≡ key_rows keys ++ key.row ∷ rest
rows-push keys key rest = ap (λ (l : List ℕ). l ++ rest) (map-append (λ (x : Key). x.row) keys (key ∷ [])) ∙ append_assoc (key_rows keys) (key.row ∷ []) rest

-- the key of a way, where the rows of the later ways stay
pub key-of-way : (dp : Dp) (k : ℕ) (old region : RegionView) (ways : List Way) (i : ℕ) (front : List ℕ) → AreWays dp k (way_row old ways) ways → Each (IsLive old) (rows_of ways) → i < length ways
    → AreSame old region (front ++ rows_of (drop i ways)) → IsKeyIn dp k region (key_at ways i) × (held_row region (key_at ways i).row ≡ held_row old (key_at ways i).row)
key-of-way dp k old region ways i front good live less same =
    let key = key_at ways i in
    let way = good i less in
    let here : IsLive old key.row = way-each (IsLive old) ways i live less in
    let next : rows_of (drop i ways) ≡ key.row ∷ rows_of (drop (i + 1) ways) = ap rows_of (drop_more ways i _ less) in
    let stays = (subst (AreSame old region) next (each-right (λ (p : ℕ). slice_get region.rows p ≡ slice_get old.rows p) front (rows_of (drop i ways)) same)).0 in
    (key-same dp k old region key stays (record { live = here; state = way.state; rank = way.rank; value = way.value }), held-same old region key.row here stays)

-- One leader.

compared : (g a v : ℤ) → int_le g (a -ℤ v) ≡ int_le (v +ℤ g) a
compared g a v = grind (arith, ints)

some-cond : (b : Bool) (g : ℤ) → is_some (cond b (Some g) None) ≡ b
some-cond true g = refl
some-cond false g = refl

pub covered : (gap : Option ℤ) (a v : ℤ) → is_some (within (a -ℤ v) gap) ≡ covers_at gap a v
covered None a v = refl
covered (Some g) a v = some-cond (int_le g (a -ℤ v)) g ∙ compared g a v

-- the leaders after a key that stays: it becomes one while there are fewer than `MOST_LEADERS`
abbrev with_leader : List Key → Key → List Key
with_leader leaders key = cond (nat_le MOST_LEADERS (length leaders)) leaders (leaders ++ key ∷ [])

module _ (dp : Dp) (k : ℕ) (region : RegionView) where
  pub led-keyed : (paths : ℕ → List ℕ) (ways : List Way) (leaders : List Key) (key : Key)
      → dominated dp k (all_keyed paths region ways leaders) (keyed paths region ways key) ≡ led_by dp k region leaders key
  led-keyed paths ways [] key = refl
  led-keyed paths ways (a ∷ leaders) key = ap (λ b. covers_at (dp.gap k (held_row region a.row) (held_row region key.row)) a.value key.value || b) (led-keyed paths ways leaders key)

  pub led-more : (leaders : List Key) (key : Key) (i : ℕ) (d : Key) → i < length leaders → led_by dp k region (drop i leaders) key
      ≡ (covers_at (dp.gap k (held_row region (get_or leaders i d).row) (held_row region key.row)) (get_or leaders i d).value key.value || led_by dp k region (drop (i + 1) leaders) key)
  led-more leaders key i d less = ap (λ l. led_by dp k region l key) (drop_more leaders i d less)

  pub led-end : (leaders : List Key) (key : Key) (i : ℕ) → length leaders ≤ i → led_by dp k region (drop i leaders) key ≡ false
  led-end leaders key i less = ap (λ l. led_by dp k region l key) (drop_all i leaders less)

  leaders-keyed : (paths : ℕ → List ℕ) (ways : List Way) (leaders : List Key) (key : Key)
      → all_keyed paths region ways (with_leader leaders key) ≡ cond (nat_le MOST_LEADERS (length (all_keyed paths region ways leaders))) (all_keyed paths region ways leaders) (all_keyed paths region ways leaders ++ keyed paths region ways key ∷ [])
  leaders-keyed paths ways leaders key =
      pushed (nat_le MOST_LEADERS (length leaders))
      ∙ ap (λ n. cond (nat_le MOST_LEADERS n) (all_keyed paths region ways leaders) (all_keyed paths region ways leaders ++ keyed paths region ways key ∷ [])) (sym (length-map leaders (keyed paths region ways)))
    where
      pushed : (b : Bool) → all_keyed paths region ways (cond b leaders (leaders ++ key ∷ [])) ≡ cond b (all_keyed paths region ways leaders) (all_keyed paths region ways leaders ++ keyed paths region ways key ∷ [])
      pushed true = refl
      pushed false = map-append (keyed paths region ways) leaders (key ∷ [])

-- the first ones of the keys that stay lead
leaders-first : (kept : List Key) (key : Key) → with_leader (take MOST_LEADERS kept) key ≡ take MOST_LEADERS (kept ++ key ∷ [])
leaders-first kept key = go (nat_le MOST_LEADERS (length kept)) refl
  where
    go : (b : Bool) → nat_le MOST_LEADERS (length kept) ≡ b → with_leader (take MOST_LEADERS kept) key ≡ take MOST_LEADERS (kept ++ key ∷ [])
    go true e =
        let many : MOST_LEADERS ≤ length kept = grind (arith, nat_tests) in
        let full : length (take MOST_LEADERS kept) ≡ MOST_LEADERS = length-take-le MOST_LEADERS kept many in
        ap (λ (n : ℕ). cond (nat_le MOST_LEADERS n) (take MOST_LEADERS kept) (take MOST_LEADERS kept ++ key ∷ [])) full ∙ sym (take-append-le MOST_LEADERS kept (key ∷ []) many)
    go false e =
        let few : length kept < MOST_LEADERS = grind (arith, nat_tests) in
        let longer = length_push kept key in
        ap (λ (l : List Key). cond (nat_le MOST_LEADERS (length l)) l (l ++ key ∷ [])) (take_all MOST_LEADERS kept (omega arith))
        ∙ (ap (λ b. cond b kept (kept ++ key ∷ [])) e ∙ sym (take_all MOST_LEADERS (kept ++ key ∷ []) (omega arith)))

-- One key is looked at: its row, and those of the leaders, are as they were.

first-same : (old new : RegionView) (n : ℕ) (keys : List Key) → AreSame old new (key_rows keys) → AreSame old new (key_rows (take n keys))
first-same old new zero keys same = tt
first-same old new (suc n) [] same = tt
first-same old new (suc n) (key ∷ keys) same = (same.0, first-same old new n keys same.1)

pub record IsLooked (dp : Dp) (k : ℕ) (old region : RegionView) (ways : List Way) (leaders : List Key) (key : Key) (before front following : List ℕ) : Type 0 where
  pub leading : Each (IsKeyIn dp k region) leaders
  pub leader_ways : Each (IsOfWay dp k region ways) leaders
  pub one : IsKeyIn dp k region key
  pub way : IsOfWay dp k region ways key
  pub led : led_by dp k region leaders key ≡ led_by dp k old leaders key
  pub left : HasLeft old before region (front ++ key.row ∷ following)

pub looked : (dp : Dp) (k most : ℕ) (old region : RegionView) (ways : List Way) (keys kept : List Key) (i : ℕ) → Each (IsKeyIn dp k old) keys → Each (IsOfWay dp k old ways) keys → i < length keys → ArePruned dp k most old keys kept i
    → HasLeft old (key_rows keys) region (key_rows kept ++ key_rows (drop i keys))
    → IsLooked dp k old region ways (take MOST_LEADERS kept) (get_or keys i none) (key_rows keys) (key_rows kept) (key_rows (drop (i + 1) keys))
looked dp k most old region ways keys kept i all of less h left =
    let key = get_or keys i none in
    let leaders = take MOST_LEADERS kept in
    let Same = λ (p : ℕ). slice_get region.rows p ≡ slice_get old.rows p in
    let next : key_rows (drop i keys) ≡ key.row ∷ key_rows (drop (i + 1) keys) = ap key_rows (drop_more keys i none less) in
    let now = subst (λ ps. HasLeft old (key_rows keys) region (key_rows kept ++ ps)) next left in
    let one = each-here (IsKeyIn dp k old) keys i none all less in
    let way = each-here (IsOfWay dp k old ways) keys i none of less in
    let stays = (each-right Same (key_rows kept) (key.row ∷ key_rows (drop (i + 1) keys)) now.same).0 in
    let same = first-same old region MOST_LEADERS kept (each-left Same (key_rows kept) (key_rows (drop i keys)) left.same) in
    let leading = each-take (IsKeyIn dp k old) MOST_LEADERS kept h.within in
    record {
      leading = keys-same dp k old region leaders same leading;
      leader_ways = of-ways-same dp k old region ways leaders same leading (each-take (IsOfWay dp k old ways) MOST_LEADERS kept (h.own ways of));
      one = key-same dp k old region key stays one;
      way = way-same dp k old region ways key stays one way;
      led = led-same dp k old region leaders key same leading stays one;
      left = now;
    }

-- One key.

-- a member that is dominated goes
goes : (dp : Dp) (k : ℕ) (ls : List Reached) (r : Reached) (rs : List Reached) → dominated dp k ls r ≡ true → undominated dp k ls (r ∷ rs) ≡ undominated dp k ls rs
goes dp k ls r rs out = ap (λ c. cond c [] (r ∷ []) ++ undominated dp k (cond (c || nat_le MOST_LEADERS (length ls)) ls (ls ++ r ∷ [])) rs) out

-- and another one stays
stays : (dp : Dp) (k : ℕ) (ls : List Reached) (r : Reached) (rs : List Reached) → dominated dp k ls r ≡ false → undominated dp k ls (r ∷ rs) ≡ r ∷ undominated dp k (cond (nat_le MOST_LEADERS (length ls)) ls (ls ++ r ∷ [])) rs
stays dp k ls r rs out = ap (λ c. cond c [] (r ∷ []) ++ undominated dp k (cond (c || nat_le MOST_LEADERS (length ls)) ls (ls ++ r ∷ [])) rs) out

module _ (dp : Dp) (k : ℕ) (most : ℕ) (region : RegionView) (keys kept : List Key) (i : ℕ) (d : Key)
    (h : ArePruned dp k most region keys kept i) (less : i < length keys) where
  abbrev key : Key
  key = get_or keys i d

  abbrev leaders : List Key
  leaders = take MOST_LEADERS kept

  abbrev later : (ℕ → List ℕ) → List Way → List Reached
  later paths ways = undominated dp k (all_keyed paths region ways (take MOST_LEADERS (kept ++ key ∷ []))) (all_keyed paths region ways (drop (i + 1) keys))

  next : (paths : ℕ → List ℕ) (ways : List Way) → all_keyed paths region ways (drop i keys) ≡ keyed paths region ways key ∷ all_keyed paths region ways (drop (i + 1) keys)
  next paths ways = ap (all_keyed paths region ways) (drop_more keys i d less)

  pub pruned-out : led_by dp k region leaders key ≡ true → ArePruned dp k most region keys kept (i + 1)
  pruned-out out =
      let low = h.few in
      record {
        list = λ paths ways. (
            let ls = all_keyed paths region ways leaders in
            let gone = goes dp k ls (keyed paths region ways key) (all_keyed paths region ways (drop (i + 1) keys)) (led-keyed dp k region paths ways leaders key ∙ out) in
            ap (λ l. all_keyed paths region ways kept ++ l) (sym (ap (λ l. undominated dp k ls l) (next paths ways) ∙ gone)) ∙ h.list paths ways);
        within = h.within;
        own = h.own;
        few = omega arith;
        most_stay = h.most_stay;
      }

  left : (paths : ℕ → List ℕ) (ways : List Way) → led_by dp k region leaders key ≡ false
      → undominated dp k (all_keyed paths region ways leaders) (all_keyed paths region ways (drop i keys))
      ≡ keyed paths region ways key ∷ later paths ways
  left paths ways out =
      let ls = all_keyed paths region ways leaders in
      let rest = all_keyed paths region ways (drop (i + 1) keys) in
      ap (λ l. undominated dp k ls l) (next paths ways)
      ∙ (stays dp k ls (keyed paths region ways key) rest (led-keyed dp k region paths ways leaders key ∙ out)
      ∙ ap (λ l. keyed paths region ways key ∷ undominated dp k l rest) (sym (leaders-keyed dp k region paths ways leaders key) ∙ ap (all_keyed paths region ways) (leaders-first kept key)))

  pub pruned-stays : led_by dp k region leaders key ≡ false → IsKeyIn dp k region key → length kept < most → ArePruned dp k most region keys (kept ++ key ∷ []) (i + 1)
  pruned-stays out one short =
      let low = h.few in
      let longer = length_push kept key in
      record {
        list = λ paths ways. (
            ap (λ l. l ++ later paths ways) (map-append (keyed paths region ways) kept (key ∷ []))
            ∙ (append_assoc (all_keyed paths region ways kept) (keyed paths region ways key ∷ []) (later paths ways)
            ∙ (ap (λ l. all_keyed paths region ways kept ++ l) (sym (left paths ways out)) ∙ h.list paths ways)));
        within = Each-append (IsKeyIn dp k region) kept (key ∷ []) h.within (one, tt);
        own = λ ways all. Each-append (IsOfWay dp k region ways) kept (key ∷ []) (h.own ways all) (each-here (IsOfWay dp k region ways) keys i d all less, tt);
        few = omega arith;
        most_stay = omega arith;
      }

  -- there is one more than may stay
  pub pruned-full : led_by dp k region leaders key ≡ false → length kept ≡ most → HasPruned dp k most region keys kept true
  pruned-full out full = record {
    list = λ paths ways. (
        let f = all_keyed paths region ways kept in
        let size : length f ≡ most = length-map kept (keyed paths region ways) ∙ full in
        sym (ap (take most) (whole paths ways) ∙ front f _ size));
    more_stay = λ paths ways. (
        let f = all_keyed paths region ways kept in
        let size : length f ≡ most = length-map kept (keyed paths region ways) ∙ full in
        sym (ap (λ l. nat_lt most (length l)) (whole paths ways) ∙ more f _ _ size));
    within = h.within;
    own = h.own;
    few = (let low = h.few in omega arith);
    most_stay = h.most_stay;
  }
    where
      whole : (paths : ℕ → List ℕ) (ways : List Way) → undominated dp k [] (all_keyed paths region ways keys) ≡ all_keyed paths region ways kept ++ (keyed paths region ways key ∷ later paths ways)
      whole paths ways = sym (h.list paths ways) ∙ ap (λ l. all_keyed paths region ways kept ++ l) (left paths ways out)

      front : (f rs : List Reached) → length f ≡ most → take most (f ++ rs) ≡ f
      front f rs size = ap (λ n. take n (f ++ rs)) (sym size) ∙ take-append_seam f rs

      more : (f : List Reached) (r : Reached) (rs : List Reached) → length f ≡ most → nat_lt most (length (f ++ r ∷ rs)) ≡ true
      more f r rs size = let sum = length-append f (r ∷ rs) in grind (arith, nat_tests)

pub pruned-none : (dp : Dp) (k : ℕ) (most : ℕ) (region : RegionView) (keys : List Key) → ArePruned dp k most region keys [] 0
pruned-none dp k most region keys = record { list = λ paths ways. refl; within = tt; own = λ ways all. tt; few = omega arith; most_stay = omega arith }

pub strictly : (p n : ℕ) → p ≤ n → (p ≡ n → ⊥) → p < n
strictly p n h k = grind arith
