-- What is struck of the keys, what is dominated of those in order, and what stays.
use Rattle.std.specs.Prelude.{◌≡◌, ℕ, ◌<◌, ◌≤◌, nat_lt, ℤ, Bool, false, not, ◌||◌, List, [], ◌∷◌, ◌++◌, length, map, filter, take, drop, Option}
use Rattle.dp_model.specs.Dp.{Dp}
use Rattle.dp_model.specs.Gaps.{IsStateOf, covers_at, is_struck_by}
use Rattle.dp_model.specs.Lists.{Each}
use Rattle.dp_model.specs.Reached.{Reached}
use Rattle.dp_model.specs.declared.limits.TheConstants.{MOST_LEADERS}
use Rattle.dp_laws.specs.Restricted.Leaders.{undominated}
use Rattle.layer_candidates.specs.declared.key.Key.{Key}
use Rattle.layer_candidates.specs.declared.way.Way.{Way}
use Rattle.layer_candidates.specs.HeldRows.{held_row}
use Rattle.layer_candidates.specs.KeyOrder.{keys_of}
use Rattle.layer_candidates.specs.Ways.{way_at, IsNearly}
use Rattle.row_region.specs.Region.{RegionView, IsLive}

-- the prefix of a key's way, with the key's value and row
abbrev pub keyed : (ℕ → List ℕ) → RegionView → List Way → Key → Reached
keyed paths region ways key = record {
  decisions = paths (way_at ways key.place).parent ++ (way_at ways key.place).decision ∷ [];
  row = held_row region key.row;
  value = key.value;
}

-- the ways of keys, with their paths and rows
abbrev pub all_keyed : (ℕ → List ℕ) → RegionView → List Way → List Key → List Reached
all_keyed paths region ways keys = map (keyed paths region ways) keys

-- a key of a state of the layer at depth k, whose row the region has, with its rank and a value that leaves room for gaps and rough bounds
pub record IsKeyIn (dp : Dp) (k : ℕ) (region : RegionView) (key : Key) : Type 0 where
  pub live : IsLive region key.row
  pub state : IsStateOf dp k (held_row region key.row)
  pub rank : key.rank ≡ dp.rank k (held_row region key.row)
  pub value : IsNearly key.value

-- the key is that of one of the ways, which has the hash of the key's row
pub record IsOfWay (dp : Dp) (k : ℕ) (region : RegionView) (ways : List Way) (key : Key) : Type 0 where
  pub within : key.place < length ways
  pub hash : (way_at ways key.place).hash ≡ dp.hash k (held_row region key.row)

-- whether one of the leaders dominates the key
abbrev pub led_by : Dp → ℕ → RegionView → List Key → Key → Bool
led_by dp k region [] key = false
led_by dp k region (a ∷ leaders) key =
    covers_at (dp.gap k (held_row region a.row) (held_row region key.row)) a.value key.value || led_by dp k region leaders key

-- whether the key is struck
abbrev pub struck : Dp → ℕ → Option ℤ → RegionView → Key → Bool
struck dp k t region key = is_struck_by key.value (dp.rough k (held_row region key.row)) t

-- the keys of the ways that are not struck
abbrev pub unstruck_keys : Dp → ℕ → Option ℤ → RegionView → List Way → List Key
unstruck_keys dp k t region ways = filter (λ key. not (struck dp k t region key)) (keys_of ways)

-- the first i keys were looked at: some of them stay, no more than `most`, of which the first ones lead
pub record ArePruned (dp : Dp) (k : ℕ) (most : ℕ) (region : RegionView) (keys kept : List Key) (i : ℕ) : Type 0 where
  pub list : (paths : ℕ → List ℕ) (ways : List Way) → all_keyed paths region ways kept
      ++ undominated dp k (all_keyed paths region ways (take MOST_LEADERS kept)) (all_keyed paths region ways (drop i keys))
      ≡ undominated dp k [] (all_keyed paths region ways keys)
  pub within : Each (IsKeyIn dp k region) kept
  pub own : (ways : List Way) → Each (IsOfWay dp k region ways) keys → Each (IsOfWay dp k region ways) kept
  pub few : length kept ≤ i
  pub most_stay : length kept ≤ most

-- of the keys that stay the first ones are kept, as many as `most`, and whether there are more
pub record HasPruned (dp : Dp) (k : ℕ) (most : ℕ) (region : RegionView) (keys kept : List Key) (more : Bool) : Type 0 where
  pub list : (paths : ℕ → List ℕ) (ways : List Way) → all_keyed paths region ways kept ≡ take most (undominated dp k [] (all_keyed paths region ways keys))
  pub more_stay : (paths : ℕ → List ℕ) (ways : List Way) → more ≡ nat_lt most (length (undominated dp k [] (all_keyed paths region ways keys)))
  pub within : Each (IsKeyIn dp k region) kept
  pub own : (ways : List Way) → Each (IsOfWay dp k region ways) keys → Each (IsOfWay dp k region ways) kept
  pub few : length kept ≤ length keys
  pub most_stay : length kept ≤ most
