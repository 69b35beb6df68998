-- A layer is extended: the ways to the next layer.
use Rattle.std.specs.Prelude.{◌≡◌, ℕ, ◌+◌, ◌*◌, ◌^◌, ◌<◌, ◌≤◌, ℤ, List, [], length, map, filter, drop}
use Rattle.dp_model.specs.Dp.{Dp}
use Rattle.dp_model.specs.Reached.{Reached}
use Rattle.dp_laws.specs.Restricted.Extensions.{extended, candidates, all_joined}
use Rattle.layer_candidates.specs.declared.way.Way.{Way}
use Rattle.layer_candidates.specs.declared.member.Member.{Member}
use Rattle.layer_candidates.specs.Members.{members_as}
use Rattle.layer_candidates.specs.Ways.{all_reached, AreJoined}
use Rattle.row_region.specs.Region.{RegionView}

-- there is memory for this many ways
pub record HasWayRoom (count ways_room : ℕ) (hashes next : List ℕ) : Type 0 where
  pub ways_hold : count ≤ ways_room
  pub hashes_hold : count ≤ length hashes
  pub next_hold : count ≤ length next
  pub small : count + 1 < 2 ^ 32

-- the parent that a step and a row stand for
abbrev pub parent_as : (ℕ → List ℕ) → ℕ → List ℤ → ℤ → Reached
parent_as paths step row value = record { decisions = paths step; row = row; value = value }

-- those of the decisions that are allowed in the state
abbrev pub all_allowed : Dp → ℕ → List ℤ → List ℕ → List ℕ
all_allowed dp k s decisions = filter (dp.allowed k s) decisions

-- a parent's ways by those of the decisions that are allowed were taken in
pub record HasExtended (dp : Dp) (k step : ℕ) (s : List ℤ) (value : ℤ) (decisions : List ℕ) (live : ℕ) (old_row : ℕ → List ℤ) (old_ways : List Way)
    (row : ℕ → List ℤ) (ways : List Way) (hashes heads next : List ℕ) : Type 0 where
  pub joined : AreJoined dp (k + 1) row live ways hashes heads next
  pub list : (paths : ℕ → List ℕ) → all_reached paths row ways
      ≡ all_joined (all_reached paths old_row old_ways) (map (extended dp k (parent_as paths step s value)) (all_allowed dp k s decisions))
  pub few : length ways ≤ length old_ways + length decisions

-- the ways of the first i members of a layer were taken in, whose rows the region `above` has
pub record AreExtended (dp : Dp) (k i : ℕ) (above : RegionView) (live : ℕ) (members : List Member)
    (row : ℕ → List ℤ) (ways : List Way) (hashes heads next : List ℕ) : Type 0 where
  pub joined : AreJoined dp (k + 1) row live ways hashes heads next
  pub list : (paths : ℕ → List ℕ) → all_joined (all_reached paths row ways) (candidates dp k (drop i (members_as paths above members)))
      ≡ all_joined [] (candidates dp k (members_as paths above members))
  pub few : length ways ≤ i * dp.choices k
