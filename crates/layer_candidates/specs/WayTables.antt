-- The ways to a layer in their table.
use Rattle.std.specs.Int.{IsPowerOfTwo}
use Rattle.std.specs.Prelude.{◌≡◌, ℕ, ◌≤◌, ℤ, List, [], length, replicate, vec_capacity}
use Rattle.dp_model.specs.Dp.{Dp}
use Rattle.layer_candidates.specs.declared.table.WayTable.{WayTable}
use Rattle.layer_candidates.specs.Extending.{HasWayRoom, HasExtended}
use Rattle.layer_candidates.specs.Ways.{rows_of, way_row, AreJoined}
use Rattle.row_region.specs.Region.{RegionView}

-- there is memory for the slots
pub record HasSlots (t : WayTable) : Type 0 where
  pub power : IsPowerOfTwo t.slots
  pub hold : t.slots ≤ vec_capacity t.heads

-- there is memory for this many ways and for the slots
pub record HasTableRoom (count : ℕ) (t : WayTable) : Type 0 where
  pub ways : HasWayRoom count (vec_capacity t.ways) t.hashes.items t.next.items
  pub slots : HasSlots t

-- the room stays
pub record KeepsTableRoom (old new : WayTable) : Type 0 where
  pub ways : vec_capacity new.ways ≡ vec_capacity old.ways
  pub hashes : length new.hashes.items ≡ length old.hashes.items
  pub next : length new.next.items ≡ length old.next.items
  pub slots : new.slots ≡ old.slots
  pub heads : vec_capacity old.heads ≤ vec_capacity new.heads

-- it has no ways, and each of its slots is empty
pub record HasNoWays (t : WayTable) : Type 0 where
  pub ways : t.ways.items ≡ []
  pub power : IsPowerOfTwo (length t.heads.items)
  pub heads : t.heads.items ≡ replicate (length t.heads.items) 0

-- its ways lead to different states of the layer at depth k, whose rows the region has, and it finds each of them
abbrev pub IsWayTable : Dp → ℕ → RegionView → WayTable → Type 0
IsWayTable dp k region t = AreJoined dp k (way_row region t.ways.items) t.live t.ways.items t.hashes.items t.heads.items t.next.items

-- a parent's ways by those of the decisions that are allowed were taken in
abbrev pub TookIn : Dp → ℕ → ℕ → List ℤ → ℤ → List ℕ → RegionView → WayTable → RegionView → WayTable → Type 0
TookIn dp k step s value decisions before old region new =
    HasExtended dp k step s value decisions old.live (way_row before old.ways.items) old.ways.items (way_row region new.ways.items) new.ways.items new.hashes.items new.heads.items new.next.items

-- the places of the rows of its ways' states
abbrev pub table_rows : WayTable → List ℕ
table_rows t = rows_of t.ways.items
