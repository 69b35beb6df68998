-- A layer is made from the one above it.
use Rattle.std.specs.Prelude.{◌≡◌, ℕ, ◌+◌, ◌*◌, ◌^◌, ◌<◌, ◌≤◌, ℤ, List, [], length, Option, IsPermutation, IsSortedBy, vec_len, vec_capacity}
use Rattle.dp_model.specs.Dp.{Dp}
use Rattle.dp_laws.specs.Restricted.Extensions.{candidates, all_joined}
use Rattle.layer_candidates.specs.declared.candidates.Candidates.{Candidates}
use Rattle.layer_candidates.specs.declared.key.Key.{Key}
use Rattle.layer_candidates.specs.declared.member.Member.{Member}
use Rattle.layer_candidates.specs.declared.way.Way.{Way}
use Rattle.layer_candidates.specs.HeldRows.{HasExchanged, HasLeft, held_row}
use Rattle.layer_candidates.specs.KeyOrder.{goes_before, key_rows}
use Rattle.layer_candidates.specs.Members.{member_rows, members_as}
use Rattle.layer_candidates.specs.Pruning.{unstruck_keys}
use Rattle.layer_candidates.specs.WayTables.{HasTableRoom}
use Rattle.layer_candidates.specs.Ways.{rows_of, way_row, all_reached, AreDistinct}
use Rattle.row_region.specs.Region.{RegionView}

-- there is memory for this many candidates, whose rows have this many cells
pub record HasMemory (words count : ℕ) (c : Candidates) : Type 0 where
  pub parent : vec_len c.parent ≡ words
  pub table : HasTableRoom count c.table
  pub keys : count ≤ vec_capacity c.keys
  pub kept : count ≤ vec_capacity c.kept
  pub small : count + 1 < 2 ^ 32

-- the members of the layer at depth k were extended, and the keys are those of their ways that are not struck, in the reduction
-- order; of the region's rows `above` has those of the members, `mid` those of all ways, and `below` those of the keys
pub record AreListed (dp : Dp) (k : ℕ) (t : Option ℤ) (above mid below : RegionView) (members : List Member) (ways : List Way) (keys : List Key) : Type 0 where
  pub distinct : AreDistinct dp (k + 1) (way_row mid ways) ways
  pub list : (paths : ℕ → List ℕ) → all_reached paths (way_row mid ways) ways ≡ all_joined [] (candidates dp k (members_as paths above members))
  pub few : length ways ≤ length members * dp.choices k
  pub exchanged : HasExchanged above (member_rows members) mid (rows_of ways)
  pub struck : HasLeft mid (rows_of ways) below (key_rows (unstruck_keys dp (k + 1) t mid ways))
  pub all : IsPermutation (unstruck_keys dp (k + 1) t mid ways) keys
  pub sorted : IsSortedBy (goes_before (held_row below)) keys

-- the candidates for the layer below the one at depth k were listed
abbrev pub HasListed : Dp → ℕ → Option ℤ → RegionView → List Member → RegionView → Candidates → Type 0
HasListed dp k t above members below c = (mid : RegionView) × AreListed dp k t above mid below members c.table.ways.items c.keys.items
