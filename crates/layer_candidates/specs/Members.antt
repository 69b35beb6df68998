-- The members of a layer in memory, and the steps by which they are reached.
use Rattle.std.specs.Prelude.{◌≡◌, ℕ, pos, List, map, slice_index_or}
use Rattle.dp_model.specs.Dp.{Dp}
use Rattle.dp_model.specs.Gaps.{IsStateOf}
use Rattle.dp_model.specs.Reached.{Reached}
use Rattle.layer_candidates.specs.declared.member.Member.{Member}
use Rattle.layer_candidates.specs.HeldRows.{held_row}
use Rattle.layer_candidates.specs.Ways.{IsNear}
use Rattle.row_region.specs.Region.{RegionView, IsLive}

-- the member at the place
abbrev pub member_at : List Member → ℕ → Member
member_at ms i = slice_index_or ms i (record { value = pos 0; rank = pos 0; hash = 0; row = 0; step = 0 })

-- the places of the members' rows
abbrev pub member_rows : List Member → List ℕ
member_rows ms = map (λ (m : Member). m.row) ms

-- the prefix that a member stands for, where steps lead by these paths
abbrev pub member_as : (ℕ → List ℕ) → RegionView → Member → Reached
member_as paths region m = record { decisions = paths m.step; row = held_row region m.row; value = m.value }

-- members with their paths and rows
abbrev pub members_as : (ℕ → List ℕ) → RegionView → List Member → List Reached
members_as paths region ms = map (member_as paths region) ms

-- the region has the row of the member, which is a state of the layer at depth k, with its rank and its hash
pub record IsHeldAt (dp : Dp) (k : ℕ) (region : RegionView) (m : Member) : Type 0 where
  pub live : IsLive region m.row
  pub state : IsStateOf dp k (held_row region m.row)
  pub rank : m.rank ≡ dp.rank k (held_row region m.row)
  pub hash : m.hash ≡ dp.hash k (held_row region m.row)

-- and its value leaves room for a gain
pub record IsMemberOf (dp : Dp) (k : ℕ) (region : RegionView) (m : Member) : Type 0 where
  pub held : IsHeldAt dp k region m
  pub value : IsNear m.value
