-- A beam in memory, layer by layer.
use Rattle.std.specs.Prelude.{◌≡◌, ℕ, suc, ◌+◌, ◌-◌, ◌*◌, ◌^◌, ◌<◌, ◌≤◌, nat_lt, nat_eq, ℤ, Bool, ◌&&◌, cond, List, length, take, find, is_some, Option, Some, None, vec_capacity}
use Rattle.dp_model.specs.Dp.{Dp}
use Rattle.dp_model.specs.Decisions.{below}
use Rattle.dp_model.specs.Lists.{Each}
use Rattle.dp_model.specs.Reached.{Reached, reached}
use Rattle.dp_laws.specs.Restricted.Beam.{whole_layer, layer_below, is_too_wide}
use Rattle.layer_candidates.specs.declared.beam.Beam.{Beam}
use Rattle.layer_candidates.specs.HeldRows.{AreLive, HasExchanged}
use Rattle.layer_candidates.specs.Layering.{HasMemory}
use Rattle.layer_candidates.specs.Members.{member_rows, members_as, IsHeldAt}
use Rattle.layer_candidates.specs.Steps.{path_at, AreBackward, IsReachedWithin}
use Rattle.row_region.specs.Region.{RegionView}

-- no layer of the width has more than this many members
pub record AreEnoughMembers (dp : Dp) (w widest : ℕ) : Type 0 where
  pub one : 1 ≤ widest
  pub choices : (k : ℕ) → k < dp.vars → dp.choices k ≤ widest
  pub width : w ≤ widest

-- this many candidates are enough for each layer, and this many members
pub record AreEnough (dp : Dp) (w room widest : ℕ) : Type 0 where
  pub first : (k : ℕ) → k < dp.vars → dp.choices k ≤ room
  pub second : (k : ℕ) → k + 1 < dp.vars → dp.choices k * dp.choices (k + 1) ≤ room
  pub later : (k : ℕ) → k < dp.vars → w * dp.choices k ≤ room
  pub members : AreEnoughMembers dp w widest

-- there is memory for all layers of the width
pub record HasLayers (dp : Dp) (w : ℕ) (b : Beam) : Type 0 where
  pub room : ℕ
  pub widest : ℕ
  pub enough : AreEnough dp w room widest
  pub positive : 1 ≤ w
  pub candidates : HasMemory dp.words room b.candidates
  pub members : widest ≤ vec_capacity b.members
  pub steps : widest + dp.vars * w ≤ vec_capacity b.steps
  pub small : widest + dp.vars * w < 2 ^ 32

-- this many free rows are enough for a beam: for the members of a layer, for all candidates of the next one, and for one more
pub record HasBeamRows (dp : Dp) (w spare : ℕ) : Type 0 where
  pub room : ℕ
  pub widest : ℕ
  pub enough : AreEnough dp w room widest
  pub fits : room + widest + 1 ≤ spare

-- the members of the last layer of all are the first one alone
abbrev pub kept_at : Dp → ℕ → List Reached → List Reached
kept_at dp k layer = cond (nat_lt k dp.vars) layer (take 1 layer)

-- whether the width took something from the layers so far
abbrev pub took : Dp → List ℕ → ℕ → Option ℤ → ℕ → Bool
took dp p w t m = is_some (find (is_too_wide dp (reached dp p) w t) (below (suc m)))

-- the members, whose rows the region has, are those of the layer at depth k below the prefix p, for the width w and the threshold t
pub record IsBuilt (dp : Dp) (p : List ℕ) (w : ℕ) (t : Option ℤ) (k : ℕ) (b : Beam) (region : RegionView) (reduced : Bool) : Type 0 where
  pub has_room : HasLayers dp w b
  pub region_words : region.words ≡ dp.words
  pub region_room : HasBeamRows dp w (region.spare + length b.members.items)
  pub live : AreLive region (member_rows b.members.items)
  pub deep : length p ≤ k
  pub list : members_as (path_at p b.steps.items) region b.members.items ≡ kept_at dp k (layer_below dp (reached dp p) w t (k - length p))
  pub held : Each (IsHeldAt dp k region) b.members.items
  pub reached_by : Each (IsReachedWithin (length b.steps.items)) b.members.items
  pub backward : AreBackward b.steps.items
  pub one : k ≡ length p → length b.members.items ≡ 1
  pub none : k ≡ length p → length b.steps.items ≡ 0
  pub second : k ≡ length p + 1 → length b.members.items ≤ dp.choices (length p)
  pub later : length p + 1 < k → length b.members.items ≤ w
  pub few : length p < k → length b.steps.items ≤ dp.choices (length p) + (k - length p) * w
  pub reduced_is : reduced ≡ took dp p w t (k - length p)

-- how many members a layer keeps that is made from the one at depth k
abbrev pub most_at : Dp → ℕ → ℕ → ℕ → ℕ
most_at dp k first w = cond (nat_eq (k + 1) dp.vars) 1 (cond (nat_eq k first) (dp.choices k) w)

-- whether a layer that is made from the one at depth k is reduced to the width
abbrev pub is_between : ℕ → ℕ → ℕ → Bool
is_between k first vars = nat_lt first k && nat_lt (k + 1) vars

-- the layer below was made: as many of its first members as `most`, whose rows the region has in place of those of the layer above
pub record IsNext (dp : Dp) (k : ℕ) (t : Option ℤ) (most : ℕ) (old : Beam) (above : RegionView) (new : Beam) (region : RegionView) (more : Bool) : Type 0 where
  pub list : (p : List ℕ) → members_as (path_at p new.steps.items) region new.members.items
      ≡ take most (whole_layer dp k t (members_as (path_at p old.steps.items) above old.members.items))
  pub more_stay : (p : List ℕ) → more ≡ nat_lt most (length (whole_layer dp k t (members_as (path_at p old.steps.items) above old.members.items)))
  pub held : Each (IsHeldAt dp (k + 1) region) new.members.items
  pub exchanged : HasExchanged above (member_rows old.members.items) region (member_rows new.members.items)
  pub reached_by : Each (IsReachedWithin (length new.steps.items)) new.members.items
  pub few : length new.members.items ≤ most
  pub steps : length new.steps.items ≡ length old.steps.items + length new.members.items
  pub backward : AreBackward old.steps.items → AreBackward new.steps.items
  pub has_room : (w : ℕ) → HasLayers dp w old → HasLayers dp w new

-- the first of the members is the value with the decisions, and there is none where there is no member
abbrev pub IsFirst : Option Reached → Option ℤ → List ℕ → Type 0
IsFirst None None out = Unit {0}
IsFirst None (Some v) out = ⊥
IsFirst (Some r) None out = ⊥
IsFirst (Some r) (Some v) out = (v ≡ r.value) × (out ≡ r.decisions)

-- a beam has memory for this many candidates, members and steps, with rows of this many cells
pub record HasMade (words room widest steps : ℕ) (b : Beam) : Type 0 where
  pub candidates : HasMemory words room b.candidates
  pub members : widest ≤ vec_capacity b.members
  pub steps_hold : steps ≤ vec_capacity b.steps
