-- What it means that no test of a table fails.
use Rattle.std.proofs.Common.{◌≡◌, ℕ, ◌+◌, ◌<◌, max, true, List, length, Option, None, arith}
use Rattle.table_model.specs.Laws.Places.{none_of_two, none_each, passes_where_none}
use Rattle.table_model.specs.Table.{LayerTable, layer_at, layer_after}
use Rattle.table_model.specs.Tests.{holds, seconds, failure_at, failure_from, failure_of, layer_failure, failure_in, first_failure}
use Rattle.table_refusal.specs.declared.failure.Failure.{Failure}
use Rattle.table_refusal.specs.declared.failure.Law.{Law}
use Rattle.table_refusal.specs.declared.failure.Law.TheVariants.{GapIsSound, OwnGapIsZero, MergeCovers, RoughBounds, GapsAddUp}

-- the tests of a law hold at a layer
abbrev pub Holds : Law → LayerTable → LayerTable → Type 0
Holds law l after = (a s : ℕ) → a < l.states → s < seconds law l → holds law l after a s ≡ true

pub record IsTested (l after : LayerTable) : Type 0 where
  pub sound : Holds GapIsSound l after
  pub own : Holds OwnGapIsZero l after
  pub covers : Holds MergeCovers l after
  pub bounds : Holds RoughBounds l after
  pub adds_up : Holds GapsAddUp l after

none_fails : (l after : LayerTable) (k : ℕ) (law : Law) → failure_of l after k law ≡ None → Holds law l after
none_fails l after k law h a s one two =
    passes_where_none _ _ (none_each (failure_at l after k law a) (seconds law l) s (none_each (failure_from l after k law) l.states a h one) two)

layer_tested : (l after : LayerTable) (k : ℕ) → layer_failure l after k ≡ None → IsTested l after
layer_tested l after k h =
    let one = none_of_two _ _ h in
    let two = none_of_two _ _ one.1 in
    let three = none_of_two _ _ two.1 in
    let four = none_of_two _ _ three.1 in
    record {
      sound = none_fails l after k GapIsSound one.0;
      own = none_fails l after k OwnGapIsZero two.0;
      covers = none_fails l after k MergeCovers three.0;
      bounds = none_fails l after k RoughBounds four.0;
      adds_up = none_fails l after k GapsAddUp four.1;
    }

pub tested_at : (layers : List LayerTable) (k : ℕ) → first_failure layers ≡ None → k < length layers → IsTested (layer_at layers k) (layer_after layers k)
tested_at layers k h below = layer_tested _ _ k (none_each (failure_in layers) (length layers) k h below)
