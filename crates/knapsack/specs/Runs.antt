-- Running sums of items in order: where each one begins, in weight and in profit.
use Rattle.std.specs.Prelude.{◌≡◌, ℕ, ◌+◌, ◌*◌, ◌/◌, ◌<◌, ◌≤◌, List, [], ◌∷◌, length, slice_index_or}
use Rattle.knapsack.specs.declared.item.Item.{Item}
use Rattle.knapsack.specs.declared.placed.Placed.{Placed}
use Rattle.knapsack.specs.declared.running.Begun.{Begun}
use Rattle.knapsack.specs.declared.running.Runs.{Runs}
use Rattle.knapsack.specs.Limits.{AreSmall}
use Rattle.knapsack.specs.Placed.{kept_from}

-- what the items before each place weigh, where so much weighs before the first
abbrev pub weights_of : ℕ → List Item → List ℕ
weights_of weight [] = weight ∷ []
weights_of weight (x ∷ xs) = weight ∷ weights_of (weight + x.copies * x.weight) xs

-- what begins at each place, where the items before the first are worth so much
abbrev pub begun_of : ℕ → List Item → List Begun
begun_of before [] = record { before = before; profit = 0; weight = 0 } ∷ []
begun_of before (x ∷ xs) = record { before = before; profit = x.profit; weight = x.weight } ∷ begun_of (before + x.copies * x.profit) xs

-- what so much weight of an item is worth, rounded down; a quotient by 0 is 0
abbrev pub part_of : Begun → ℕ → ℕ
part_of b rest = rest * b.profit / b.weight

-- no more than what 1,000 copies of an item within the limits weigh, or the end
pub record IsPart (b : Begun) (rest : ℕ) : Type 0 where
  pub profit : b.profit ≤ 1000000000
  pub few : 0 < b.weight → rest ≤ 1000 * b.weight

-- the runs of these items
pub record AreRunsOf (items : List Item) (runs : Runs) : Type 0 where
  pub weights : runs.weights.items ≡ weights_of 0 items
  pub begun : runs.begun.items ≡ begun_of 0 items

-- the runs of at most 1,000 items within the limits
pub record AreRuns (runs : Runs) : Type 0 where
  pub items : List Item
  pub small : AreSmall items
  pub are : AreRunsOf items runs

-- for each layer, and for the end, the runs of the items from it on
pub record AreRunLayers (order : List Placed) (layers : List Runs) : Type 0 where
  pub many : length layers ≡ length order + 1
  pub each : (k : ℕ) (d : Runs) → k < length layers → AreRunsOf (kept_from k order) (slice_index_or layers k d)
