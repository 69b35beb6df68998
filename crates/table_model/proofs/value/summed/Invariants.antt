use Rattle.std.proofs.Common.{◌≡◌, ◌+◌, ◌*◌, ◌^◌, ◌<◌, pos, neg_ℤ, ◌≤ℤ◌, ◌+ℤ◌}
use Rattle.std.specs.Prelude.{option_map}
use Rattle.table_model.specs.OwnWords.{gains_along}
use Rattle.table_model.specs.Table.{layer_at}
use Rattle.table_model.proofs.Along.{value_with}
use Rattle.table_model.proofs.value.summed.Given as goal

-- the value so far and what is gained from here on make the value of all
abbrev pub invariant-steps : goal.invariant-steps
invariant-steps l = record {
  all : option_map (λ z. l.model.root_value +ℤ z) (gains_along l.model.layers.items 0 0 l.decisions) ≡ value_with l.model.layers.items l.value l.k l.state l.decisions;
  here : l.state < (layer_at l.model.layers.items l.k).states;
  low : neg_ℤ (pos ((l.k + 1) * 2 ^ 50)) ≤ℤ l.value;
  high : l.value ≤ℤ pos ((l.k + 1) * 2 ^ 50);
}
