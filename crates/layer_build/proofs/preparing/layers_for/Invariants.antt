use Rattle.std.proofs.Common.{◌≡◌, ◌*◌, ◌+◌, map, vec_capacity}
use Rattle.dp_model.specs.Decisions.{below}
use Rattle.layer_build.specs.Stacked.{empty_layer}
use Rattle.layer_build.proofs.preparing.layers_for.Given as goal

abbrev pub invariant-layers : goal.invariant-layers
invariant-layers g l = record {
  items : l.layers.items ≡ map (λ k. empty_layer (g.M.DpModel.meaning (g.M.DpModel.numbers l.model)).words l.width (l.width * (g.M.DpModel.meaning (g.M.DpModel.numbers l.model)).choices k)) (below l.k);
  room : vec_capacity l.layers ≡ l.vars + 2;
}
