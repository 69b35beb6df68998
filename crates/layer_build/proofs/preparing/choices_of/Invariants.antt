use Rattle.std.proofs.Common.{◌≡◌, map, vec_capacity}
use Rattle.dp_model.specs.Decisions.{below}
use Rattle.layer_build.proofs.preparing.choices_of.Given as goal

abbrev pub invariant-layers : goal.invariant-layers
invariant-layers g l = record {
  items : l.all.items ≡ map (g.M.DpModel.meaning (g.M.DpModel.numbers l.model)).choices (below l.k);
  room : vec_capacity l.all ≡ l.vars;
}
