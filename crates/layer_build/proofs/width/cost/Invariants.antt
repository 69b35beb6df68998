use Rattle.std.proofs.Common.{◌≡◌, ◌≤◌, ◌*◌}
use Rattle.dp_laws.specs.Width.{cost_below}
use Rattle.layer_build.proofs.width.cost.Given as goal

abbrev pub invariant-layers : goal.invariant-layers
invariant-layers g l = record {
  cost_is : l.cost ≡ cost_below (g.M.DpModel.meaning (g.M.DpModel.numbers l.model)) l.k;
  small : l.cost ≤ l.k * 5120;
}
