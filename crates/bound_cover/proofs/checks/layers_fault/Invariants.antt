use Rattle.std.proofs.Common.{◌≡◌, drop}
use Rattle.bound_cover.specs.Verdicts.{layers_fault}
use Rattle.bound_cover.proofs.checks.layers_fault.Given as goal

abbrev pub invariant-layers : goal.invariant-layers
invariant-layers g l = layers_fault (g.M.DpModel.meaning (g.M.DpModel.numbers l.model)) l.k (drop l.k l.cover) ≡ layers_fault (g.M.DpModel.meaning (g.M.DpModel.numbers l.model)) 0 l.cover
