use Rattle.layer_build.specs.Preparing.{IsMost}
use Rattle.layer_build.proofs.preparing.most_choices.Given as goal

abbrev pub invariant-layers : goal.invariant-layers
invariant-layers g l = IsMost (g.M.DpModel.meaning (g.M.DpModel.numbers l.model)) l.k l.most
