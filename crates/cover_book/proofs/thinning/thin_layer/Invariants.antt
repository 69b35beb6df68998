use Rattle.layer_build.specs.Layers.{IsPreparedFor}
use Rattle.cover_book.proofs.thinning.thin_layer.Given as goal

abbrev pub invariant-needed : goal.invariant-needed
invariant-needed g l = IsPreparedFor (g.M.DpModel.meaning (g.M.DpModel.numbers l.aim.model.now)) l.supply.space
