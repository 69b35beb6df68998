use Rattle.relaxed_dd.proofs.Built.{IsBuiltTo}
use Rattle.relaxed_dd.proofs.widely.build.Given as goal

abbrev pub invariant-layers : goal.invariant-layers
invariant-layers g l = IsBuiltTo (g.M.DpModel.meaning (g.M.DpModel.numbers l.model)) l.threshold l.counter l.initial.space l.space
