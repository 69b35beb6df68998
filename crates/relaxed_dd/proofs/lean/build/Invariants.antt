use Rattle.relaxed_dd.proofs.LeanBuilt.{IsLeanTo}
use Rattle.relaxed_dd.proofs.lean.build.Given as goal

abbrev pub invariant-layers : goal.invariant-layers
invariant-layers g l = IsLeanTo (g.M.DpModel.meaning (g.M.DpModel.numbers l.model)) l.threshold l.counter l.initial.space l.space l.cut
