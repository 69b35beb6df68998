use Rattle.relaxed_dd.proofs.Halves.{AreSet}
use Rattle.relaxed_dd.proofs.suffixes.set_all.Given as goal

abbrev pub invariant-layers : goal.invariant-layers
invariant-layers g l = AreSet (g.M.DpModel.meaning (g.M.DpModel.numbers l.model)) l.initial.space l.space l.last l.below l.above
