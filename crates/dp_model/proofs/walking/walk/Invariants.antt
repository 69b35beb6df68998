use Rattle.dp_model.proofs.Walks.{IsWalkedTo}
use Rattle.dp_model.proofs.walking.walk.Given as goal

abbrev pub invariant-steps : goal.invariant-steps
invariant-steps g l = IsWalkedTo (g.M.DpModel.meaning (g.M.DpModel.numbers l.model)) l.decisions l.k l.out l.value
