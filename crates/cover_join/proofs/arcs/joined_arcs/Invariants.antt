use Rattle.std.proofs.Common.{◌≡◌}
use Rattle.cover_join.specs.Joining.{answers_in, arcs_below}
use Rattle.cover_join.proofs.arcs.joined_arcs.Given as goal

abbrev pub invariant-loop-decision : goal.invariant-loop-decision
invariant-loop-decision g l = l.arcs.items ≡ arcs_below (g.M.DpModel.meaning (g.M.DpModel.numbers l.model)) (answers_in l.texts) l.decision
