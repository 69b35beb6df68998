use Rattle.std.proofs.Common.{◌<◌}
use Rattle.dp_model.specs.Lists.{Each}
use Rattle.tests_board.proofs.fringes.push_many.Given as goal

abbrev pub invariant-loop-number : goal.invariant-loop-number
invariant-loop-number l = Each (λ o. o.ticket < l.number) l.fringe.open_ones
