use Rattle.std.proofs.Common.{◌<◌}
use Rattle.dp_model.specs.Lists.{Each}
use Rattle.tests_board.proofs.fringes.push_all.Given as goal

abbrev pub invariant-loop-place : goal.invariant-loop-place
invariant-loop-place g l = Each (λ o. o.ticket < l.place-counter) l.fringe.open_ones
