use Rattle.std.proofs.Common.{None, arith, sym, subst}
use Rattle.board_laws.specs.Restoring.{MayRestore}
use Rattle.board.specs.Opened.{ticketed}
use Rattle.tests_board.proofs.boards.restored_at_the_end.Goals as goal

pub restore-requires-clause-may : goal.restore-requires-clause-may
restore-requires-clause-may g c κs within =
    subst (λ m. MayRestore (g.M.DpModel.meaning (g.M.DpModel.numbers m)) None (ticketed c.in_ok-listed.listed.items) 18446744073709551615) (sym c.in_ok-model.ensures.ok)
    (c.in_ok-listed.ensures 18446744073709551615 (omega arith))
