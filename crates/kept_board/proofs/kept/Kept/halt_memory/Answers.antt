use Rattle.std.proofs.Common.{refl, subst}
use Rattle.board_laws.specs.Runs.Step.{Halt}
use Rattle.board_laws.specs.declared.cause.Cause.TheVariants.{Memory}
use Rattle.kept_board.proofs.Keeping.{quiet-kept}
use Rattle.kept_board.proofs.Moving.{quiet-moves}
use Rattle.kept_board.specs.Moves.{IsMove}
use Rattle.kept_board.specs.View.{KeptView}
use Rattle.kept_board.proofs.kept.Kept.halt_memory.Goals as goal

pub invariant_of-self : goal.invariant_of-self
invariant_of-self g c =
    quiet-kept g.D.Disk g.M.DpModel.meaning c.self.inside.board c.halt.new.self c.halt.ensures.tag (Halt Memory) c.self.inside.made.value c.self.inside.disk c.self.inside.tail tt tt refl c.halt.ensures.step c.self.invariant

pub returns-clause-moves : goal.returns-clause-moves
returns-clause-moves g c who =
    subst (λ (v : KeptView g.row.D.Denot). IsMove g.D.Disk g.M.DpModel.meaning v (record { board = c.halt.new.self; disk = c.self.inside.disk; tail = c.self.inside.tail; made = c.self.inside.made.value; every = c.self.inside.every }) who) c.self.view_is
    (quiet-moves g.D.Disk g.M.DpModel.meaning c.self.inside.board c.halt.new.self c.halt.ensures.tag c.self.inside.made.value c.self.inside.every who (Halt Memory) c.self.inside.disk c.self.inside.tail tt tt refl tt c.halt.ensures.step)
