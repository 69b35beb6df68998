use Rattle.std.proofs.Common.{◌≡◌, Some, None, refl, sym, subst}
use Rattle.std.specs.Prelude.{slice_get}
use Rattle.board_laws.specs.Runs.Step.{Take}
use Rattle.kept_board.proofs.Keeping.{quiet-kept}
use Rattle.kept_board.proofs.Moving.{quiet-moves}
use Rattle.kept_board.specs.Moves.{IsMove}
use Rattle.kept_board.specs.View.{KeptView}
use Rattle.kept_board.proofs.kept.Kept.take.Goals as goal

pub invariant_of-self : goal.invariant_of-self
invariant_of-self g c =
    let empty = subst (λ (v : KeptView g.row.D.Denot). slice_get v.board.board.slots c.args.who ≡ Some None) (sym c.self.view_is) c.requires.empty in
    quiet-kept g.D.Disk g.M.DpModel.meaning c.self.inside.board c.take.new.self c.take.ensures.tag (Take c.args.who) c.self.inside.made.value c.self.inside.disk c.self.inside.tail empty tt refl c.take.ensures.step c.self.invariant

pub returns-clause-moves : goal.returns-clause-moves
returns-clause-moves g c =
    let empty = subst (λ (v : KeptView g.row.D.Denot). slice_get v.board.board.slots c.args.who ≡ Some None) (sym c.self.view_is) c.requires.empty in
    subst (λ (v : KeptView g.row.D.Denot). IsMove g.D.Disk g.M.DpModel.meaning v (record { board = c.take.new.self; disk = c.self.inside.disk; tail = c.self.inside.tail; made = c.self.inside.made.value; every = c.self.inside.every }) c.args.who) c.self.view_is
    (quiet-moves g.D.Disk g.M.DpModel.meaning c.self.inside.board c.take.new.self c.take.ensures.tag c.self.inside.made.value c.self.inside.every c.args.who (Take c.args.who) c.self.inside.disk c.self.inside.tail empty tt refl refl c.take.ensures.step)
