use Rattle.std.proofs.Common.{refl, sym, subst}
use Rattle.board_laws.specs.Runs.Step.{GiveBack}
use Rattle.board_laws.specs.Runs.{MayGiveBack}
use Rattle.kept_board.proofs.Keeping.{quiet-kept}
use Rattle.kept_board.proofs.Moving.{quiet-moves}
use Rattle.kept_board.specs.Moves.{IsMove}
use Rattle.kept_board.specs.View.{KeptView}
use Rattle.kept_board.proofs.kept.Kept.give_back.Goals as goal

pub invariant_of-self : goal.invariant_of-self
invariant_of-self g c =
    let may : MayGiveBack c.self.inside.board.board c.args.who = subst (λ (v : KeptView g.row.D.Denot). MayGiveBack v.board.board c.args.who) (sym c.self.view_is) (record { full = c.requires.full; halted = c.requires.halted }) in
    quiet-kept g.D.Disk g.M.DpModel.meaning c.self.inside.board c.give_back.new.self c.give_back.ensures.tag (GiveBack c.args.who) c.self.inside.made.value c.self.inside.disk c.self.inside.tail may tt refl c.give_back.ensures.step c.self.invariant

pub returns-clause-moves : goal.returns-clause-moves
returns-clause-moves g c =
    let may : MayGiveBack c.self.inside.board.board c.args.who = subst (λ (v : KeptView g.row.D.Denot). MayGiveBack v.board.board c.args.who) (sym c.self.view_is) (record { full = c.requires.full; halted = c.requires.halted }) in
    subst (λ (v : KeptView g.row.D.Denot). IsMove g.D.Disk g.M.DpModel.meaning v (record { board = c.give_back.new.self; disk = c.self.inside.disk; tail = c.self.inside.tail; made = c.self.inside.made.value; every = c.self.inside.every }) c.args.who) c.self.view_is
    (quiet-moves g.D.Disk g.M.DpModel.meaning c.self.inside.board c.give_back.new.self c.give_back.ensures.tag c.self.inside.made.value c.self.inside.every c.args.who (GiveBack c.args.who) c.self.inside.disk c.self.inside.tail may tt refl refl c.give_back.ensures.step)
