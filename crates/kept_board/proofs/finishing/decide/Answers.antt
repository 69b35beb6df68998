use Rattle.std.proofs.Common.{◌≤◌, length, ap, subst, sym}
use Rattle.dp_model.specs.Lists.{Each}
use Rattle.dp_model.specs.Subproblem.{IsOwn, IsChild}
use Rattle.dp_model.proofs.Members.{Each-then}
use Rattle.board_laws.specs.Board.{BoardState, full_slots}
use Rattle.board.specs.Contents.{contents}
use Rattle.kept_board.proofs.Spelled.{full-one}
use Rattle.kept_board.proofs.finishing.decide.Goals as goal

pub fates-requires-clause-full : goal.fates-requires-clause-full
fates-requires-clause-full g c κs within =
    let may = c.requires.may.2 in
    subst (λ (b : BoardState). 1 ≤ length (full_slots b.slots)) (sym c.reserve_for.ensures.board) (full-one c.args.board.now.board c.requires.may.0 may.parent may.full)

pub fates-requires-clause-own : goal.fates-requires-clause-own
fates-requires-clause-own g c κs within =
    let may = c.requires.may.2 in
    subst (λ ns. Each (IsOwn (g.M.DpModel.meaning ns)) (contents c.args.subs.now)) (sym (ap (λ t. t.numbers) c.reserve_for.ensures.tag))
    (Each-then (IsChild (g.M.DpModel.meaning c.args.board.now.numbers) may.parent.subproblem.decisions) (IsOwn (g.M.DpModel.meaning c.args.board.now.numbers)) (contents c.args.subs.now) (λ x h. h.own) may.children.own)
