use Rattle.std.proofs.Common.{ap, subst, ◌∙◌}
use Rattle.dp_model.specs.Laws.{IsLawful}
use Rattle.board_laws.specs.GoodBoard.{IsBoard}
use Rattle.kept_board.specs.declared.tag.KeptTag.{KeptTag}
use Rattle.board.specs.Moves.{out_at}
use Rattle.board.specs.View.{BoardView}
use Rattle.search_workers.proofs.Stopping.{over-left, waits-left}
use Rattle.search_workers.proofs.TakenOut.{taken_out, can_hold}
use Rattle.search_workers.proofs.workers.moving.take.Given as given
use Rattle.search_workers.proofs.workers.moving.take.Goals as goal

laws_of : (g : given.Over) (m : g.row.M.Denot) → IsLawful (g.M.DpModel.meaning (g.M.DpModel.numbers m))
laws_of g m = (g.met.M.DpModel g.world.𝓛 g.world.𝓜 g.world.𝓡 ((λ s x. x), (λ x. x), (λ x. x), λ x. x)).lawful m

pub returns-clause-out : goal.returns-clause-out
returns-clause-out g c =
    let dp = g.M.DpModel.meaning (g.M.DpModel.numbers c.args.model.now) in
    let now = c.take-taken.new.self in
    let kept = subst (λ (v : BoardView). IsBoard (g.M.DpModel.meaning v.numbers) v.board) c.board-2.ensures.board c.facts-2.ensures.kept in
    let same = subst (λ ns. IsBoard (g.M.DpModel.meaning ns) now.board.board) (ap (λ (t : KeptTag g.row.D.Denot). t.board.numbers) c.take-taken.ensures.tag ∙ c.requires.numbers) kept in
    taken_out dp c.args.kept.now.board.board now.board.board c.args.who c.take-taken.new.into.subproblem c.take-taken.result c.take-taken.ensures.answer c.take-taken.ensures.step c.take-taken.ensures.out c.requires.nothing_out same

pub returns-clause-room : goal.returns-clause-room
returns-clause-room g c =
    can_hold (g.M.DpModel.meaning (g.M.DpModel.numbers c.args.model.now)) (laws_of g c.args.model.now) c.take-taken.result (out_at c.take-taken.new.self.board.board c.args.who) c.args.into.now c.take-taken.new.into
    c.requires.room c.take-taken.ensures.into_room (returns-clause-out g c) c.take-taken.ensures.untouched

pub returns-clause-ended : goal.returns-clause-ended
returns-clause-ended g c = over-left c.args.kept.now.board.board c.take-taken.new.self.board.board c.args.who c.take-taken.result c.take-taken.ensures.answer c.take-taken.ensures.step

pub returns-clause-waits : goal.returns-clause-waits
returns-clause-waits g c = waits-left c.args.kept.now.board.board c.take-taken.new.self.board.board c.args.who c.take-taken.result c.take-taken.ensures.answer c.take-taken.ensures.step
