use Rattle.std.proofs.Common.{sym, ◌∙◌, ap, subst, arith}
use Rattle.dp_model.specs.Laws.{IsLawful}
use Rattle.board_laws.specs.GoodBoard.{IsBoard}
use Rattle.kept_board.specs.Moves.{IsMove}
use Rattle.kept_board.specs.declared.tag.KeptTag.{KeptTag}
use Rattle.board.specs.View.{BoardView}
use Rattle.search_workers.specs.UnderWay.{IsRoundUnderWay}
use Rattle.search_workers.proofs.Moves.{moved_by}
use Rattle.search_workers.proofs.Taking.{own_cells, first_empty, taken_under_way}
use Rattle.search_workers.proofs.rounds.exploring.take_one.Given as given
use Rattle.search_workers.proofs.rounds.exploring.take_one.Goals as goal

laws_of : (g : given.Over) (m : g.row.M.Denot) → IsLawful (g.M.DpModel.meaning (g.M.DpModel.numbers m))
laws_of g m = (g.met.M.DpModel g.world.𝓛 g.world.𝓜 g.world.𝓡 ((λ s x. x), (λ x. x), (λ x. x), λ x. x)).lawful m

pub take-answer-requires-clause-empty : goal.take-answer-requires-clause-empty
take-answer-requires-clause-empty g c κs within = first_empty c.args.kept.now.board.board.slots c.requires.idle c.requires.some

under_way : (g : given.Over) (c : goal.In-Sub g) → IsRoundUnderWay (g.M.DpModel.meaning (g.M.DpModel.numbers c.args.model.now)) c.args.kept.now.board.board c.take-answer.new.self.board.board c.take-answer.new.into.subproblem
under_way g c =
    let now = c.take-answer.new.self in
    let kept = subst (λ (v : BoardView). IsBoard (g.M.DpModel.meaning v.numbers) v.board) c.board.ensures.board c.facts.ensures.kept in
    let same = subst (λ ns. IsBoard (g.M.DpModel.meaning ns) now.board.board) (ap (λ (t : KeptTag g.row.D.Denot). t.board.numbers) c.take-answer.ensures.tag ∙ c.requires.numbers) kept in
    taken_under_way (g.M.DpModel.meaning (g.M.DpModel.numbers c.args.model.now)) c.args.kept.now.board.board now.board.board c.take-answer.new.into.subproblem c.args.desk.now.taken.subproblem
    (sym c.in-Sub.ensures.answer) c.in-Sub.ensures.step c.in-Sub.ensures.copied c.requires.idle c.requires.some same

pub returns-in-Sub-clause-taken : goal.returns-in-Sub-clause-taken
returns-in-Sub-clause-taken g c = λ _. under_way g c

pub returns-in-Sub-clause-moved : goal.returns-in-Sub-clause-moved
returns-in-Sub-clause-moved g c = moved_by (IsMove g.D.Disk g.M.DpModel.meaning) c.args.kept.now c.take-answer.new.self 0 c.take-answer.ensures.moves

pub returns-in-WaitForOthers-clause-moved : goal.returns-in-WaitForOthers-clause-moved
returns-in-WaitForOthers-clause-moved g c = moved_by (IsMove g.D.Disk g.M.DpModel.meaning) c.args.kept.now c.take-answer.new.self 0 c.take-answer.ensures.moves

pub returns-in-Sub-clause-prepared : goal.returns-in-Sub-clause-prepared
returns-in-Sub-clause-prepared g c =
    let laws = laws_of g c.args.model.now in
    let own = (under_way g c).own in
    let room = c.requires.prepared.room in
    let decisions = room.taken.decisions in
    let more = c.take-answer.ensures.into_room in
    record {
      room = record {
        taken = record { decisions = omega arith; cells = own_cells _ laws _ own };
        space = room.space;
        width = room.width;
        cutset = room.cutset;
        cut = room.cut;
      };
      no_fates = c.requires.prepared.no_fates;
      book = c.requires.prepared.book;
    }
