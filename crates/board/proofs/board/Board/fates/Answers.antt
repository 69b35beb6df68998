use Rattle.std.proofs.Common.{length, sym, subst}
use Rattle.std.specs.Arc.{arc_value}
use Rattle.dp_model.specs.Gaps.{IsStateOf}
use Rattle.dp_model.specs.Laws.{IsLawful}
use Rattle.dp_model.specs.Lists.{Each}
use Rattle.dp_model.specs.Subproblem.{SubView, IsOwn}
use Rattle.dominance_table.specs.Dominator.{IsReached}
use Rattle.dominance_table.specs.Entries.{TableEntry}
use Rattle.board.specs.Contents.{contents}
use Rattle.board.specs.View.{BoardView}
use Rattle.board.proofs.Keeping.{children-cells, children-states, entries-reached}
use Rattle.board.proofs.board.Board.fates.Given as given
use Rattle.board.proofs.board.Board.fates.Goals as goal

laws_of : (g : given.Over) (m : g.row.M.Denot) → IsLawful (g.M.DpModel.meaning (g.M.DpModel.numbers m))
laws_of g m = (g.met.M.DpModel g.world.𝓛 g.world.𝓜 g.world.𝓡 ((λ s x. x), (λ x. x), (λ x. x), λ x. x)).lawful m

pub decide_all-requires-clause-cells : goal.decide_all-requires-clause-cells
decide_all-requires-clause-cells g c κs _ =
    let own = subst (λ (v : BoardView). Each (IsOwn (g.M.DpModel.meaning v.numbers)) (contents c.args.subs.now)) (sym c.self.view_is) c.requires.own in
    children-cells _ (laws_of g (arc_value c.self.inside.model)) c.args.subs.now _ c.self.invariant.has_room.fringe_words own

pub decide_all-requires-clause-states : goal.decide_all-requires-clause-states
decide_all-requires-clause-states g c κs _ =
    let own = subst (λ (v : BoardView). Each (IsOwn (g.M.DpModel.meaning v.numbers)) (contents c.args.subs.now)) (sym c.self.view_is) c.requires.own in
    subst (λ m. Each (λ (h : SubView). IsStateOf (g.M.DpModel.meaning (g.M.DpModel.numbers m)) (length h.subproblem.decisions) h.subproblem.row) c.args.subs.now) (sym c.deref.ensures)
    (children-states _ (laws_of g (arc_value c.self.inside.model)) c.args.subs.now own)

pub decide_all-requires-clause-entries : goal.decide_all-requires-clause-entries
decide_all-requires-clause-entries g c κs _ =
    subst (λ m. Each (λ (e : TableEntry). IsReached (g.M.DpModel.meaning (g.M.DpModel.numbers m)) e.depth e.row e.rank) c.self.inside.table.entries) (sym c.deref.ensures) (entries-reached _ _ c.self.invariant.board)
