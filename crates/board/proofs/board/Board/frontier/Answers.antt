use Rattle.std.proofs.Common.{◌≡◌, ◌++◌, List, map, ap, sym, ◌∙◌, subst}
use Rattle.std.specs.Prelude.{IfOk}
use Rattle.fringe.specs.Listing.{referred}
use Rattle.fringe.specs.Tickets.{Ticketed}
use Rattle.board_laws.specs.Board.{full_slots, frontier}
use Rattle.board.specs.Frontier.{in_order, frontier_of}
use Rattle.board.specs.View.{BoardView}
use Rattle.board.proofs.Orders.{given-all, given-ordered, HaveOwn}
use Rattle.board.proofs.board.Board.frontier.Goals as goal

pub list_frontier-requires : goal.list_frontier-requires
list_frontier-requires g c =
    subst (λ slots. HaveOwn (full_slots slots ++ c.self.inside.fringe.open_ones)) (sym c.as_slice.ensures.value) c.self.invariant.board.tickets.distinct

pub returns-clause-list : goal.returns-clause-list
returns-clause-list g c =
    let os = c.self.inside.fringe.open_ones in
    let is : in_order (full_slots c.as_slice.result.now ++ os) ≡ frontier_of c.args.self.now.board =
    ap (λ slots. in_order (full_slots slots ++ os)) c.as_slice.ensures.value ∙ ap (λ (v : BoardView). frontier_of v.board) c.self.view_is in
    subst (λ (l : List Ticketed). IfOk c.list_frontier.result (λ all. map referred all.items ≡ l)) is c.list_frontier.ensures

pub returns-clause-all : goal.returns-clause-all
returns-clause-all g c = given-all (λ list. map referred list.items) c.list_frontier.result (frontier c.args.self.now.board) (returns-clause-list g c)

pub returns-clause-ordered : goal.returns-clause-ordered
returns-clause-ordered g c =
    let own : HaveOwn (frontier c.args.self.now.board) = subst (λ (v : BoardView). HaveOwn (frontier v.board)) c.self.view_is c.self.invariant.board.tickets.distinct in
    given-ordered (λ list. map referred list.items) c.list_frontier.result (frontier c.args.self.now.board) own (returns-clause-list g c)
