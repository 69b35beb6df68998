use Rattle.std.proofs.Common.{◌++◌, ap, sym, ◌∙◌, subst, List, ℕ}
use Rattle.dp_model.specs.Numbers.{AtMost}
use Rattle.dp_model.specs.Prefixes.{IsSolution, value_of}
use Rattle.board_laws.specs.Board.{full_slots, reach}
use Rattle.board_laws.specs.Bound.{raised_by, board_bound, IsGreatestBound}
use Rattle.board_laws.specs.GoodBoard.{IsGood}
use Rattle.board_laws.proofs.Reading.{raised-append, bound-greatest, bound-holds}
use Rattle.board.specs.View.{BoardView}
use Rattle.board.proofs.board.Board.bound.Goals as goal

pub returns-clause-bound : goal.returns-clause-bound
returns-clause-bound g c =
    let full = full_slots c.self.inside.slots.items in
    let os = c.self.inside.fringe.open_ones in
    c.raised_by_fringe.ensures
    ∙ (ap (λ m. raised_by m os) (c.raised_by_slots-most.ensures ∙ ap (λ slots. raised_by c.reach.result (full_slots slots)) c.as_slice.ensures.value)
    ∙ (raised-append c.reach.result full os
    ∙ (ap (λ m. raised_by m (full ++ os)) (c.reach.ensures ∙ ap (λ (v : BoardView). reach v.board) (sym c.self.view_is))
    ∙ ap (λ (v : BoardView). board_bound v.board) c.self.view_is)))

pub returns-clause-greatest : goal.returns-clause-greatest
returns-clause-greatest g c =
    subst (λ m. IsGreatestBound c.args.self.now.board m) (sym (returns-clause-bound g c)) (bound-greatest c.args.self.now.board)

pub returns-clause-holds : goal.returns-clause-holds
returns-clause-holds g c =
    let is = returns-clause-bound g c in
    subst (λ m. IsGood (g.M.DpModel.meaning c.args.self.now.numbers) c.args.self.now.first → (x : List ℕ) → IsSolution (g.M.DpModel.meaning c.args.self.now.numbers) x → AtMost (value_of (g.M.DpModel.meaning c.args.self.now.numbers) x) m) (sym is)
    (subst (λ (v : BoardView). IsGood (g.M.DpModel.meaning v.numbers) v.first → (x : List ℕ) → IsSolution (g.M.DpModel.meaning v.numbers) x → AtMost (value_of (g.M.DpModel.meaning v.numbers) x) (board_bound v.board)) c.self.view_is
    (λ first. bound-holds _ _ (c.self.invariant.good first)))
