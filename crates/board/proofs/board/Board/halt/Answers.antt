use Rattle.std.proofs.Common.{◌≡◌, ℕ, Option, refl, sym, ◌∙◌, ap, subst, arith}
use Rattle.dp_model.specs.Dp.{Dp}
use Rattle.fringe.specs.Fringe.{FringeView}
use Rattle.dominance_table.specs.Entries.{TableView}
use Rattle.board_laws.specs.Board.{BoardState}
use Rattle.board_laws.specs.Steps.{cause_after, halted}
use Rattle.board_laws.specs.declared.cause.Cause.{Cause}
use Rattle.board_laws.proofs.Halting.{halt-keeps}
use Rattle.board_laws.specs.Laws.{KeepsBoard}
use Rattle.board.specs.Kept.{IsBoardInMemory}
use Rattle.board.specs.View.{BoardView, tag_of}
use Rattle.board.proofs.Keeping.{kept-by}
use Rattle.board.proofs.board.Board.halt.Goals as goal

halt-kept : (dp : Dp) (made b : BoardState) (held : Option Cause) (cause : Cause) (fringe : FringeView) (table : TableView) (room for_best cells spare_cells : ℕ) → IsBoardInMemory dp made b fringe table room for_best cells spare_cells
    → held ≡ cause_after b.cause cause → IsBoardInMemory dp made (record b { cause = held }) fringe table room for_best cells spare_cells
halt-kept dp made b held cause fringe table room for_best cells spare_cells k is =
    kept-by dp made b (record b { cause = held }) fringe fringe table table room room for_best for_best cells spare_cells k
    (subst (λ h. KeepsBoard dp b (record b { cause = h })) (sym is) (halt-keeps dp b cause)) refl refl refl refl k.has_room.open_room k.has_room.table_room (omega arith)

halt-step : (v w : BoardView) (held : Option Cause) (cause : Cause) → v ≡ w → held ≡ cause_after v.board.cause cause → record v.board { cause = held } ≡ halted w.board cause
halt-step v w held cause same is = ap (λ h. record v.board { cause = h }) is ∙ ap (λ (v : BoardView). halted v.board cause) same

pub invariant_of-self : goal.invariant_of-self
invariant_of-self g c = halt-kept _ _ _ _ c.args.cause _ _ _ _ _ _ c.self.invariant c.cause_after-self-inside.ensures

pub returns-clause-step : goal.returns-clause-step
returns-clause-step g c = halt-step _ _ _ c.args.cause c.self.view_is c.cause_after-self-inside.ensures

pub returns-clause-tag : goal.returns-clause-tag
returns-clause-tag g c = ap tag_of c.self.view_is

pub returns-clause-room : goal.returns-clause-room
returns-clause-room g c = ap (λ (v : BoardView). v.room) c.self.view_is
