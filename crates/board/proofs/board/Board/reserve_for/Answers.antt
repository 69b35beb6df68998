use Rattle.std.proofs.Common.{◌≡◌, List, refl, ◌∙◌, ap}
use Rattle.fringe.specs.Fringe.{FringeView}
use Rattle.fringe.specs.Tickets.{Ticketed}
use Rattle.dominance_table.specs.Entries.{TableEntry, TableView}
use Rattle.board.specs.View.{BoardView, tag_of}
use Rattle.board.proofs.board.Board.reserve_for.Goals as goal

-- what is open and what the table has stay
same-board : (v w : BoardView) (os : List Ticketed) (es : List TableEntry) → v ≡ w → os ≡ v.board.open_ones → es ≡ v.board.entries → record v.board { open_ones = os; entries = es } ≡ w.board
same-board v w os es same open_is entries_is =
    ap (λ l. record v.board { open_ones = l; entries = es }) open_is ∙ (ap (λ l. record v.board { entries = l }) entries_is ∙ ap (λ (v : BoardView). v.board) same)

pub returns-clause-board : goal.returns-clause-board
returns-clause-board g c =
    same-board _ _ _ _ c.self.view_is (ap (λ (f : FringeView). f.open_ones) c.in_ok-reserve.ensures.kept) (ap (λ (t : TableView). t.entries) c.in_ok-reserve_rows.ensures.kept)

pub returns-clause-tag : goal.returns-clause-tag
returns-clause-tag g c = ap tag_of c.self.view_is

pub returns-in_err-reserve-clause-board : goal.returns-in_err-reserve-clause-board
returns-in_err-reserve-clause-board g c = same-board _ _ _ _ c.self.view_is (ap (λ (f : FringeView). f.open_ones) c.in_err-reserve.ensures.kept) refl

pub returns-in_err-reserve-clause-tag : goal.returns-in_err-reserve-clause-tag
returns-in_err-reserve-clause-tag g c = ap tag_of c.self.view_is

pub returns-in_err-reserve_rows-clause-board : goal.returns-in_err-reserve_rows-clause-board
returns-in_err-reserve_rows-clause-board g c =
    same-board _ _ _ _ c.self.view_is (ap (λ (f : FringeView). f.open_ones) c.in_ok-reserve.ensures.kept) (ap (λ (t : TableView). t.entries) c.in_err-reserve_rows.ensures.kept)

pub returns-in_err-reserve_rows-clause-tag : goal.returns-in_err-reserve_rows-clause-tag
returns-in_err-reserve_rows-clause-tag g c = ap tag_of c.self.view_is
