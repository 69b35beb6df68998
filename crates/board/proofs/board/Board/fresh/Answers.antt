use Rattle.std.proofs.Common.{◌≡◌, [], length, sym, ◌∙◌, ap, subst}
use Rattle.std.specs.Arc.{arc_value}
use Rattle.board_laws.specs.Board.{BoardState, full_slots}
use Rattle.board_laws.specs.GoodBoard.{IsBoard}
use Rattle.board_laws.proofs.Fresh.{full-none}
use Rattle.dominance_table.specs.Entries.{TableView}
use Rattle.board.proofs.Keeping.{fresh-step, fresh-kept}
use Rattle.board.proofs.board.Board.fresh.Goals as goal

pub invariant_of-result : goal.invariant_of-result
invariant_of-result g c =
    let dp = g.M.DpModel.meaning (g.M.DpModel.numbers (arc_value c.args.model)) in
    let cells = subst (λ m. c.words.result ≡ (g.M.DpModel.meaning (g.M.DpModel.numbers m)).words) c.deref.ensures c.words.ensures in
    let table : c.new-table.result ≡ record { entries = []; words = dp.words; limit = c.args.settings.table_limit; spare = 0 } = c.new-table.ensures ∙ ap (λ n. record { entries = []; words = n; limit = c.args.settings.table_limit; spare = 0 }) cells in
    let first = c.of-first.ensures in
    fresh-kept dp c.of-first.result _ c.args.settings c.args.start.fringe c.new-table.result _ _ _ (subst (IsBoard dp) (sym first) c.requires.board)
    (fresh-step _ _ _ _ c.args.settings _ c.requires.slots (ap (λ (t : TableView). t.entries) table) ∙ sym first)
    (ap (λ (b : BoardState). b.settings) first) (ap (λ (b : BoardState). length (full_slots b.slots)) first ∙ ap length (full-none c.args.settings.workers))
    c.requires.of.words table c.requires.of.best c.requires.row c.requires.spare
