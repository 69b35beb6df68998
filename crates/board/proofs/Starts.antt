-- The boards that have the starts of a search.
use Rattle.std.proofs.Common.{◌≡◌, ℕ, ℤ, List, [], length, Option, ◌∙◌, sym, ap, subst}
use Rattle.dp_model.specs.Dp.{Dp}
use Rattle.dp_model.specs.Laws.{IsLawful}
use Rattle.dp_model.specs.Solution.{Solution}
use Rattle.fringe.specs.Tickets.{Ticketed}
use Rattle.board_laws.specs.Board.{AreSettings, BoardState, reach_of, value_held}
use Rattle.board_laws.specs.GoodBoard.{IsBoard, IsGood}
use Rattle.board_laws.specs.Restoring.{MayRestore, pushed_above, restored_board}
use Rattle.board_laws.specs.Steps.{first_board, first_incumbent, first_open, fresh_board}
use Rattle.board_laws.specs.declared.settings.Settings.{Settings}
use Rattle.board_laws.proofs.First.{first-is-good}
use Rattle.board_laws.proofs.Restoring.{restored-boards-keep}
use Rattle.board.specs.Starting.{board_of, start_best}
use Rattle.board.specs.View.{BoardView}
use Rattle.board.specs.declared.start.Start.{Start}

same-fresh : (settings : Settings) (best held : Option Solution) (os listed : List Ticketed) (next after : ℕ) → held ≡ best → listed ≡ os → after ≡ next → fresh_board settings held listed after ≡ fresh_board settings best os next
same-fresh settings best held os listed next after best_is open_is next_is =
    ap (λ b. fresh_board settings b listed after) best_is ∙ (ap (λ l. fresh_board settings best l after) open_is ∙ ap (λ n. fresh_board settings best os n) next_is)

-- a start that is that of the first board
pub record IsFirstStart (dp : Dp) (s : Start) : Type 0 where
  pub best : start_best s ≡ first_incumbent dp
  pub opens : s.fringe.open_ones ≡ first_open dp
  pub next : s.next_ticket ≡ length (first_open dp)

pub first-start-is : (dp : Dp) (settings : Settings) (s : Start) → IsFirstStart dp s → board_of settings s ≡ first_board dp settings
first-start-is dp settings s is = same-fresh settings (first_incumbent dp) (start_best s) (first_open dp) s.fringe.open_ones (length (first_open dp)) s.next_ticket is.best is.opens is.next

pub first-start-board : (dp : Dp) → IsLawful dp → (settings : Settings) (s : Start) → AreSettings settings → IsFirstStart dp s → IsBoard dp (board_of settings s)
first-start-board dp laws settings s are is = subst (IsBoard dp) (sym (first-start-is dp settings s is)) (first-is-good dp laws settings are).board

pub first-start-good : (dp : Dp) → IsLawful dp → (settings : Settings) (s : Start) → AreSettings settings → IsFirstStart dp s → IsGood dp (board_of settings s)
first-start-good dp laws settings s are is = subst (IsGood dp) (sym (first-start-is dp settings s is)) (first-is-good dp laws settings are).good

-- a start that is that of a restored board
pub record IsRestoredStart (settings : Settings) (best : Option Solution) (os : List Ticketed) (next : ℕ) (s : Start) : Type 0 where
  pub best_is : start_best s ≡ best
  pub opens : s.fringe.open_ones ≡ pushed_above (reach_of settings.within (value_held (start_best s))) [] os
  pub next_is : s.next_ticket ≡ next

pub restored-start-is : (settings : Settings) (best : Option Solution) (os : List Ticketed) (next : ℕ) (s : Start) → IsRestoredStart settings best os next s → board_of settings s ≡ restored_board settings best os next
restored-start-is settings best os next s is =
    same-fresh settings best (start_best s) (pushed_above (reach_of settings.within (value_held best)) [] os) s.fringe.open_ones next s.next_ticket is.best_is
    (is.opens ∙ ap (λ b. pushed_above (reach_of settings.within (value_held b)) [] os) is.best_is) is.next_is

pub restored-start-board : (dp : Dp) → IsLawful dp → (settings : Settings) (best : Option Solution) (os : List Ticketed) (next : ℕ) (s : Start) → AreSettings settings → MayRestore dp best os next → IsRestoredStart settings best os next s → IsBoard dp (board_of settings s)
restored-start-board dp laws settings best os next s are may is = subst (IsBoard dp) (sym (restored-start-is settings best os next s is)) (restored-boards-keep dp laws settings best os next are may).board

-- what was made of a good start has a good first board
pub made-good : (meaning : List ℤ → Dp) (ns : List ℤ) (x : BoardState) (b : BoardView) → b.numbers ≡ ns → b.board ≡ x → b.first ≡ b.board → IsGood (meaning ns) x → IsGood (meaning b.numbers) b.first
made-good meaning ns x b numbers board first good = subst (λ n. IsGood (meaning n) b.first) (sym numbers) (subst (IsGood (meaning ns)) (sym (first ∙ board)) good)
