use Rattle.std.proofs.Common.{◌≡◌, ◌-◌, ℤ, List}
use Rattle.dp_model.specs.Dp.{Dp}
use Rattle.turn.specs.History.{HasMoved}
use Rattle.disk.specs.declared.disk.Disk.{Ghosts}
use Rattle.kept_board.specs.Moves.{IsMove}
use Rattle.kept_board.specs.View.{KeptView, tag_of}
use Rattle.search_workers.specs.declared.desk.Desk.{Desk}
use Rattle.search_workers.specs.Later.{IsLater}
use Rattle.search_workers.specs.Prepared.{IsPreparedDesk}
use Rattle.search_workers.proofs.rounds.exploring.explore.Given as goal

-- some rounds later, with the desk ready for another one
pub record IsBetweenRounds {D : Type 0} (on : Ghosts D) (meaning : List ℤ → Dp) (dp : Dp) (first now : KeptView D) (desk : Desk) : Type 0 where
  pub tag : tag_of now ≡ tag_of first
  pub moved : HasMoved (IsMove on meaning) first now
  pub later : IsLater dp first.board.board now.board.board
  pub prepared : IsPreparedDesk dp first.board.board.settings.width desk

abbrev pub invariant-rounds : goal.invariant-rounds
invariant-rounds g l = IsBetweenRounds g.D.Disk g.M.DpModel.meaning (g.M.DpModel.meaning (g.M.DpModel.numbers l.model)) l.initial.kept l.kept l.desk

-- what is left of the budget
abbrev pub decreases-rounds : goal.decreases-rounds
decreases-rounds g l = l.kept.board.board.settings.budget - l.kept.board.board.taken
