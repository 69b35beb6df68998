use Rattle.kept_board.proofs.Histories.{histories-leave}
use Rattle.kept_board.proofs.laws.histories_leave.Goals as goal

pub returns : goal.returns
returns g c = histories-leave g.D.Disk (record { only_now = g.met.D.Disk.only_now; counts_now = g.met.D.Disk.counts_now }) g.M.DpModel.meaning
