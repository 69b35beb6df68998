use Rattle.std.proofs.Common.{subst}
use Rattle.kept_board.specs.Adding.{LeavesAtMost, Acknowledges}
use Rattle.kept_board.proofs.recording.record_snapshot.Goals as goal

pub returns-in_err-append-clause-any_moment : goal.returns-in_err-append-clause-any_moment
returns-in_err-append-clause-any_moment g c some = subst (LeavesAtMost g.D.Disk c.args.disk.now c.append.new.disk) c.in_ok-snapshot.ensures c.append.ensures.any_moment

pub returns-clause-acknowledged : goal.returns-clause-acknowledged
returns-clause-acknowledged g c some = subst (Acknowledges g.D.Disk c.args.disk.now c.append.new.disk) c.in_ok-snapshot.ensures c.in_ok-append.ensures.acknowledged

pub returns-clause-any_moment : goal.returns-clause-any_moment
returns-clause-any_moment g c some = subst (LeavesAtMost g.D.Disk c.args.disk.now c.append.new.disk) c.in_ok-snapshot.ensures c.append.ensures.any_moment
