use Rattle.journal_file.specs.Settled.{IsReady}
use Rattle.tests_journal.proofs.files.go_on.Given as goal

abbrev pub invariant-loop-number : goal.invariant-loop-number
invariant-loop-number g l = IsReady g.D.Disk.attached g.D.Disk.tells g.D.Disk.seen g.D.Disk.may_leave l.disk l.tail
