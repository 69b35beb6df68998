use Rattle.part_reports.proofs.Told.{reports-join-from}
use Rattle.part_reports.proofs.laws.reports_join_from.Goals as goal

pub returns : goal.returns
returns c = λ dp starts b digest rs g h some are held. reports-join-from dp b digest rs are starts g h some held
