use Rattle.part_reports.proofs.Told.{reports-join}
use Rattle.part_reports.proofs.laws.reports_join.Goals as goal

pub returns : goal.returns
returns c = λ dp b digest rs g h some are. reports-join dp b digest rs are g h some
