use Rattle.part_text.proofs.ReportsRead.{reports-read}
use Rattle.part_text.proofs.laws.reports_are_read.Goals as goal

pub returns : goal.returns
returns c = reports-read
