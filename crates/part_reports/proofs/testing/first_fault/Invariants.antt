use Rattle.std.proofs.Common.{◌≡◌, ◌+◌, length, map, Option}
use Rattle.part_reports.specs.Reports.{report_view, FaultsGive}
use Rattle.part_reports.specs.declared.fault.ReportFault.{ReportFault}
use Rattle.part_reports.proofs.testing.first_fault.Given as goal

abbrev pub invariant-loop-rest : goal.invariant-loop-rest
invariant-loop-rest g l =
    let dp = g.M.DpModel.meaning (g.M.DpModel.numbers l.model) in
    record {
      first : (fault : Option ReportFault) → FaultsGive dp l.digest l.of l.place (map report_view l.rest) fault → FaultsGive dp l.digest l.of 0 (map report_view l.reports) fault;
      left : l.place + length l.rest ≡ l.of;
      cells : length l.row ≡ dp.words;
      spare_cells : length l.spare ≡ dp.words;
    }

abbrev pub decreases-loop-rest : goal.decreases-loop-rest
decreases-loop-rest g l = length l.rest
