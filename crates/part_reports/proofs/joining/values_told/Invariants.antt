use Rattle.std.proofs.Common.{◌≡◌, map, take}
use Rattle.part_reports.specs.Reports.{report_view, values_told}
use Rattle.part_reports.proofs.joining.values_told.Given as goal

abbrev pub invariant-loop-report : goal.invariant-loop-report
invariant-loop-report l = l.values.items ≡ values_told (map report_view (take l.report-index l.reports))
