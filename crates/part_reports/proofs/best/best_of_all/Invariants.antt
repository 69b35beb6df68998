use Rattle.std.proofs.Common.{◌≡◌, map, option_map}
use Rattle.std.specs.Vec.Iter.{into_iter_items}
use Rattle.journal_bytes.specs.Views.{incumbent_view}
use Rattle.part_reports.specs.Best.{best_of_all}
use Rattle.part_reports.specs.Reports.{report_view}
use Rattle.part_reports.proofs.best.best_of_all.Given as goal

abbrev pub invariant-loop-report : goal.invariant-loop-report
invariant-loop-report l =
    best_of_all (option_map incumbent_view l.best) (map report_view (into_iter_items l.report-iterator)) ≡ best_of_all (option_map incumbent_view l.fn.incumbent) (map report_view l.fn.reports.items)
