use Rattle.std.proofs.Common.{◌≡◌, ◌++◌, map}
use Rattle.std.specs.Vec.Iter.{into_iter_items}
use Rattle.part_reports.specs.Reports.{report_view}
use Rattle.part_text.specs.Reports.{settled_view}
use Rattle.answers.specs.Offers.{parts_told}
use Rattle.answers.proofs.reporting.parts_of.Given as goal

abbrev pub invariant-loop-settled : goal.invariant-loop-settled
invariant-loop-settled l = map report_view l.parts.items ++ parts_told (map settled_view (into_iter_items l.settled-iterator)) ≡ parts_told (map settled_view l.fn.reports.items)
