use Rattle.std.proofs.Common.{◌≡◌, ℕ, ◌+◌, length, map, Option}
use Rattle.part_text.specs.Reports.{settled_view}
use Rattle.answers.specs.ReportsJoined.{DistancesGive}
use Rattle.answers.proofs.reporting.far_report.Given as goal

abbrev pub invariant-loop-rest : goal.invariant-loop-rest
invariant-loop-rest l = record {
  first : (place : Option ℕ) → DistancesGive l.fn.within l.place (map settled_view l.rest) place → DistancesGive l.fn.within 0 (map settled_view l.reports) place;
  left : l.place + length l.rest ≡ length l.reports;
}

abbrev pub decreases-loop-rest : goal.decreases-loop-rest
decreases-loop-rest l = length l.rest
