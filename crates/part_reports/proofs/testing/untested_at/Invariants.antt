use Rattle.std.proofs.Common.{◌≡◌, ℕ, ◌+◌, length, map, Option}
use Rattle.part_reports.specs.Reports.{report_view, UntestedGives}
use Rattle.part_reports.proofs.testing.untested_at.Given as goal

abbrev pub invariant-loop-rest : goal.invariant-loop-rest
invariant-loop-rest g l =
    let dp = g.M.DpModel.meaning (g.M.DpModel.numbers l.model) in
    record {
      first : (place : Option ℕ) → UntestedGives dp l.place (map report_view l.rest) place → UntestedGives dp 0 (map report_view l.reports) place;
      left : l.place + length l.rest ≡ length l.reports;
      cells : length l.row ≡ dp.words;
      spare_cells : length l.spare ≡ dp.words;
    }

abbrev pub decreases-loop-rest : goal.decreases-loop-rest
decreases-loop-rest g l = length l.rest
