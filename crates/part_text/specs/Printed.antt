-- Reports as they are printed.
use Rattle.std.specs.Prelude.{ℕ, List, ◌++◌, ℤ, Option, option_map}
use Rattle.dp_model.specs.Solution.{Solution}
use Rattle.journal_bytes.specs.Bodies.{IncumbentView}
use Rattle.part_reports.specs.Reports.{ReportView}
use Rattle.solver_report.specs.Report.{count_lines, settled_lines}
use Rattle.solver_report.specs.declared.answer.Counts.{Counts}
use Rattle.solver_report.specs.declared.answer.SearchedPart.{SearchedPart}

-- the part that a report is of
abbrev pub searched_part : ReportView → SearchedPart
searched_part r = record { index = r.index; of = r.of; digest = r.digest }

-- a best solution as the program prints it
abbrev pub best_solution : IncumbentView → Solution
best_solution b = record { decisions = b.decisions; value = b.value }

-- the report of a part, with a distance
abbrev pub printed_report : ReportView → ℤ → List ℕ
printed_report r within = settled_lines (searched_part r) (option_map best_solution r.best) within

-- the same, perhaps with the counts after it
abbrev pub printed_with : ReportView → ℤ → Option Counts → List ℕ
printed_with r within counts = printed_report r within ++ count_lines counts
