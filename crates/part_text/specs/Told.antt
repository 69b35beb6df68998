-- Reports that a part may tell, and that they are read as they are printed.
use Rattle.std.specs.Prelude.{◌≡◌, ℕ, ◌<◌, ◌^◌, List, length, map, flat_map, Option, Some, None, Ok}
use Rattle.cover_text.specs.Written.{IsWord}
use Rattle.dp_model.specs.Distances.{IsDistance}
use Rattle.dp_model.specs.Lists.{Each}
use Rattle.hex.specs.Hex.{IsBytes}
use Rattle.journal_bytes.specs.Bodies.{IncumbentView}
use Rattle.solver_report.specs.declared.answer.Counts.{Counts}
use Rattle.part_text.specs.Printed.{printed_with}
use Rattle.part_text.specs.Reports.{SettledView, reports_of}

-- a report, perhaps with the counts of its search
pub record ToldReport : Type 0 where
  pub settled : SettledView
  pub counts : Option Counts

-- a value of 64 bits and decisions of 32 bits, or none
abbrev pub IsToldBest : Option IncumbentView → Type 0
IsToldBest None = Unit {0}
IsToldBest (Some b) = IsWord b.value × Each (λ d. d < 2 ^ 32) b.decisions

-- counts of 64 bits, or none
abbrev pub AreToldCounts : Option Counts → Type 0
AreToldCounts None = Unit {0}
AreToldCounts (Some counts) = (counts.taken < 2 ^ 64) × (counts.finished < 2 ^ 64)

-- numbers of 32 bits, a digest of 32 bytes, and a distance from 0 to 2^50
pub record IsTold (r : ToldReport) : Type 0 where
  pub index : r.settled.report.index < 2 ^ 32
  pub of : r.settled.report.of < 2 ^ 32
  pub size : length r.settled.report.digest ≡ 32
  pub bytes : IsBytes r.settled.report.digest
  pub best : IsToldBest r.settled.report.best
  pub within : IsDistance r.settled.within
  pub counts : AreToldCounts r.counts

-- the text of a report
abbrev pub printed_told : ToldReport → List ℕ
printed_told r = printed_with r.settled.report r.settled.within r.counts

-- printed reports, of which there is at least one, are read as what was printed
abbrev pub ReportsAreRead : Type 0
ReportsAreRead = (reports : List ToldReport) → 0 < length reports → Each IsTold reports → reports_of (flat_map printed_told reports) ≡ Ok (map (λ (r : ToldReport). r.settled) reports)
