-- The reports of settled parts that an input offers.
use Rattle.std.specs.Prelude.{◌≡◌, ℕ, List, IsOkAnd, MatchResult}
use Rattle.part_reports.specs.Reports.{ReportView}
use Rattle.part_text.specs.Reports.{reports_of}
use Rattle.solver_report.specs.declared.answer.Answer.{Answer}
use Rattle.answers.specs.Covers.{cover_limit}
use Rattle.answers.specs.Ended.{IsInputAnswer, Readings, WasRead}
use Rattle.answers.specs.Offers.{RefusesReport, parts_told}

-- the input was read whole, and spells reports that tell this
pub record AreOffers (r : Readings) (offers : List ReportView) : Type 0 where
  pub bytes : List ℕ
  pub read : WasRead cover_limit r bytes
  pub told : IsOkAnd (reports_of bytes) (λ rs. offers ≡ parts_told rs)

-- the bytes spell no reports, and this tells their first fault
abbrev pub RefusesOffers : List ℕ → Answer → Type 0
RefusesOffers bytes answer = MatchResult (reports_of bytes) (λ rs. ⊥) (λ e. RefusesReport e answer)

-- why an input offers nothing: it was not read whole, or it spells no reports
abbrev pub IsNoOffer : Readings → Answer → Type 0
IsNoOffer r answer = IsInputAnswer cover_limit RefusesOffers r answer
