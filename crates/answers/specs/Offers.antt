-- What becomes of solutions that reports of settled parts offer to a search before it goes on.
use Rattle.std.specs.Prelude.{◌≡◌, ◌⊎◌, ℤ, List, map, Option, Some, None}
use Rattle.dp_model.specs.Dp.{Dp}
use Rattle.dp_model.specs.Lists.{Each}
use Rattle.dp_model.specs.Numbers.{OptionAtMost}
use Rattle.board_laws.specs.Board.{value_held}
use Rattle.part_reports.specs.Reports.{AreTested, ReportView, UntestedGives, value_told}
use Rattle.part_text.specs.Reports.{SettledView}
use Rattle.solver_report.specs.declared.answer.Answer.{Answer}
use Rattle.solver_report.specs.declared.answer.Answer.TheVariants as answers
use Rattle.solver_report.specs.declared.answer.Outcome.{Outcome}
use Rattle.solver_report.specs.declared.answer.Outcome.TheVariants as outcomes
use Rattle.solver_report.specs.declared.answer.PartOutcome.{PartOutcome}
use Rattle.solver_report.specs.declared.answer.PartOutcome.TheVariants as part_outcomes
use Rattle.solver_report.specs.declared.answer.ReportRefusal.{ReportRefusal}
use Rattle.solver_report.specs.declared.answer.ReportRefusal.TheVariants as refusals
use Rattle.tokens.specs.declared.instance_error.InstanceError.{InstanceError}

-- what reports tell of their parts
abbrev pub parts_told : List SettledView → List ReportView
parts_told rs = map (λ (r : SettledView). r.report) rs

-- the first fault of the reports' text is answered, or want of memory
abbrev pub RefusesReport : InstanceError → Answer → Type 0
RefusesReport e (answers.ReportRefused given) = given ≡ e
RefusesReport e answers.OutOfMemory = Unit {0}
RefusesReport e _ = ⊥

-- ---- what is told of a search

-- the value of the solution that is told, or none
abbrev pub told_value : Outcome → Option ℤ
told_value (outcomes.Proved best within) = Some best.value
told_value outcomes.Infeasible = None
told_value (outcomes.Stopped stop best bound) = value_held best

-- the value that is told of a part
abbrev pub part_value : PartOutcome → Option ℤ
part_value (part_outcomes.Settled best within) = value_held best
part_value (part_outcomes.Stopped stop best bound) = value_held best

-- ---- what becomes of the offers

-- each offered solution is worth at most the value
abbrev pub AreWorthAtMost : List ReportView → Option ℤ → Type 0
AreWorthAtMost offers value = Each (λ (r : ReportView). OptionAtMost (value_told r) value) offers

-- the offered solutions are feasible with their values, and worth at most the value that is told, unless what is kept of the search has failed
pub record HasTaken (Failed : Type 0) (dp : Dp) (offers : List ReportView) (told : Option ℤ) : Type 0 where
  pub tested : AreTested dp offers
  pub taken : AreWorthAtMost offers told ⊎ Failed

-- offers are refused for the first solution that is none with its value
abbrev pub RefusesOffer : Dp → List ReportView → ReportRefusal → Type 0
RefusesOffer dp offers (refusals.Value index) = UntestedGives dp 0 offers (Some index)
RefusesOffer dp offers _ = ⊥
