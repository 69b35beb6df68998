-- Reports of the parts of a search, and which of them are refused.
use Rattle.std.specs.Prelude.{◌≡◌, ◌⊎◌, ℕ, ◌+◌, ℤ, nat_eq, Bool, true, false, ◌&&◌, List, [], ◌∷◌, map, option_map, Option, Some, None, IsTrue}
use Rattle.std.specs.Str.{bytes_eq}
use Rattle.dp_model.specs.Dp.{Dp}
use Rattle.dp_model.specs.Lists.{Each}
use Rattle.dp_model.specs.Solution.{IsSolutionWith}
use Rattle.journal_bytes.specs.Bodies.{IncumbentView}
use Rattle.journal_bytes.specs.Views.{incumbent_view}
use Rattle.part_reports.specs.declared.fault.ReportFault.{ReportFault}
use Rattle.part_reports.specs.declared.fault.ReportFault.TheVariants as faults
use Rattle.part_reports.specs.declared.report.PartReport.{PartReport}

-- what the search of a part tells: the number of the part, how many parts there are, the digest of the journal that was split, and the best
-- solution with its value, or none
pub record ReportView : Type 0 where
  pub index : ℕ
  pub of : ℕ
  pub digest : List ℕ
  pub best : Option IncumbentView

-- a report as its readers see it
abbrev pub report_view : PartReport → ReportView
report_view r = record { index = r.index; of = r.of; digest = r.digest; best = option_map incumbent_view r.best }

-- the value of the best solution
abbrev pub value_told : ReportView → Option ℤ
value_told r = option_map (λ (b : IncumbentView). b.value) r.best

-- the values of reports, in order
abbrev pub values_told : List ReportView → List (Option ℤ)
values_told rs = map value_told rs

-- the decisions are a feasible solution with the value
abbrev pub IsTested : Dp → Option IncumbentView → Type 0
IsTested dp None = Unit {0}
IsTested dp (Some b) = IsSolutionWith dp b.decisions b.value

-- a test of it
abbrev pub TestGives : Dp → Option IncumbentView → Bool → Type 0
TestGives dp best true = IsTested dp best
TestGives dp best false = IsTested dp best → ⊥

-- each report tells none or a feasible solution with its value
abbrev pub AreTested : Dp → List ReportView → Type 0
AreTested dp rs = Each (λ (r : ReportView). IsTested dp r.best) rs

-- this is the place of the first report whose solution is none with its value, from the place i on
abbrev pub IsFirstUntested : Dp → ℕ → List ReportView → ℕ → Type 0
IsFirstUntested dp i [] place = ⊥
IsFirstUntested dp i (r ∷ rs) place = ((place ≡ i) × (IsTested dp r.best → ⊥)) ⊎ (IsTested dp r.best × IsFirstUntested dp (i + 1) rs place)

-- the place of the first such report, or none
abbrev pub UntestedGives : Dp → ℕ → List ReportView → Option ℕ → Type 0
UntestedGives dp i rs None = AreTested dp rs
UntestedGives dp i rs (Some place) = IsFirstUntested dp i rs place

-- whether the report is of the part with the number i, of this number of parts
abbrev pub is_of_part : ℕ → ℕ → ReportView → Bool
is_of_part of i r = nat_eq r.index i && nat_eq r.of of

-- whether it is of a part of the journal with this digest
abbrev pub is_of_journal : List ℕ → ReportView → Bool
is_of_journal digest r = bytes_eq r.digest digest

-- a report that may stand at the place i, of this number of reports
pub record IsReport (dp : Dp) (digest : List ℕ) (of i : ℕ) (r : ReportView) : Type 0 where
  pub part : IsTrue (is_of_part of i r)
  pub journal : IsTrue (is_of_journal digest r)
  pub tested : IsTested dp r.best

-- so each of them, from the place i on
abbrev pub AreReports : Dp → List ℕ → ℕ → ℕ → List ReportView → Type 0
AreReports dp digest of i [] = Unit {0}
AreReports dp digest of i (r ∷ rs) = IsReport dp digest of i r × AreReports dp digest of (i + 1) rs

-- why a report may not stand at the place i
abbrev pub IsRefused : Dp → List ℕ → ℕ → ℕ → ReportView → ReportFault → Type 0
IsRefused dp digest of i r (faults.Part place) = (place ≡ i) × (is_of_part of i r ≡ false)
IsRefused dp digest of i r (faults.Journal place) = (place ≡ i) × IsTrue (is_of_part of i r) × (is_of_journal digest r ≡ false)
IsRefused dp digest of i r (faults.Value place) = (place ≡ i) × IsTrue (is_of_part of i r) × IsTrue (is_of_journal digest r) × (IsTested dp r.best → ⊥)
IsRefused dp digest of i r faults.OutOfMemory = ⊥

-- the fault of a report at the place i, or none
abbrev pub FaultGives : Dp → List ℕ → ℕ → ℕ → ReportView → Option ReportFault → Type 0
FaultGives dp digest of i r None = IsReport dp digest of i r
FaultGives dp digest of i r (Some fault) = IsRefused dp digest of i r fault

-- the first of the reports that is refused, from the place i on
abbrev pub IsFirstFault : Dp → List ℕ → ℕ → ℕ → List ReportView → ReportFault → Type 0
IsFirstFault dp digest of i [] fault = ⊥
IsFirstFault dp digest of i (r ∷ rs) fault = IsRefused dp digest of i r fault ⊎ (IsReport dp digest of i r × IsFirstFault dp digest of (i + 1) rs fault)

-- the first fault of reports, or none
abbrev pub FaultsGive : Dp → List ℕ → ℕ → ℕ → List ReportView → Option ReportFault → Type 0
FaultsGive dp digest of i rs None = AreReports dp digest of i rs
FaultsGive dp digest of i rs (Some fault) = IsFirstFault dp digest of i rs fault

-- an error is the first fault; want of memory may come anywhere
abbrev pub Refuses : Dp → List ℕ → ℕ → List ReportView → ReportFault → Type 0
Refuses dp digest of rs faults.OutOfMemory = Unit {0}
Refuses dp digest of rs fault = IsFirstFault dp digest of 0 rs fault
