-- The reports before a place are right.
use Rattle.std.proofs.Common.{ℕ, ◌+◌, List, ◌∷◌, Option, Some, None, inr}
use Rattle.dp_model.specs.Dp.{Dp}
use Rattle.part_reports.specs.Reports.{ReportView, IsReport, IsTested, FaultsGive, UntestedGives}
use Rattle.part_reports.specs.declared.fault.ReportFault.{ReportFault}

-- after a report that is right the first fault is that of the others
pub fault-after : (dp : Dp) (digest : List ℕ) (of i : ℕ) (r : ReportView) (rs : List ReportView) → IsReport dp digest of i r
    → (fault : Option ReportFault) → FaultsGive dp digest of (i + 1) rs fault → FaultsGive dp digest of i (r ∷ rs) fault
fault-after dp digest of i r rs is None more = (is, more)
fault-after dp digest of i r rs is (Some fault) more = inr (is, more)

-- after a report that is tested the first untested one is that of the others
pub untested-after : (dp : Dp) (i : ℕ) (r : ReportView) (rs : List ReportView) → IsTested dp r.best → (place : Option ℕ) → UntestedGives dp (i + 1) rs place → UntestedGives dp i (r ∷ rs) place
untested-after dp i r rs is None more = (is, more)
untested-after dp i r rs is (Some place) more = inr (is, more)
