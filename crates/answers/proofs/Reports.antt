-- What an accepted cover says of its report.
use Rattle.std.proofs.Common.{ℕ, ℤ, List, Option, Some, None, subst}
use Rattle.bound_cover.specs.Proved.{IsReportedWithin}
use Rattle.dp_model.specs.Best.{IsBest}
use Rattle.dp_model.specs.Dp.{Dp}
use Rattle.dp_model.proofs.Solutions.{best-is_best}
use Rattle.problem_theory.specs.Theory.{Agrees}
use Rattle.answers.specs.Checks.{IsTrueReport}
use Rattle.answers.proofs.Conclusions.{infeasible, proved_near}

pub true-report : (dp : Dp) (own : List ℕ → Option ℤ) → Agrees dp own → (value : Option ℤ) (within : ℤ) (x : List ℕ) → IsReportedWithin dp x value within → IsTrueReport dp own value within x
true-report dp own agrees None within x h = infeasible dp own agrees (subst (IsBest dp) h.near (best-is_best dp))
true-report dp own agrees (Some value) within x h = proved_near dp own agrees within (record { decisions = x; value = value }) h.shown h.near
