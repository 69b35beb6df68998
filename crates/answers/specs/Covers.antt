-- When a cover after a report is right.
use Rattle.std.specs.Prelude.{◌≡◌, ℕ, ◌^◌, ◌≤◌, ℤ, List, length, Option, Some, None, Ok}
use Rattle.bound_cover.specs.Covers.{CoverRow}
use Rattle.bound_cover.specs.Verdicts.{checked_rows}
use Rattle.bound_cover.specs.declared.cover.Verdict.TheVariants.{Accepted}
use Rattle.cover_text.specs.Outputs.{printed_whole}
use Rattle.cover_text.specs.Texts.{CoverTextView, text_of}
use Rattle.cover_text.specs.Written.{IsWritten}
use Rattle.dp_model.specs.Dp.{Dp}
use Rattle.problem_names.specs.declared.ModelName.{ModelName}
use Rattle.problem_names.specs.declared.part.PartNumber.{PartNumber}
use Rattle.solver_report.specs.Report.{report}
use Rattle.solver_report.specs.declared.answer.Answer.{Answer}
use Rattle.solver_report.specs.declared.answer.Answer.TheVariants as answers
use Rattle.answers.specs.Checks.{IsChecked}

-- the printed cover of an instance, or of the part of it that is meant, whose rows pass for the claim
pub record IsCoverText (dp : Dp) (name : ModelName) (part : Option PartNumber) (instance : List ℕ) (claim : Option ℤ) (text : List ℕ) : Type 0 where
  pub cover : List (List CoverRow)
  pub passes : checked_rows dp claim cover ≡ None
  pub written : IsWritten cover
  pub printed : text ≡ printed_whole name part instance cover

-- the text holds this instance of this problem, or the part of it that is meant, and `check` accepts it
pub record IsAccepted (name : ModelName) (part : Option PartNumber) (instance text : List ℕ) : Type 0 where
  pub held : CoverTextView
  pub is_read : text_of text ≡ Ok held
  pub of_problem : held.model ≡ name
  pub of_part : held.part ≡ part
  pub of_instance : held.instance ≡ instance
  pub accepted : IsChecked text (answers.Checked Accepted)

-- how many bytes a whole output with its cover has at most where `check` reads it
abbrev pub cover_limit : ℕ
cover_limit = 2 ^ 28

-- a report with its cover, where it is not too long for `check`, is accepted
abbrev pub IsCoveredIn : ModelName → Option PartNumber → List ℕ → Answer → Type 0
IsCoveredIn name part instance (answers.Covered outcome counts (Some cover)) =
    length (report (answers.Covered outcome counts (Some cover))) ≤ cover_limit → IsAccepted name part instance (report (answers.Covered outcome counts (Some cover)))
IsCoveredIn name part instance _ = Unit {0}

-- and so for a whole problem
abbrev pub IsCovered : ModelName → List ℕ → Answer → Type 0
IsCovered name instance answer = IsCoveredIn name None instance answer
