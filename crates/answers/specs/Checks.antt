-- When what is answered to a whole output with a cover is right.
use Rattle.std.specs.Prelude.{◌≡◌, ℕ, ℤ, List, Option, Some, None, MatchResult}
use Rattle.bound_cover.specs.Covers.{CoverRow}
use Rattle.bound_cover.specs.Verdicts.{verdict}
use Rattle.bound_cover.specs.declared.cover.Verdict.{Verdict}
use Rattle.bound_cover.specs.declared.cover.Verdict.TheVariants.{Accepted}
use Rattle.cover_text.specs.Texts.{CoverTextView, OpenView, cover_after, held_with, text_of}
use Rattle.cover_text.specs.declared.cover_error.CoverError.{CoverError}
use Rattle.cover_text.specs.declared.cover_error.CoverError.TheVariants as causes
use Rattle.tokens.specs.Grammar.{of_text}
use Rattle.tokens.specs.declared.instance_error.InstanceError.{InstanceError}
use Rattle.tokens.specs.declared.instance_error.InstanceFault.TheVariants as faults
use Rattle.dp_model.specs.Dp.{Dp}
use Rattle.problem_theory.specs.declared.refusal.InstanceRefusal.{InstanceRefusal}
use Rattle.problems.specs.Theories.{theory_of}
use Rattle.problem_theory.specs.Theory.{Theory}
use Rattle.solver_report.specs.declared.answer.Answer.{Answer}
use Rattle.solver_report.specs.declared.answer.Answer.TheVariants as answers
use Rattle.answers.specs.Parts.{own_in, program_in}
use Rattle.answers.specs.Reports.{IsProvedWithin, IsInfeasible}

-- a report is true: its solution is feasible, and none is further above it than the distance, or there is none, in both senses
abbrev pub IsTrueReport : Dp → (List ℕ → Option ℤ) → Option ℤ → ℤ → List ℕ → Type 0
IsTrueReport dp own None within x = IsInfeasible dp own
IsTrueReport dp own (Some value) within x = IsProvedWithin dp own within (record { decisions = x; value = value })

-- the verdict is the first test that fails; where none fails, the report is true
pub record IsVerdict (dp : Dp) (own : List ℕ → Option ℤ) (held : CoverTextView) (given : Verdict) : Type 0 where
  pub exact : given ≡ verdict dp held.best held.within held.assignment held.cover
  pub sound : given ≡ Accepted → IsTrueReport dp own held.best held.within held.assignment

-- what may be answered for the instance
abbrev pub Checks : Dp → (List ℕ → Option ℤ) → CoverTextView → Answer → Type 0
Checks dp own held (answers.Checked given) = IsVerdict dp own held given
Checks dp own held answers.OutOfMemory = Unit {0}
Checks dp own held _ = ⊥

-- the first fault of an instance is answered, or want of memory
abbrev pub RefusesInstance : InstanceRefusal → Answer → Type 0
RefusesInstance e (answers.Refused given) = given ≡ e
RefusesInstance e answers.OutOfMemory = Unit {0}
RefusesInstance e _ = ⊥

-- what may be answered for what a text holds: for its instance, or the part of it that is meant, or the first fault of that
abbrev pub ChecksText : Theory → CoverTextView → Answer → Type 0
ChecksText t held answer = MatchResult (t.spelled held.instance) (λ numbers. Checks (program_in held.part (t.program numbers)) (own_in held.part (t.own_value numbers)) held answer) (λ e. RefusesInstance e answer)

-- how a fault is told, where it is not want of memory
abbrev pub told : CoverError → Option InstanceError
told (causes.Text e) = Some (of_text e)
told (causes.Word p) = Some (record { fault = faults.Word; place = p })
told causes.OutOfMemory = None

-- the first fault is answered, or want of memory
abbrev pub RefusesCover : CoverError → Answer → Type 0
RefusesCover e (answers.CoverRefused given) = told e ≡ Some given
RefusesCover e answers.OutOfMemory = Unit {0}
RefusesCover e _ = ⊥

-- what may be answered to sections: to the cover that they are read as, or to their first fault
abbrev pub ToSections : OpenView → (List (List CoverRow) → Answer → Type 0) → Answer → Type 0
ToSections o held answer = MatchResult (cover_after o.before o.following) (λ cover. held cover answer) (λ e. RefusesCover e answer)

-- what may be answered to a text up to its sections, and to these
abbrev pub ChecksOpened : Theory → OpenView → Answer → Type 0
ChecksOpened t o answer = ToSections o (λ cover. ChecksText t (held_with o cover)) answer

-- what may be answered to a whole output: for what it holds by its problem, or the first fault of its text
abbrev pub IsChecked : List ℕ → Answer → Type 0
IsChecked bytes answer = MatchResult (text_of bytes) (λ held. ChecksText (theory_of held.model) held answer) (λ e. RefusesCover e answer)
