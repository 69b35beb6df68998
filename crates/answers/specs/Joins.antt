-- When what is answered to outputs of the parts of a problem is right.
use Rattle.std.specs.Prelude.{◌≡◌, ℕ, ◌≤◌, ℤ, pos, true, List, [], ◌∷◌, length, Option, Some, None, MatchResult}
use Rattle.cover_join.specs.Joining.{join_fault}
use Rattle.cover_join.specs.declared.join_error.JoinError.{JoinError}
use Rattle.cover_join.specs.declared.join_error.JoinError.TheVariants as causes
use Rattle.cover_text.specs.Several.{texts_of}
use Rattle.cover_text.specs.Texts.{CoverTextView}
use Rattle.dp_model.specs.Dp.{Dp}
use Rattle.problem_names.specs.declared.ModelName.{ModelName}
use Rattle.problems.specs.Theories.{theory_of}
use Rattle.solver_report.specs.Report.{distance_told, is_final, report}
use Rattle.solver_report.specs.declared.answer.Answer.{Answer}
use Rattle.solver_report.specs.declared.answer.Answer.TheVariants as answers
use Rattle.solver_report.specs.declared.answer.JoinRefusal.{JoinRefusal}
use Rattle.solver_report.specs.declared.answer.JoinRefusal.TheVariants as refusals
use Rattle.solver_report.specs.declared.answer.Outcome.{Outcome}
use Rattle.solver_report.specs.declared.answer.Outcome.TheVariants as outcomes
use Rattle.answers.specs.Checks.{RefusesCover, RefusesInstance}
use Rattle.answers.specs.Covers.{IsAccepted, cover_limit}
use Rattle.answers.specs.Outcomes.{IsTrueOf}

-- a refusal is this fault
abbrev pub fault_told : JoinRefusal → JoinError
fault_told (refusals.Order index) = causes.Order index
fault_told (refusals.Instance index) = causes.Instance index
fault_told (refusals.Refused index why) = causes.Refused index why

-- what is told is this value, with the distance 0 and this assignment
abbrev pub IsClaimOf : Option ℤ → List ℕ → Outcome → Type 0
IsClaimOf None x outcome = outcome ≡ outcomes.Infeasible
IsClaimOf (Some value) x outcome = outcome ≡ outcomes.Proved (record { decisions = x; value = value }) (pos 0)

-- what is told of a whole problem is true, with the distance 0, and the whole output, where it is not too long for `check`, is accepted
pub record IsWhole (dp : Dp) (own : List ℕ → Option ℤ) (name : ModelName) (instance : List ℕ) (outcome : Outcome) (answer : Answer) : Type 0 where
  pub final : is_final outcome ≡ true
  pub exact : distance_told outcome ≡ pos 0
  pub true_told : IsTrueOf dp own 0 outcome
  pub accepted : length (report answer) ≤ cover_limit → IsAccepted name None instance (report answer)

-- a whole problem is told of, or there was no memory
abbrev pub TellsWhole : Dp → (List ℕ → Option ℤ) → ModelName → List ℕ → Answer → Type 0
TellsWhole dp own name instance (answers.Covered outcome None (Some cover)) = IsWhole dp own name instance outcome (answers.Covered outcome None (Some cover))
TellsWhole dp own name instance answers.OutOfMemory = Unit {0}
TellsWhole dp own name instance _ = ⊥

-- what may be answered to texts: their first fault, or, where they have none, what is told of the whole problem of the first one
abbrev pub JoinsIn : Dp → (List ℕ → Option ℤ) → CoverTextView → List CoverTextView → Answer → Type 0
JoinsIn dp own first texts (answers.PartsRefused refusal) = join_fault dp texts ≡ Some (fault_told refusal)
JoinsIn dp own first texts answers.OutOfMemory = Unit {0}
JoinsIn dp own first texts answer = (join_fault dp texts ≡ None) × TellsWhole dp own first.model first.instance answer

-- what may be answered where there is no text: that the place 0 is empty
abbrev pub JoinsNone : Answer → Type 0
JoinsNone (answers.PartsRefused refusal) = refusal ≡ refusals.Order 0
JoinsNone answers.OutOfMemory = Unit {0}
JoinsNone _ = ⊥

-- what may be answered to texts, by the problem of the first one, or the first fault of its instance
abbrev pub JoinsTexts : List CoverTextView → Answer → Type 0
JoinsTexts [] answer = JoinsNone answer
JoinsTexts (first ∷ more) answer =
    MatchResult ((theory_of first.model).spelled first.instance)
    (λ numbers. JoinsIn ((theory_of first.model).program numbers) ((theory_of first.model).own_value numbers) first (first ∷ more) answer)
    (λ e. RefusesInstance e answer)

-- what may be answered to the outputs: to the texts that they are read as, or the first fault
abbrev pub IsJoined : List ℕ → Answer → Type 0
IsJoined bytes answer = MatchResult (texts_of bytes) (λ texts. JoinsTexts texts answer) (λ e. RefusesCover e answer)
