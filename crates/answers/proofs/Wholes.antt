-- What is told of a whole problem whose cover is accepted.
use Rattle.std.proofs.Common.{◌≡◌, ℕ, ◌^◌, ℤ, pos, true, List, length, Option, Some, None, Vec, refl, sym, ap, ◌∙◌, subst, arith}
use Rattle.std.specs.Prelude.{Ok}
use Rattle.std.specs.declared.alloc.Global.{Global}
use Rattle.std.proofs.lemmas.Int.{ints}
use Rattle.dp_model.specs.Dp.{Dp}
use Rattle.dp_model.specs.Laws.{IsLawful}
use Rattle.bound_cover.specs.Covers.{CoverRow}
use Rattle.bound_cover.specs.Verdicts.{checked, verdict}
use Rattle.bound_cover.specs.declared.cover.Verdict.TheVariants.{Accepted}
use Rattle.bound_cover.proofs.Sound.{accepted-is-near, accepted-none}
use Rattle.cover_text.specs.Outputs.{cover_lines, printed_lines, printed_whole}
use Rattle.cover_text.specs.Printed.{printed_cover}
use Rattle.cover_text.specs.Texts.{CoverTextView, text_of}
use Rattle.cover_text.specs.Written.{IsWritten}
use Rattle.cover_text.proofs.OutputsRead.{outputs_read}
use Rattle.problem_names.specs.declared.ModelName.{ModelName}
use Rattle.problems.specs.Theories.{theory_of}
use Rattle.problem_theory.specs.Theory.{Agrees, Theory}
use Rattle.solver_report.specs.Report.{count_lines, distance_told, is_final, outcome_lines, report, value_told}
use Rattle.solver_report.specs.declared.answer.Answer.TheVariants as answers
use Rattle.solver_report.specs.declared.answer.Outcome.{Outcome}
use Rattle.answers.specs.Checks.{Checks}
use Rattle.answers.specs.Joins.{IsClaimOf, IsWhole}
use Rattle.answers.specs.Outcomes.{IsTrueOf}
use Rattle.answers.proofs.Covered.{assignment_told, claim_told, told-fits, true-told, whole-printed, part-short, checks-read}
use Rattle.answers.proofs.Reports.{true-report}

-- what an accepted cover shows of what is told
pub record IsShown (dp : Dp) (own : List ℕ → Option ℤ) (cover : List (List CoverRow)) (outcome : Outcome) : Type 0 where
  pub final : is_final outcome ≡ true
  pub exact : distance_told outcome ≡ pos 0
  pub true_told : IsTrueOf dp own 0 outcome
  pub accepted : verdict dp (value_told outcome) (distance_told outcome) (assignment_told outcome) cover ≡ Accepted

shown-one : (dp : Dp) → IsLawful dp → (own : List ℕ → Option ℤ) → Agrees dp own → (best : Option ℤ) (x : List ℕ) (cover : List (List CoverRow)) (outcome : Outcome) → verdict dp best (pos 0) x cover ≡ Accepted → IsClaimOf best x outcome → IsShown dp own cover outcome
shown-one dp laws own agrees None x cover outcome accepted is =
    subst (IsShown dp own cover) (sym is)
    (record { final = refl; exact = refl; true_told = true-report dp own agrees None (pos 0) x (accepted-is-near dp laws None (pos 0) x cover (accepted-none (checked dp None (pos 0) x cover) accepted)); accepted = accepted })
shown-one dp laws own agrees (Some value) x cover outcome accepted is =
    subst (IsShown dp own cover) (sym is)
    (record {
      final = refl;
      exact = refl;
      true_told = (record { least = omega (arith, ints); most = omega (arith, ints) }, true-report dp own agrees (Some value) (pos 0) x (accepted-is-near dp laws (Some value) (pos 0) x cover (accepted-none (checked dp (Some value) (pos 0) x cover) accepted)));
      accepted = accepted;
    })

-- it is told, and accepted
pub whole_told : (name : ModelName) (t : Theory) (numbers : List ℤ) (dp : Dp) (instance : List ℕ) (best : Option ℤ) (x : List ℕ) (cover : List (List CoverRow)) (outcome : Outcome) (text : Vec ℕ Global)
    → theory_of name ≡ t → dp ≡ t.program numbers → IsLawful dp → Agrees dp (t.own_value numbers) → t.spelled instance ≡ Ok numbers → verdict dp best (pos 0) x cover ≡ Accepted → IsClaimOf best x outcome
    → IsWritten cover → text.items ≡ printed_whole name None instance cover → IsWhole dp (t.own_value numbers) name instance outcome (answers.Covered outcome None (Some text))
whole_told name t numbers dp instance best x cover outcome text named same laws agrees spelled accepted is written printed =
    let own = t.own_value numbers in
    let shown = shown-one dp laws own agrees best x cover outcome accepted is in
    let answer = answers.Covered outcome None (Some text) in
    let held : CoverTextView = record { model = name; part = None; best = value_told outcome; within = distance_told outcome; assignment = assignment_told outcome; instance = instance; cover = cover } in
    record {
      final = shown.final;
      exact = shown.exact;
      true_told = shown.true_told;
      accepted = λ short.
          let few = part-short (outcome_lines outcome) (count_lines None) (printed_lines (cover_lines name None (length instance))) instance (printed_cover cover) text.items (2 ^ 28) printed short in
          let is_read : text_of (report answer) ≡ Ok held =
          ap text_of (whole-printed outcome None name None instance cover text.items shown.final printed)
          ∙ outputs_read (claim_told outcome) None name None instance cover (told-fits dp laws own 0 outcome shown.true_told) tt tt (omega arith) written in
          let checks : Checks dp own held (answers.Checked Accepted) = record { exact = sym shown.accepted; sound = λ _. true-told dp own 0 outcome shown.final shown.true_told } in
          checks-read name t numbers held (report answer) named refl spelled is_read (subst (λ d. Checks d own held (answers.Checked Accepted)) same checks);
    }
