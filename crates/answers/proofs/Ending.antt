-- What is told of a search is what it may answer.
use Rattle.std.proofs.Common.{◌≡◌, ◌&&◌, true, false, Option, is_some, sym, subst}
use Rattle.dp_model.specs.Dp.{Dp}
use Rattle.solver_report.specs.Report.{is_final}
use Rattle.solver_report.specs.declared.answer.Answer.{Answer}
use Rattle.solver_report.specs.declared.answer.Answer.TheVariants as answers
use Rattle.solver_report.specs.declared.answer.Counts.{Counts}
use Rattle.solver_report.specs.declared.answer.Outcome.{Outcome}
use Rattle.solver_words.specs.declared.job.JobSettings.{JobSettings}
use Rattle.answers.specs.Answers.{Ends, IsReport}

-- the answer that tells of a search is one that the search may give
pub report-ends : (dp : Dp) (search : JobSettings) (Has : Outcome → Option Counts → Type 0) (outcome : Outcome) (counts : Option Counts) (answer : Answer)
    → IsReport search outcome counts answer → Has outcome counts → Ends dp search Has answer
report-ends dp search Has outcome counts (answers.Searched told counted) h has =
    (subst (λ (o : Outcome). Has o counted) (sym h.0) (subst (λ (n : Option Counts). Has outcome n) (sym h.1) has), subst (λ (o : Outcome). (is_some search.cover_words && is_final o) ≡ false) (sym h.0) h.2)
report-ends dp search Has outcome counts (answers.Covered told counted cover) h has =
    (subst (λ (o : Outcome). Has o counted) (sym h.0) (subst (λ (n : Option Counts). Has outcome n) (sym h.1) has), subst (λ (o : Outcome). (is_some search.cover_words && is_final o) ≡ true) (sym h.0) h.2)
report-ends dp search Has outcome counts (answers.Digest digest) h has = absurd h
report-ends dp search Has outcome counts (answers.Drawn text) h has = absurd h
report-ends dp search Has outcome counts (answers.Checked given) h has = absurd h
report-ends dp search Has outcome counts (answers.Refused e) h has = absurd h
report-ends dp search Has outcome counts (answers.CoverRefused e) h has = absurd h
report-ends dp search Has outcome counts (answers.PartsRefused e) h has = absurd h
report-ends dp search Has outcome counts (answers.PartFile file) h has = absurd h
report-ends dp search Has outcome counts (answers.PartSearched part told counted) h has = absurd h
report-ends dp search Has outcome counts (answers.ReportRefused e) h has = absurd h
report-ends dp search Has outcome counts (answers.ReportsRefused e) h has = absurd h
report-ends dp search Has outcome counts answers.PartTooLarge h has = absurd h
report-ends dp search Has outcome counts answers.TooLong h has = absurd h
report-ends dp search Has outcome counts answers.Width h has = absurd h
report-ends dp search Has outcome counts (answers.Words e) h has = absurd h
report-ends dp search Has outcome counts (answers.Journal e) h has = absurd h
report-ends dp search Has outcome counts answers.ReadFault h has = absurd h
report-ends dp search Has outcome counts answers.OutOfMemory h has = absurd h
