use Rattle.std.proofs.Common.{◌∙◌, sym, ap, subst, length, map, option_map}
use Rattle.journal_bytes.specs.Views.{incumbent_view}
use Rattle.part_reports.specs.Best.{value_in}
use Rattle.part_reports.specs.Reports.{report_view, AreReports, IsTested}
use Rattle.part_reports.proofs.Greatest.{best-tested, best-value}
use Rattle.part_reports.proofs.best.best_of_reports.Goals as goal

pub returns-clause-value : goal.returns-clause-value
returns-clause-value g c = ap value_in c.best_of_all.ensures ∙ best-value (option_map incumbent_view c.args.incumbent) (map report_view c.args.reports.items)

pub returns-clause-feasible : goal.returns-clause-feasible
returns-clause-feasible g c = λ h.
    let dp = g.M.DpModel.meaning (g.M.DpModel.numbers c.args.model.now) in
    let digest = c.args.digest.now in
    let are = subst (λ items. AreReports dp digest (length items) 0 (map report_view items)) c.as_slice.ensures.value c.in_ok-test_reports.ensures.tested in
    subst (IsTested dp) (sym c.best_of_all.ensures) (best-tested dp digest (length c.args.reports.items) 0 (option_map incumbent_view c.args.incumbent) (map report_view c.args.reports.items) are h)
