use Rattle.std.proofs.Common.{◌∙◌, ℕ, ℤ, List, Option, Some, map, ap, subst}
use Rattle.part_reports.specs.Reports.{AreTested, UntestedGives, report_view}
use Rattle.commands.proofs.Starts.{passed-on-offered}
use Rattle.commands.proofs.resuming.taking.Goals as goal

pub returns-in_err-start-clause-refused : goal.returns-in_err-start-clause-refused
returns-in_err-start-clause-refused g c =
    let dp = g.M.DpModel.meaning (g.M.DpModel.numbers c.args.model) in
    passed-on-offered dp c.args.search c.args.records.now (map report_view c.args.offers.now) c.in_err-start.field-0.0 c.in_err-start.ensures.refused c.from_residual.result c.from_residual.ensures.1

pub returns-in-Ok-None-clause-tested : goal.returns-in-Ok-None-clause-tested
returns-in-Ok-None-clause-tested g c =
    let at = ap g.M.DpModel.numbers c.deref.ensures ∙ c.in_ok-start.ensures.model in
    let offers = map report_view c.args.offers.now in
    subst (λ (ns : List ℤ). AreTested (g.M.DpModel.meaning ns) offers) at
    (subst (λ (place : Option ℕ). UntestedGives (g.M.DpModel.meaning (g.M.DpModel.numbers c.deref.result.now)) 0 offers place) c.in-Ok-None.field-0-is c.in-Ok-None.ensures)

pub returns-in-Ok-Some-clause-refused : goal.returns-in-Ok-Some-clause-refused
returns-in-Ok-Some-clause-refused g c =
    let at = ap g.M.DpModel.numbers c.deref.ensures ∙ c.in_ok-start.ensures.model in
    let offers = map report_view c.args.offers.now in (
      c.in_ok-start.ensures.goes_on.accepted,
      subst (λ (ns : List ℤ). UntestedGives (g.M.DpModel.meaning ns) 0 offers (Some c.in-Ok-Some.place)) at
          (subst (λ (place : Option ℕ). UntestedGives (g.M.DpModel.meaning (g.M.DpModel.numbers c.deref.result.now)) 0 offers place) c.in-Ok-Some.field-0-is c.in-Ok-Some.ensures),
    )
