use Rattle.std.proofs.Common.{◌≡◌, ℤ, List, map, subst, w64, to_z, of_z, rules}
use Rattle.part_text.specs.Reports.{settled_view}
use Rattle.part_text.specs.declared.settled_report.SettledReport.{SettledReport}
use Rattle.answers.specs.ReportsJoined.{AreWithin}
use Rattle.answers.proofs.reporting.best_on.Goals as goal

pub returns-in-Err-clause-refused : goal.returns-in-Err-clause-refused
returns-in-Err-clause-refused g c =
    let read : to_z w64 (of_z w64 c.args.within) ≡ c.args.within = search rules in
    let near = subst (λ (z : ℤ). AreWithin z (map settled_view c.args.reports.items)) read
    (subst (λ (rs : List SettledReport). AreWithin (to_z w64 (of_z w64 c.args.within)) (map settled_view rs)) c.as_slice.ensures.value c.in_default.ensures) in
    c.refused.ensures (g.M.DpModel.meaning (g.M.DpModel.numbers c.args.model.now)) c.args.within c.args.digest.now (map settled_view c.args.reports.items) near c.in-Err.ensures.refused
