use Rattle.std.proofs.Common.{◌≡◌, ◌∙◌, ℤ, map, Some, None, ap, subst, w64, to_z, of_z, rules}
use Rattle.part_text.specs.Reports.{settled_view}
use Rattle.answers.specs.ReportsJoined.{DistancesGive}
use Rattle.answers.proofs.Distances.{far-first, none-far}
use Rattle.answers.proofs.reporting.far_report.Goals as goal

pub returns-then-report-within : goal.returns-then-report-within
returns-then-report-within c =
    let read : to_z w64 (of_z w64 c.args.within) ≡ c.args.within = search rules in
    subst (λ (z : ℤ). DistancesGive z 0 (map settled_view c.args.reports.now) (Some c.loop-rest.place)) read
    (c.loop-rest.invariant.first (Some c.loop-rest.place)
    (far-first (to_z w64 (of_z w64 c.args.within)) c.loop-rest.place c.loop-rest.rest.now c.report-item.result c.in-len1-up.len_at_least c.report-item.is (λ same. c.if-report-within.true (ap (λ (z : ℤ). of_z w64 z) (same ∙ read)))))

pub returns : goal.returns
returns c =
    let read : to_z w64 (of_z w64 c.args.within) ≡ c.args.within = search rules in
    subst (λ (z : ℤ). DistancesGive z 0 (map settled_view c.args.reports.now) None) read
    (c.loop-rest.invariant.first None (none-far (to_z w64 (of_z w64 c.args.within)) c.loop-rest.rest.now c.in_default.len_below))
