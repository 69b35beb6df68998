use Rattle.std.proofs.Common.{List, inl, map, refl, subst}
use Rattle.part_reports.specs.Reports.{report_view}
use Rattle.part_reports.specs.declared.report.PartReport.{PartReport}
use Rattle.answers.specs.Ended.{readings}
use Rattle.answers.specs.Kept.{LeavesAfterResume, MayFollow, Resumes}
use Rattle.commands.proofs.Left.{left_offers}
use Rattle.commands.proofs.Offered.{offers-none, resumes-input}
use Rattle.commands.proofs.answering.resume_input.Goals as goal

pub returns-in-Ok-clause-answer : goal.returns-in-Ok-clause-answer
returns-in-Ok-clause-answer g c =
    let r = readings g.S.Source.left g.S.Source.faults c.args.input.now c.read_offers.new.input in
    let e = c.in-Ok.ensures.offers in
    let answer = c.resume.result.0 in
    let resumes = subst (λ (offers : List PartReport). Resumes g.D.Disk (map report_view offers) c.args.search c.args.disk c.resume.result.1 answer) c.as_slice.ensures.value c.resume.ensures.resumes in
    resumes-input g.D.Disk c.args.search c.resume.result.1 c.args.disk (map report_view c.in-Ok.offers.items) r e.bytes answer e.read e.told resumes

pub returns-in-Err-clause-answer : goal.returns-in-Err-clause-answer
returns-in-Err-clause-answer g c =
    let r = readings g.S.Source.left g.S.Source.faults c.args.input.now c.read_offers.new.input in
    offers-none g.D.Disk c.args.search c.args.disk r c.in-Err.answer c.in-Err.ensures.refused

pub returns-in-Ok-clause-left : goal.returns-in-Ok-clause-left
returns-in-Ok-clause-left g c =
    let r = readings g.S.Source.left g.S.Source.faults c.args.input.now c.read_offers.new.input in
    let left = LeavesAfterResume g.D.Disk MayFollow c.args.path.now c.args.disk c.resume.result.1 in
    left_offers r (map report_view c.in-Ok.offers.items) left c.args.disk c.resume.result.1 c.in-Ok.ensures.offers c.resume.ensures.left

pub returns-in-Err-clause-left : goal.returns-in-Err-clause-left
returns-in-Err-clause-left g c = inl refl
