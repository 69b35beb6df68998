use Rattle.std.proofs.Common.{◌≡◌, map, is_some, refl, sym, subst, true, ◌∙◌}
use Rattle.dp_model.specs.Laws.{IsLawful}
use Rattle.journal_bytes.specs.Journal.{head_view}
use Rattle.part_reports.specs.Reports.{report_view}
use Rattle.problem_theory.specs.Theory.{Agrees}
use Rattle.answers.specs.Kept.{MayBeAdded, ResumesIn, going_on, starts_for}
use Rattle.answers.proofs.Journaled.{none-follow}
use Rattle.commands.proofs.GoingOn.{leaves-it, may-go-on, resumes-in}
use Rattle.commands.proofs.resuming.resume_model.Given as given
use Rattle.commands.proofs.resuming.resume_model.Goals as goal

laws_of : (g : given.Over) (m : g.row.P.Denot) → IsLawful (g.P.DpModel.meaning (g.P.DpModel.numbers m))
laws_of g m = (g.met.P.DpModel g.world.𝓛 g.world.𝓜 g.world.𝓡 ((λ s x. x), (λ x. x), (λ x. x), λ x. x)).lawful m

agrees_of : (g : given.Over) (m : g.row.P.Denot) → Agrees (g.P.DpModel.meaning (g.P.DpModel.numbers m)) (g.P.Problem.theory.own_value (g.P.DpModel.numbers m))
agrees_of g m = (g.met.P.Problem g.world.𝓛 g.world.𝓜 g.world.𝓡 ((λ s x. x), (λ x. x), (λ x. x), λ x. x)).agrees m

pub returns-then-not-has_starts-clause-left : goal.returns-then-not-has_starts-clause-left
returns-then-not-has_starts-clause-left g c =
    let dp = g.P.DpModel.meaning (g.P.DpModel.numbers c.args.model) in
    let rs = c.args.records.now.records in
    leaves-it g.D.Disk (MayBeAdded dp c.args.head.now.within rs) (head_view c.args.tail.version c.args.head.now) rs c.args.disk c.args.tail c.requires.opened (none-follow g.D.Disk dp c.args.head.now.within rs)

pub returns-clause-resumes : goal.returns-clause-resumes
returns-clause-resumes g c =
    let here = g.P.DpModel.numbers c.args.model in
    let dp = g.P.DpModel.meaning here in
    let own = g.P.Problem.theory.own_value here in
    let part = c.args.head.now.part in
    let head = head_view c.args.tail.version c.args.head.now in
    let records = c.args.records.now in
    let offers = map report_view c.args.asked.offers.now in
    let ended = c.resume_search-ended.result.0 in
    let now = c.resume_search-ended.result.1 in
    let may = may-go-on head (going_on head c.args.asked.search) c.args.asked.search refl c.requires.distance c.requires.may in
    let there : is_some (starts_for part records.records) ≡ true = sym c.has_starts.ensures ∙ c.if-not-has_starts.false in
    subst (ResumesIn g.D.Disk dp own part head records.records records.first offers c.args.asked.search now) (sym c.report_in.ensures)
    (resumes-in g.D.Disk dp (laws_of g c.args.model) own (agrees_of g c.args.model) head records offers c.args.asked.search may c.requires.coverless c.args.disk now part ended there c.resume_search-ended.ensures.told c.resume_search-ended.ensures.refused)
