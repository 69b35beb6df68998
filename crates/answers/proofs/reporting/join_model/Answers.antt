use Rattle.std.proofs.Common.{◌≡◌, ℤ, true, is_some, sym, ◌∙◌, subst, map}
use Rattle.dp_model.specs.Laws.{IsLawful}
use Rattle.journal_bytes.specs.Journal.{journal_view}
use Rattle.part_text.specs.Reports.{settled_view}
use Rattle.problem_theory.specs.Theory.{Agrees}
use Rattle.answers.specs.Kept.{starts_for}
use Rattle.answers.specs.ReportsJoined.{HasJoined, JoinsIn}
use Rattle.answers.proofs.ReportsJoined.{joins-told}
use Rattle.answers.proofs.reporting.join_model.Given as given
use Rattle.answers.proofs.reporting.join_model.Goals as goal

laws_of : (g : given.Over) (m : g.row.P.Denot) → IsLawful (g.P.DpModel.meaning (g.P.DpModel.numbers m))
laws_of g m = (g.met.P.DpModel g.world.𝓛 g.world.𝓜 g.world.𝓡 ((λ s x. x), (λ x. x), (λ x. x), λ x. x)).lawful m

agrees_of : (g : given.Over) (m : g.row.P.Denot) → Agrees (g.P.DpModel.meaning (g.P.DpModel.numbers m)) (g.P.Problem.theory.own_value (g.P.DpModel.numbers m))
agrees_of g m = (g.met.P.Problem g.world.𝓛 g.world.𝓜 g.world.𝓡 ((λ s x. x), (λ x. x), (λ x. x), λ x. x)).agrees m

pub returns-in-Ok : goal.returns-in-Ok
returns-in-Ok g c =
    let here = g.P.DpModel.numbers c.args.model in
    let dp = g.P.DpModel.meaning here in
    let own = g.P.Problem.theory.own_value here in
    let rs = map settled_view c.args.reports.items in
    let j = journal_view (c.args.head.now, c.args.records.now, c.args.tail) in
    let there : is_some (starts_for c.args.head.now.part c.args.records.now.records) ≡ true = sym c.has_starts.ensures ∙ c.if-not-has_starts.false in
    let joined = subst (λ (w : ℤ). HasJoined dp w c.args.tail.digest c.args.records.now.records rs c.in-Ok.best) c.requires.within c.in-Ok.ensures in
    subst (JoinsIn dp own (starts_for c.args.head.now.part c.args.records.now.records) rs j c.args.records.now.first) (sym c.joined_answer.ensures)
    (joins-told dp (laws_of g c.args.model) own (agrees_of g c.args.model) rs j c.requires.distance c.args.records.now.first there c.in-Ok.best joined)
