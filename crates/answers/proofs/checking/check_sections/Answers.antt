use Rattle.dp_model.specs.Laws.{IsLawful}
use Rattle.cover_text.specs.Texts.{opened_in}
use Rattle.answers.proofs.Checked.{verdict-given}
use Rattle.answers.proofs.checking.check_sections.Given as given
use Rattle.answers.proofs.checking.check_sections.Goals as goal

laws_of : (g : given.Over) (m : g.row.M.Denot) → IsLawful (g.M.DpModel.meaning (g.M.DpModel.numbers m))
laws_of g m = (g.met.M.DpModel g.world.𝓛 g.world.𝓜 g.world.𝓡 ((λ s x. x), (λ x. x), (λ x. x), λ x. x)).lawful m

pub returns-in-Ok : goal.returns-in-Ok
returns-in-Ok g c = λ own agrees.
    verdict-given (g.M.DpModel.meaning (g.M.DpModel.numbers c.args.model.now)) own (laws_of g c.args.model.now) agrees (opened_in c.args.text.now) c.in-Ok.verdict c.in-Ok.ensures
