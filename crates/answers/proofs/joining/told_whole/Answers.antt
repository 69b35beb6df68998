use Rattle.dp_model.specs.Laws.{IsLawful}
use Rattle.problem_theory.specs.Theory.{Agrees, Theory}
use Rattle.answers.proofs.Wholes.{whole_told}
use Rattle.answers.proofs.joining.told_whole.Given as given
use Rattle.answers.proofs.joining.told_whole.Goals as goal

laws_of : (g : given.Over) (m : g.row.P.Denot) → IsLawful (g.P.DpModel.meaning (g.P.DpModel.numbers m))
laws_of g m = (g.met.P.DpModel g.world.𝓛 g.world.𝓜 g.world.𝓡 ((λ s x. x), (λ x. x), (λ x. x), λ x. x)).lawful m

agrees_of : (g : given.Over) (m : g.row.P.Denot) → Agrees (g.P.DpModel.meaning (g.P.DpModel.numbers m)) (g.P.Problem.theory.own_value (g.P.DpModel.numbers m))
agrees_of g m = (g.met.P.Problem g.world.𝓛 g.world.𝓜 g.world.𝓡 ((λ s x. x), (λ x. x), (λ x. x), λ x. x)).agrees m

pub returns-in-Ok-whole_text : goal.returns-in-Ok-whole_text
returns-in-Ok-whole_text g c =
    let m = c.args.model.now in
    let numbers = g.P.DpModel.numbers m in
    let t : Theory = g.P.Problem.theory in
    let whole = c.args.whole.now in
    whole_told whole.model t numbers (g.P.DpModel.meaning numbers) whole.instance.items whole.best whole.assignment.items whole.cover c.in-Ok.outcome c.in-Ok-whole_text.text c.requires.named
    ((g.met.P.Problem g.world.𝓛 g.world.𝓜 g.world.𝓡 ((λ s x. x), (λ x. x), (λ x. x), λ x. x)).same_program numbers) (laws_of g m) (agrees_of g m) c.requires.spelled c.requires.accepted c.in-Ok.ensures
    c.in-Ok-whole_text.ensures.written c.in-Ok-whole_text.ensures.printed
