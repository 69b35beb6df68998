use Rattle.std.proofs.Common.{ℤ, List, Some, None, subst, sym}
use Rattle.cover_text.specs.Texts.{held_with, opened_in}
use Rattle.parts.specs.Part.{part_of_numbers}
use Rattle.problem_theory.specs.Theory.{Agrees}
use Rattle.answers.specs.Checks.{Checks, ToSections}
use Rattle.answers.specs.Parts.{own_in}
use Rattle.answers.proofs.Checked.{is-meant}
use Rattle.answers.proofs.Parts.{agrees-in}
use Rattle.answers.proofs.checking.check_meant.Given as given
use Rattle.answers.proofs.checking.check_meant.Goals as goal

agrees_of : (g : given.Over) (m : g.row.P.Denot) → Agrees (g.P.DpModel.meaning (g.P.DpModel.numbers m)) (g.P.Problem.theory.own_value (g.P.DpModel.numbers m))
agrees_of g m = (g.met.P.Problem g.world.𝓛 g.world.𝓜 g.world.𝓡 ((λ s x. x), (λ x. x), (λ x. x), λ x. x)).agrees m

pub returns-in_default : goal.returns-in_default
returns-in_default g c =
    let numbers = g.P.DpModel.numbers c.args.model in
    let own = g.P.Problem.theory.own_value numbers in
    is-meant (g.P.DpModel.meaning numbers) own (opened_in c.args.text.now) None c.check_sections.result c.in_default.is (c.check_sections.ensures own (agrees_of g c.args.model))

pub returns-in-Ok : goal.returns-in-Ok
returns-in-Ok g c =
    let meaning = g.P.DpModel.meaning in
    let numbers = g.P.DpModel.numbers c.args.model in
    let meant = Some c.in-Some.number in
    let own = own_in meant (g.P.Problem.theory.own_value numbers) in
    let agrees = agrees-in meant (meaning numbers) (g.P.Problem.theory.own_value numbers) (agrees_of g c.args.model) in
    let same = c.in-Ok.ensures.part in
    let checked = c.check_sections-in-Ok.ensures own (subst (λ (ns : List ℤ). Agrees (part_of_numbers meaning ns) own) (sym same) agrees) in
    is-meant (meaning numbers) (g.P.Problem.theory.own_value numbers) (opened_in c.args.text.now) meant c.check_sections-in-Ok.result c.in-Some.is
    (subst (λ (ns : List ℤ). ToSections (opened_in c.args.text.now) (λ cover. Checks (part_of_numbers meaning ns) own (held_with (opened_in c.args.text.now) cover)) c.check_sections-in-Ok.result) same checked)
