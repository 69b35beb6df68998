use Rattle.std.proofs.Common.{◌≡◌, ◌∙◌, ℤ, List, ap, sym, subst, rules}
use Rattle.std.specs.Arc.{arc_value}
use Rattle.answers.specs.Answers.{Solves}
use Rattle.commands.specs.Starts.{HasBegun}
use Rattle.commands.proofs.solving.solve_whole.Given as given
use Rattle.commands.proofs.solving.solve_whole.Goals as goal

same_program : (g : given.Over) (numbers : List ℤ) → g.P.DpModel.meaning numbers ≡ g.P.Problem.theory.program numbers
same_program g numbers = (g.met.P.Problem g.world.𝓛 g.world.𝓜 g.world.𝓡 ((λ s x. x), (λ x. x), (λ x. x), λ x. x)).same_program numbers

pub search_program-requires-clause-program : goal.search_program-requires-clause-program
search_program-requires-clause-program g c κs within =
    let whole : c.deref.result.now ≡ arc_value c.in-Ok.start.model = search rules in
    same_program g (g.P.DpModel.numbers (arc_value c.in-Ok.start.model)) ∙ ap (λ m. g.P.Problem.theory.program (g.P.DpModel.numbers m)) (sym whole)

pub search_program-requires-clause-begun : goal.search_program-requires-clause-begun
search_program-requires-clause-begun g c κs within =
    let start = c.in-Ok in
    subst (λ (ns : List ℤ). HasBegun (g.P.DpModel.meaning ns) c.args.search start.start.board start.start.desks) (sym start.ensures.model) start.ensures.begun

pub returns-in-Ok-try_clone-clause-solves : goal.returns-in-Ok-try_clone-clause-solves
returns-in-Ok-try_clone-clause-solves g c =
    let t = g.P.Problem.theory in
    let whole : c.deref.result.now ≡ arc_value c.in-Ok.start.model = search rules in
    subst (λ (ns : List ℤ). Solves (t.program ns) (t.own_value ns) c.args.search c.search_program.result.0) (ap g.P.DpModel.numbers whole ∙ c.in-Ok.ensures.model) c.search_program.ensures.solves
