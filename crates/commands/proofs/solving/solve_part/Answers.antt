use Rattle.std.proofs.Common.{◌≡◌, ◌∙◌, ℤ, List, ap, sym, subst}
use Rattle.dp_model.specs.Dp.{Dp}
use Rattle.parts.specs.Part.{part_of_numbers, part_program}
use Rattle.answers.specs.Answers.{Solves}
use Rattle.answers.specs.Parts.{part_own}
use Rattle.commands.specs.Starts.{HasBegun}
use Rattle.commands.proofs.solving.solve_part.Given as given
use Rattle.commands.proofs.solving.solve_part.Goals as goal

same_program : (g : given.Over) (numbers : List ℤ) → g.P.DpModel.meaning numbers ≡ g.P.Problem.theory.program numbers
same_program g numbers = (g.met.P.Problem g.world.𝓛 g.world.𝓜 g.world.𝓡 ((λ s x. x), (λ x. x), (λ x. x), λ x. x)).same_program numbers

pub search_program-requires-clause-program : goal.search_program-requires-clause-program
search_program-requires-clause-program g c κs within =
    let part = c.args.part in
    let here = g.P.DpModel.numbers c.args.model in
    let whole = ap g.P.DpModel.numbers (c.deref.ensures ∙ c.in-Ok.ensures.whole) in
    ap (part_of_numbers g.P.DpModel.meaning) (c.in-Ok-begin_search.ensures.model ∙ c.in-Ok.ensures.part)
    ∙ ap (λ (dp : Dp). part_program dp part.index part.of) (same_program g here ∙ ap g.P.Problem.theory.program (sym whole))

pub search_program-requires-clause-begun : goal.search_program-requires-clause-begun
search_program-requires-clause-begun g c κs within =
    let start = c.in-Ok-begin_search in
    subst (λ (ns : List ℤ). HasBegun (part_of_numbers g.P.DpModel.meaning ns) c.args.search start.start.board start.start.desks) (sym start.ensures.model) start.ensures.begun

pub returns-in-Ok-begin_search-clause-solves : goal.returns-in-Ok-begin_search-clause-solves
returns-in-Ok-begin_search-clause-solves g c =
    let part = c.args.part in
    let t = g.P.Problem.theory in
    subst (λ (ns : List ℤ). Solves (part_program (t.program ns) part.index part.of) (part_own part.index part.of (t.own_value ns)) c.args.search c.search_program.result.0)
    (ap g.P.DpModel.numbers (c.deref.ensures ∙ c.in-Ok.ensures.whole)) c.search_program.ensures.solves
