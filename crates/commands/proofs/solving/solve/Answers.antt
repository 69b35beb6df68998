use Rattle.std.proofs.Common.{Option, sym, subst}
use Rattle.problem_names.specs.declared.part.PartNumber.{PartNumber}
use Rattle.answers.specs.Answers.{Solves}
use Rattle.answers.specs.Parts.{own_in, program_in}
use Rattle.commands.proofs.solving.solve.Goals as goal

pub returns-in-None-clause-solves : goal.returns-in-None-clause-solves
returns-in-None-clause-solves g c =
    let t = g.P.Problem.theory in
    let ns = g.P.DpModel.numbers c.args.model in
    subst (λ (part : Option PartNumber). Solves (program_in part (t.program ns)) (own_in part (t.own_value ns)) c.args.search c.solve_whole.result.0) (sym c.in-None.is) c.solve_whole.ensures.solves

pub returns-in-Some-clause-solves : goal.returns-in-Some-clause-solves
returns-in-Some-clause-solves g c =
    let t = g.P.Problem.theory in
    let ns = g.P.DpModel.numbers c.args.model in
    subst (λ (part : Option PartNumber). Solves (program_in part (t.program ns)) (own_in part (t.own_value ns)) c.args.search c.solve_part.result.0) (sym c.in-Some.is) c.solve_part.ensures.solves
