use Rattle.std.proofs.Common.{arith}
use Rattle.pair_rows.specs.Laws.Pairs.{pair_count-most}
use Rattle.pair_problem.specs.Laws.Adding.{place-within}
use Rattle.pair_problem.proofs.places.place_of_pair.Goals as goal

pub overflow_add-result : goal.overflow_add-result
overflow_add-result c =
    let start = c.start_of_row.ensures in
    omega (arith, c.requires.order, place-within c.args.variables c.args.a c.args.b c.requires.order c.requires.variable, pair_count-most c.args.variables c.requires.few)

pub returns-clause-place : goal.returns-clause-place
returns-clause-place c =
    let start = c.start_of_row.ensures in
    omega (arith, c.requires.order)

pub returns-clause-inside : goal.returns-clause-inside
returns-clause-inside c =
    let start = c.start_of_row.ensures in
    omega (arith, c.requires.order, place-within c.args.variables c.args.a c.args.b c.requires.order c.requires.variable)
