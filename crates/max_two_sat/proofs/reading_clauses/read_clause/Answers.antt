use Rattle.std.proofs.Common.{arith, ap}
use Rattle.std.proofs.lemmas.Int.{ints}
use Rattle.max_two_sat.specs.Clauses.{Gathered}
use Rattle.max_two_sat.specs.Drafted.{gathered_in}
use Rattle.max_two_sat.proofs.Gathering.{clause-fits, total-low}
use Rattle.max_two_sat.proofs.reading_clauses.read_clause.Goals as goal

pub read_weight-requires-clause-low : goal.read_weight-requires-clause-low
read_weight-requires-clause-low c =
    let way = c.requires.under_way in
    omega (arith, ints, total-low (gathered_in c.args.draft.now) way.gathered, way.gathered.total)

pub read_weight-requires-clause-high : goal.read_weight-requires-clause-high
read_weight-requires-clause-high c =
    let way = c.requires.under_way in
    omega (arith, ints, total-low (gathered_in c.args.draft.now) way.gathered, way.gathered.total)

pub add-requires-clause-room : goal.add-requires-clause-room
add-requires-clause-room c =
    let fits = clause-fits c.args.header (gathered_in c.args.draft.now) c.in_ok-weight.weight c.in_ok-literals.literals c.requires.under_way c.requires.few c.in_ok-weight.ensures.range c.in_ok-literals.ensures.range in
    rw fits.read fits.room

pub add-requires-clause-variables : goal.add-requires-clause-variables
add-requires-clause-variables c = rw c.requires.under_way.variables c.in_ok-literals.ensures.range

pub add-requires-clause-total : goal.add-requires-clause-total
add-requires-clause-total c =
    let fits = clause-fits c.args.header (gathered_in c.args.draft.now) c.in_ok-weight.weight c.in_ok-literals.literals c.requires.under_way c.requires.few c.in_ok-weight.ensures.range c.in_ok-literals.ensures.range in
    rw fits.read fits.total

pub add-requires-clause-low : goal.add-requires-clause-low
add-requires-clause-low c = total-low (gathered_in c.args.draft.now) c.requires.under_way.gathered

pub returns-clause-under_way : goal.returns-clause-under_way
returns-clause-under_way c =
    let fits = clause-fits c.args.header (gathered_in c.args.draft.now) c.in_ok-weight.weight c.in_ok-literals.literals c.requires.under_way c.requires.few c.in_ok-weight.ensures.range c.in_ok-literals.ensures.range in
    rw (c.add.ensures, fits.read) fits.after

pub read_literals-requires : goal.read_literals-requires
read_literals-requires c = omega (arith, c.requires.under_way.variables, c.requires.under_way.gathered.variables)

pub add-requires-clause-clauses : goal.add-requires-clause-clauses
add-requires-clause-clauses c = c.requires.few

pub returns-clause-count : goal.returns-clause-count
returns-clause-count c = ap (λ (g : Gathered). g.clauses) c.add.ensures
