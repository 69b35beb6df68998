use Rattle.max_two_sat.specs.Drafted.{gathered_in}
use Rattle.max_two_sat.specs.declared.clause.Literals.TheVariants.{Two}
use Rattle.max_two_sat.proofs.DrawnClauses.{drawn_after}
use Rattle.max_two_sat.proofs.Gathering.{total-low}
use Rattle.max_two_sat.proofs.generating.draw_clause.Goals as goal

pub add-requires-clause-low : goal.add-requires-clause-low
add-requires-clause-low c = total-low (gathered_in c.args.draft.now) c.requires.drawing.under_way.gathered

pub returns-clause-drawing : goal.returns-clause-drawing
returns-clause-drawing c =
    drawn_after c.args.variables (gathered_in c.args.draft.now) (gathered_in c.add.new.self) c.from.result c.draw.result (Two c.draw_literal-first.result c.draw_literal-second.result)
    c.requires.drawing c.requires.few c.from.ensures (c.draw_literal-first.ensures.fits, c.draw_literal-second.ensures.fits) c.add.ensures
