use Rattle.max_two_sat.specs.Drafted.{gathered_in}
use Rattle.max_two_sat.proofs.DrawnClauses.{none_drawn, one_more}
use Rattle.max_two_sat.proofs.generating.generate.Goals as goal

pub loop-init : goal.loop-init
loop-init c = none_drawn c.args.n c.args.seed c.from_seed-draws.result (gathered_in c.in_ok-draft.draft) c.requires.size c.from_seed-draws.ensures c.in_ok-draft.ensures

pub loop-preserved : goal.loop-preserved
loop-preserved c =
    let clause = c.draw_clause.ensures in
    one_more c.args.n c.args.seed c.loop.counter c.loop.draws c.draw_clause.new.draws (gathered_in c.loop.draft) (gathered_in c.draw_clause.new.draft) c.loop.invariant
    clause.clause clause.following clause.drawing clause.count

pub draw_clause-requires-clause-drawing : goal.draw_clause-requires-clause-drawing
draw_clause-requires-clause-drawing c = c.loop.invariant.drawing

pub of_draft-requires-clause-gathered : goal.of_draft-requires-clause-gathered
of_draft-requires-clause-gathered c = c.loop.invariant.drawing.under_way.gathered
