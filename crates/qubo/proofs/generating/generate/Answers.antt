use Rattle.std.proofs.Common.{rules}
use Rattle.qubo.proofs.DrawnLines.{none_drawn, one_more}
use Rattle.qubo.proofs.generating.generate.Goals as goal

pub loop-init : goal.loop-init
loop-init c = none_drawn c.args.n c.args.seed c.from_seed-draws.result c.in_ok-lines.lines.items c.from_seed-draws.ensures c.in_ok-lines.ensures.items

pub loop-preserved : goal.loop-preserved
loop-preserved c =
    let line = c.draw_line.ensures in
    one_more c.args.n c.args.seed c.loop.counter c.loop.draws c.draw_line.new.draws c.loop.lines.items c.push.new.self.items c.draw_line.result c.loop.invariant
    line.line line.following line.kept (search rules)
