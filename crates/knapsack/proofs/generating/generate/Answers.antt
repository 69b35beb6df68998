use Rattle.std.proofs.Common.{rules, ◌+◌, ◌*◌}
use Rattle.knapsack.proofs.DrawnItems.{none_drawn, one_more}
use Rattle.knapsack.proofs.generating.generate.Goals as goal

pub loop-init : goal.loop-init
loop-init c = none_drawn c.args.seed c.from_seed-draws.result c.in_ok-items.items.items c.from_seed-draws.ensures c.in_ok-items.ensures.items

pub loop-preserved : goal.loop-preserved
loop-preserved c =
    let item = c.draw_item-item.ensures in
    one_more c.args.seed c.loop.counter c.loop.draws c.draw_item-item.new.draws c.loop.items.items c.push.new.self.items c.loop.weight
    (c.loop.weight + c.from.result * c.from-in-loop.result) c.draw_item-item.result c.loop.invariant item.item item.following item.small item.light (search rules) (search rules)
