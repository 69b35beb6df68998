use Rattle.std.proofs.Common.{rules, arith}
use Rattle.max_cut.proofs.DrawnWeights.{none_drawn, one_more}
use Rattle.max_cut.proofs.generating.generate.Goals as goal

pub loop-init : goal.loop-init
loop-init c = none_drawn c.args.seed c.from_seed-draws.result c.in_ok-weights.weights.items c.from_seed-draws.ensures c.in_ok-weights.ensures.items

pub loop-preserved : goal.loop-preserved
loop-preserved c =
    let weight = c.draw_weight.ensures in
    one_more c.args.seed c.loop.counter c.loop.draws c.draw_weight.new.draws c.loop.weights.items c.push.new.self.items c.draw_weight.result c.loop.invariant
    weight.weight weight.following weight.small (search rules)

pub invariant_of-result : goal.invariant_of-result
invariant_of-result c = record { graph = record { few = c.requires.size; whole = omega arith; small = c.loop.invariant.small } }
