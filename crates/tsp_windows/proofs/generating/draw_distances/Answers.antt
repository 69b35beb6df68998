use Rattle.std.proofs.Common.{rules}
use Rattle.tsp_windows.proofs.DrawnDistances.{none_drawn, one_more}
use Rattle.tsp_windows.proofs.generating.draw_distances.Goals as goal

pub distances-init : goal.distances-init
distances-init c = none_drawn c.args.nodes c.args.seed c.from_seed-draws.result c.in_ok-distances.distances.items c.from_seed-draws.ensures c.in_ok-distances.ensures.items

pub distances-preserved : goal.distances-preserved
distances-preserved c =
    let distance = c.draw_distance.ensures in
    one_more c.args.nodes c.args.seed c.distances.place c.distances.draws c.draw_distance.new.draws c.draw_distance.result c.distances.distances.items c.push.new.self.items
    c.distances.invariant distance.distance distance.following distance.short (search rules)
