use Rattle.std.proofs.Common.{arith, sym, ◌∙◌}
use Rattle.tokens.proofs.Chains.{times_more, times_done, times_steps}
use Rattle.tsp_windows.specs.Texts.{distance_at}
use Rattle.tsp_windows.proofs.reading.read_distances.Goals as goal

pub distances-preserved : goal.distances-preserved
distances-preserved c =
    sym (times_more (distance_at c.args.nodes) c.args.count c.distances.counter c.distances.distances.items c.read_distance.new.distances.items c.distances.tokens c.read_distance.new.tokens c.distances-test.true c.in_ok-read_distance.ensures)
    ∙ c.distances.invariant

pub returns : goal.returns
returns c = sym c.distances.invariant ∙ times_done (distance_at c.args.nodes) c.args.count c.distances.counter c.distances.distances.items c.distances.tokens c.distances-test.false

pub returns-in_err-read_distance : goal.returns-in_err-read_distance
returns-in_err-read_distance c = grind (arith, times_steps, c.distances.invariant, c.distances-test.true)
