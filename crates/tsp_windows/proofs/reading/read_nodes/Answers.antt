use Rattle.tsp_windows.proofs.Readings.{read_small}
use Rattle.tsp_windows.proofs.reading.read_nodes.Goals as goal

pub problem_of-requires : goal.problem_of-requires
problem_of-requires c =
    read_small c.args.nodes _ _ _ _ _ _ _ _ c.requires.some c.requires.few c.new-distances.ensures.items c.new-windows.ensures.items c.in_ok-read_distances.ensures c.in_ok-read_windows.ensures
