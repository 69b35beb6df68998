-- What contracts see of a tour problem in memory.
use Rattle.dp_model.specs.Dp.{Dp}
use Rattle.tsp_windows.specs.declared.instance.TspWindows.{TspWindows}
use Rattle.tsp_windows.specs.Instance.{Instance}
use Rattle.tsp_windows.specs.Program.{program_of}

abbrev pub instance_in : TspWindows → Instance
instance_in m = record { nodes = m.nodes; distances = m.distances.items; windows = m.windows.items }

abbrev pub program_in : TspWindows → Dp
program_in m = program_of (instance_in m)
