-- What contracts see of an instance in memory.
use Rattle.max_cut.specs.declared.instance.MaxCut.{MaxCut}
use Rattle.max_cut.specs.Graph.{Graph}

-- its graph
abbrev pub instance_in : MaxCut → Graph
instance_in m = record { vertices = m.vertices; weights = m.weights.items }
