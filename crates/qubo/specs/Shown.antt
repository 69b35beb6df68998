-- What contracts see of an instance in memory.
use Rattle.qubo.specs.declared.instance.Qubo.{Qubo}
use Rattle.qubo.specs.Quadratic.{Quadratic}

abbrev pub instance_in : Qubo → Quadratic
instance_in m = record { variables = m.variables; lines = m.lines.items }
