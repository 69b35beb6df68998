-- What contracts see of a knapsack problem in memory.
use Rattle.dp_model.specs.Dp.{Dp}
use Rattle.knapsack.specs.declared.instance.Knapsack.{Knapsack}
use Rattle.knapsack.specs.Instance.{Instance}
use Rattle.knapsack.specs.Program.{program_of}

-- its capacity and items
abbrev pub instance_in : Knapsack → Instance
instance_in m = record { capacity = m.capacity; items = m.items.items }

-- its dynamic program
abbrev pub program_in : Knapsack → Dp
program_in m = program_of (instance_in m)
