-- The instance that rows in memory are made of.
use Rattle.dp_model.specs.Dp.{Dp}
use Rattle.pair_rows.specs.declared.source.PairInstance.{PairInstance}
use Rattle.pair_rows.specs.declared.rows.PairRows.{PairRows}
use Rattle.pair_rows.specs.Instance.{Instance}
use Rattle.pair_rows.specs.Program.{program_of}

abbrev pub instance_of : PairInstance → Instance
instance_of i = record { constant = i.constant; first = i.first; units = i.units.items; pairs = i.pairs.items }

abbrev pub instance_in : PairRows → Instance
instance_in m = instance_of m.source.value

-- its dynamic program
abbrev pub program_in : PairRows → Dp
program_in m = program_of (instance_in m)
