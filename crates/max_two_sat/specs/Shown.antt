-- The instance that a problem in memory holds.
use Rattle.max_two_sat.specs.declared.instance.MaxTwoSat.{MaxTwoSat}
use Rattle.max_two_sat.specs.Instance.{Instance}

abbrev pub instance_in : MaxTwoSat → Instance
instance_in m = record { tautologies = m.tautologies; units = m.units.items; pairs = m.pairs.items }
