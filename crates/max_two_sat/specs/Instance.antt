-- What an instance of weighted MAX-2SAT keeps.
use Rattle.std.specs.Prelude.{ℤ, pos, ◌+ℤ◌, List}
use Rattle.pair_rows.specs.Pairs.{total_by}
use Rattle.max_two_sat.specs.declared.weights.UnitWeights.{UnitWeights}
use Rattle.max_two_sat.specs.declared.weights.PairWeights.{PairWeights}

-- the weight of the tautologies, of the clauses with one literal by variable, and of those on two variables i < j by i, then by j
pub record Instance : Type 0 where
  pub tautologies : ℤ
  pub units : List UnitWeights
  pub pairs : List PairWeights

-- the entries without weight
abbrev pub no_unit : UnitWeights
no_unit = record { positive = pos 0; negative = pos 0 }

abbrev pub no_pair : PairWeights
no_pair = record { both = pos 0; first = pos 0; second = pos 0; neither = pos 0 }

-- what all clauses of an entry weigh
abbrev pub unit_total : UnitWeights → ℤ
unit_total u = u.positive +ℤ u.negative

abbrev pub pair_total : PairWeights → ℤ
pair_total p = (p.both +ℤ p.first) +ℤ (p.second +ℤ p.neither)

-- what all clauses weigh: of some variables, and of some pairs
abbrev pub units_total : List UnitWeights → ℤ
units_total us = total_by unit_total us

abbrev pub pairs_total : List PairWeights → ℤ
pairs_total ps = total_by pair_total ps
