-- An instance as a list of whole numbers: the number of variables, the tautologies, the unit weights by variable, and the weights of the pairs.
use Rattle.std.specs.Prelude.{ℕ, zero, suc, ℤ, pos, List, [], ◌∷◌, length, unsigned_abs}
use Rattle.max_two_sat.specs.declared.weights.UnitWeights.{UnitWeights}
use Rattle.max_two_sat.specs.declared.weights.PairWeights.{PairWeights}
use Rattle.max_two_sat.specs.Instance.{Instance}

abbrev pub unit_numbers : List UnitWeights → List ℤ → List ℤ
unit_numbers [] more = more
unit_numbers (u ∷ us) more = u.positive ∷ u.negative ∷ unit_numbers us more

abbrev pub pair_numbers : List PairWeights → List ℤ
pair_numbers [] = []
pair_numbers (p ∷ ps) = p.both ∷ p.first ∷ p.second ∷ p.neither ∷ pair_numbers ps

unfoldable pub numbers_of : Instance → List ℤ
numbers_of i = pos (length i.units) ∷ i.tautologies ∷ unit_numbers i.units (pair_numbers i.pairs)

-- the instance that such numbers spell

abbrev pub units_in : ℕ → List ℤ → List UnitWeights
units_in zero xs = []
units_in (suc n) [] = []
units_in (suc n) (p ∷ []) = []
units_in (suc n) (p ∷ q ∷ xs) = record { positive = p; negative = q } ∷ units_in n xs

abbrev pub after_units : ℕ → List ℤ → List ℤ
after_units zero xs = xs
after_units (suc n) [] = []
after_units (suc n) (p ∷ []) = []
after_units (suc n) (p ∷ q ∷ xs) = after_units n xs

abbrev pub pairs_in : List ℤ → List PairWeights
pairs_in (a ∷ b ∷ c ∷ d ∷ xs) = record { both = a; first = b; second = c; neither = d } ∷ pairs_in xs
pairs_in _ = []

unfoldable pub instance_of : List ℤ → Instance
instance_of (n ∷ t ∷ xs) = record { tautologies = t; units = units_in (unsigned_abs n) xs; pairs = pairs_in (after_units (unsigned_abs n) xs) }
instance_of _ = record { tautologies = pos 0; units = []; pairs = [] }
