-- The numbers of an instance spell it.
use Rattle.std.specs.Prelude.{◌≡◌, ℤ, List, [], ◌∷◌, length, refl}
use Rattle.std.proofs.Common.{ap, ◌∙◌}
use Rattle.max_two_sat.specs.declared.weights.UnitWeights.{UnitWeights}
use Rattle.max_two_sat.specs.declared.weights.PairWeights.{PairWeights}
use Rattle.max_two_sat.specs.Instance.{Instance}
use Rattle.max_two_sat.specs.Numbers.{unit_numbers, pair_numbers, numbers_of, units_in, after_units, pairs_in, instance_of}

units_in-numbers : (us : List UnitWeights) (more : List ℤ) → units_in (length us) (unit_numbers us more) ≡ us
units_in-numbers [] more = refl
units_in-numbers (u ∷ us) more = ap (λ vs. u ∷ vs) (units_in-numbers us more)

after_units-numbers : (us : List UnitWeights) (more : List ℤ) → after_units (length us) (unit_numbers us more) ≡ more
after_units-numbers [] more = refl
after_units-numbers (u ∷ us) more = after_units-numbers us more

pairs_in-numbers : (ps : List PairWeights) → pairs_in (pair_numbers ps) ≡ ps
pairs_in-numbers [] = refl
pairs_in-numbers (p ∷ ps) = ap (λ qs. p ∷ qs) (pairs_in-numbers ps)

-- the numbers of an instance spell it
pub instance_of-numbers_of : (i : Instance) → instance_of (numbers_of i) ≡ i
unfolding instance_of numbers_of
instance_of-numbers_of i =
    ap (λ us. record { tautologies = i.tautologies; units = us; pairs = pairs_in (after_units (length i.units) (unit_numbers i.units (pair_numbers i.pairs))) }) (units_in-numbers i.units (pair_numbers i.pairs)) ∙
    ap (λ ps. record { tautologies = i.tautologies; units = i.units; pairs = ps }) (ap pairs_in (after_units-numbers i.units (pair_numbers i.pairs)) ∙ pairs_in-numbers i.pairs)

pub ruleset reads_numbers = (instance_of-numbers_of)
