-- The entries of an instance.
use Rattle.std.proofs.Common.{ℕ, zero, suc, ◌^◌, ◌<◌, pos, ◌≤ℤ◌, List, [], ◌∷◌, length, get_or, arith}
use Rattle.std.proofs.lemmas.Int.{ints}
use Rattle.std.proofs.lemmas.Bool.{and_parts}
use Rattle.dp_model.specs.Lists.{Each}
use Rattle.std.specs.Prelude.{IsTrue}
use Rattle.pair_rows.specs.Laws.Pairs.{all-at, total_by-at}
use Rattle.max_two_sat.specs.declared.weights.PairWeights.{PairWeights}
use Rattle.max_two_sat.specs.declared.weights.UnitWeights.{UnitWeights}
use Rattle.max_two_sat.specs.Instance.{pair_total, pairs_total, unit_total, units_total}
use Rattle.max_two_sat.specs.Limits.{PairIsPositive, pair_is_positive, pairs_are_positive, UnitIsPositive, unit_is_positive, units_are_positive}
use Rattle.max_two_sat.specs.Laws.Limits.{pair-positive, unit-positive}
use Rattle.max_two_sat.specs.Laws.Totals.{pair_total-low, pairs_total-positive, unit_total-low, units_total-positive}

pub unit-at : (us : List UnitWeights) (i : ℕ) (u : UnitWeights) → i < length us → IsTrue (units_are_positive us) → UnitIsPositive (get_or us i u)
unit-at us i u h g = unit-positive (get_or us i u) (all-at unit_is_positive us i u h g)

pub unit_total-at : (us : List UnitWeights) (i : ℕ) (u : UnitWeights) → i < length us → IsTrue (units_are_positive us) → unit_total (get_or us i u) ≤ℤ units_total us
unit_total-at us i u h g = total_by-at unit_total unit_is_positive unit_total-low us i u h g

pub pair-at : (ps : List PairWeights) (i : ℕ) (p : PairWeights) → i < length ps → IsTrue (pairs_are_positive ps) → PairIsPositive (get_or ps i p)
pair-at ps i p h g = pair-positive (get_or ps i p) (all-at pair_is_positive ps i p h g)

pub pair_total-at : (ps : List PairWeights) (i : ℕ) (p : PairWeights) → i < length ps → IsTrue (pairs_are_positive ps) → pair_total (get_or ps i p) ≤ℤ pairs_total ps
pair_total-at ps i p h g = total_by-at pair_total pair_is_positive pair_total-low ps i p h g

-- an entry among those that all have a fact
pub each-at : {X : Type 0} (P : X → Type 0) (xs : List X) (i : ℕ) (none : X) → i < length xs → Each P xs → P (get_or xs i none)
each-at P [] i none h g = absurd (omega arith)
each-at P (x ∷ xs) zero none h g = g.0
each-at P (x ∷ xs) (suc i) none h g = each-at P xs i none (omega arith) g.1

-- the entries of an instance are positive, and none weighs more than all together may
pub each-unit : (us : List UnitWeights) → IsTrue (units_are_positive us) → units_total us ≤ℤ pos (2 ^ 48) → Each (λ u. UnitIsPositive u × (unit_total u ≤ℤ pos (2 ^ 48))) us
each-unit [] g h = tt
each-unit (u ∷ us) g h =
    let first = (and_parts _ _ g).0 in
    let others : IsTrue (units_are_positive us) = (and_parts (unit_is_positive u) _ g).1 in
    let low = unit_total-low u first in
    let rest = units_total-positive us others in
    ((unit-positive u first, omega (arith, ints)), each-unit us others (omega (arith, ints)))

pub each-pair : (ps : List PairWeights) → IsTrue (pairs_are_positive ps) → pairs_total ps ≤ℤ pos (2 ^ 48) → Each (λ p. PairIsPositive p × (pair_total p ≤ℤ pos (2 ^ 48))) ps
each-pair [] g h = tt
each-pair (p ∷ ps) g h =
    let first = (and_parts _ _ g).0 in
    let others : IsTrue (pairs_are_positive ps) = (and_parts (pair_is_positive p) _ g).1 in
    let low = pair_total-low p first in
    let rest = pairs_total-positive ps others in
    ((pair-positive p first, omega (arith, ints)), each-pair ps others (omega (arith, ints)))
