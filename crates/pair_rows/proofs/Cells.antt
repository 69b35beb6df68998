-- One entry of a row, and the rows from an entry on.
use Rattle.std.proofs.Common.{◌≡◌, ℕ, zero, suc, ◌+◌, ◌^◌, ◌<◌, ◌≤◌, ℤ, pos, ◌+ℤ◌, ◌-ℤ◌, ◌≤ℤ◌, List, length, drop, get_or, arith, ap, to_z, of_z, w64}
use Rattle.std.specs.Prelude.{IsTrue}
use Rattle.std.specs.Int.{int_min}
use Rattle.std.proofs.lemmas.Int.{ints, clamps}
use Rattle.std.proofs.lemmas.List.{drop_more, drop_all}
use Rattle.benefit_rows.specs.Benefits.{size_of, rank_of}
use Rattle.benefit_rows.specs.BenefitLaws.{rank_of-positive}
use Rattle.benefit_rows.proofs.Steps.{read_by_size}
use Rattle.pair_rows.specs.declared.values.PairValues.{PairValues}
use Rattle.pair_rows.specs.declared.values.UnitValues.{UnitValues}
use Rattle.pair_rows.specs.Instance.{pair_most, pairs_most, unit_most, units_most, no_unit}
use Rattle.pair_rows.specs.Limits.{PairFits, pair_fits, pairs_fit, UnitFits, unit_fits, units_fit}
use Rattle.pair_rows.specs.Laws.Limits.{pair-fits, unit-fits}
use Rattle.pair_rows.specs.Program.{given_yes, given_no, lesser_units}
use Rattle.pair_rows.specs.Laws.Sizes.{lesser_units-positive, lesser_units-most}
use Rattle.pair_rows.specs.Laws.Pairs.{all-at, all-drop, total_by-at}
use Rattle.pair_rows.specs.Laws.Totals.{pair_most-low, unit_most-low}
use Rattle.pair_rows.proofs.RunningSums.{SumGrows, sum-grows, sum-done}

-- what an entry gives on the two sides of the later variable
pub record HasParts (p : PairValues) (d : ℕ) : Type 0 where
  pub true_low : pos 0 ≤ℤ given_yes p d
  pub true_high : given_yes p d ≤ℤ pair_most p
  pub false_low : pos 0 ≤ℤ given_no p d
  pub false_high : given_no p d ≤ℤ pair_most p

pub parts : (p : PairValues) (d : ℕ) → PairFits p → HasParts p d
parts p zero h = record { true_low = h.no_yes; true_high = h.no_yes_most; false_low = h.no_no; false_high = h.no_no_most }
parts p (suc d) h = record { true_low = h.yes_yes; true_high = h.yes_yes_most; false_low = h.yes_no; false_high = h.yes_no_most }

-- the entry of a row at an index
pub pair-at : (ps : List PairValues) (i : ℕ) (p : PairValues) → i < length ps → IsTrue (pairs_fit ps) → PairFits (get_or ps i p)
pair-at ps i p h g = pair-fits (get_or ps i p) (all-at pair_fits ps i p h g)

pub pair_most-at : (ps : List PairValues) (i : ℕ) (p : PairValues) → i < length ps → IsTrue (pairs_fit ps) → pair_most (get_or ps i p) ≤ℤ pairs_most ps
pair_most-at ps i p h g = total_by-at pair_most pair_fits pair_most-low ps i p h g

-- what a variable gives

pub unit-at : (us : List UnitValues) (i : ℕ) (u : UnitValues) → i < length us → IsTrue (units_fit us) → UnitFits (get_or us i u)
unit-at us i u h g = unit-fits (get_or us i u) (all-at unit_fits us i u h g)

pub unit_most-at : (us : List UnitValues) (i : ℕ) (u : UnitValues) → i < length us → IsTrue (units_fit us) → unit_most (get_or us i u) ≤ℤ units_most us
unit_most-at us i u h g = total_by-at unit_most unit_fits unit_most-low us i u h g

pub lesser_units-more : (us : List UnitValues) (i : ℕ) (u : UnitValues) → i < length us →
    lesser_units (drop i us) ≡ int_min (get_or us i u).if_no (get_or us i u).if_yes +ℤ lesser_units (drop (i + 1) us)
lesser_units-more us i u h = ap lesser_units (drop_more us i u h)

pub lesser-grows : (us : List UnitValues) (i : ℕ) (total cell : ℤ) → i < length us → IsTrue (units_fit us) → units_most us ≤ℤ pos (2 ^ 48) →
    cell ≡ int_min (to_z w64 (of_z w64 (get_or us i no_unit).if_no)) (to_z w64 (of_z w64 (get_or us i no_unit).if_yes)) →
    (total +ℤ lesser_units (drop i us) ≡ lesser_units us) × (pos 0 ≤ℤ total) →
    SumGrows (lesser_units us) (lesser_units (drop (i + 1) us)) total cell
lesser-grows us i total cell h positive weight is before =
    let here = unit-at us i no_unit h positive in
    let most = unit_most-at us i no_unit h positive in
    let p : to_z w64 (of_z w64 (get_or us i no_unit).if_yes) ≡ (get_or us i no_unit).if_yes = omega (arith, ints) in
    let q : to_z w64 (of_z w64 (get_or us i no_unit).if_no) ≡ (get_or us i no_unit).if_no = omega (arith, ints) in
    let value : cell ≡ int_min (get_or us i no_unit).if_no (get_or us i no_unit).if_yes = rw (q, p) at is in
    let left : lesser_units (drop i us) ≡ cell +ℤ lesser_units (drop (i + 1) us) = rw value (lesser_units-more us i no_unit h) in
    sum-grows (lesser_units us) (lesser_units (drop i us)) cell (lesser_units (drop (i + 1) us)) total left (omega (arith, ints, clamps))
    (lesser_units-positive (drop (i + 1) us) (all-drop unit_fits (i + 1) us positive)) (omega (arith, ints, lesser_units-most us positive)) before

pub lesser-done : (us : List UnitValues) (i : ℕ) (total : ℤ) → length us ≤ i → total +ℤ lesser_units (drop i us) ≡ lesser_units us → total ≡ lesser_units us
lesser-done us i total h before =
    sum-done (lesser_units us) (lesser_units (drop i us)) total (ap lesser_units (drop_all i us h)) before

-- the benefits of the root

pub benefit-small : (us : List UnitValues) (i : ℕ) → i < length us → IsTrue (units_fit us) → units_most us ≤ℤ pos (2 ^ 48) →
    size_of ((get_or us i no_unit).if_yes -ℤ (get_or us i no_unit).if_no) ≤ℤ pos (2 ^ 48)
benefit-small us i h positive weight =
    let here = unit-at us i no_unit h positive in
    let most = unit_most-at us i no_unit h positive in
    omega (arith, ints, clamps)

-- the benefit of the decided variable
pub record BenefitIsRead (s : List ℤ) (k : ℕ) : Type 0 where
  pub read : to_z w64 (of_z w64 (get_or s k (pos 0))) ≡ get_or s k (pos 0)
  pub small : size_of (to_z w64 (of_z w64 (get_or s k (pos 0)))) ≤ℤ pos (2 ^ 48)

pub benefit-read : (s : List ℤ) (k : ℕ) → k < length s → rank_of (drop k s) ≤ℤ pos (2 ^ 48) → BenefitIsRead s k
benefit-read s k h rank =
    let cut : rank_of (drop k s) ≡ size_of (get_or s k (pos 0)) +ℤ rank_of (drop (k + 1) s) = ap rank_of (drop_more s k (pos 0) h) in
    let rest = rank_of-positive (drop (k + 1) s) in
    let size : size_of (get_or s k (pos 0)) ≤ℤ pos (2 ^ 48) = omega (arith, ints) in
    let there : to_z w64 (of_z w64 (get_or s k (pos 0))) ≡ get_or s k (pos 0) = read_by_size (get_or s k (pos 0)) (omega (arith, ints)) in
    record { read = there; small = rw there size }
