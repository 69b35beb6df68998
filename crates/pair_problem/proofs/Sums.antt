-- Sums of two entries, and entries that stand in an instance.
use Rattle.std.proofs.Common.{◌≡◌, ◌^◌, ◌<◌, ℕ, ℤ, pos, ◌+ℤ◌, ◌≤ℤ◌, to_z, of_z, w64, length, get_or, arith}
use Rattle.std.proofs.lemmas.Int.{ints, to_z-of_z}
use Rattle.pair_rows.specs.Instance.{Instance, no_unit, no_pair}
use Rattle.pair_rows.specs.Limits.{IsInstance}
use Rattle.pair_rows.proofs.Cells.{pair_most-at, unit_most-at}
use Rattle.pair_rows.proofs.Layers.{units-most, pairs-most}

pub sum-read : (a b : ℤ) → pos 0 ≤ℤ a → a ≤ℤ pos (2 ^ 48) → pos 0 ≤ℤ b → b ≤ℤ pos (2 ^ 48) →
    to_z w64 (of_z w64 (to_z w64 (of_z w64 a) +ℤ to_z w64 (of_z w64 b))) ≡ a +ℤ b
sum-read a b a_low a_high b_low b_high =
    let a_read = to_z-of_z w64 a (omega (arith, ints)) in
    let b_read = to_z-of_z w64 b (omega (arith, ints)) in
    rw (a_read, b_read) (to_z-of_z w64 (a +ℤ b) (omega (arith, ints)))

pub unit-small : (i : Instance) (a : ℕ) → IsInstance i → a < length i.units → (get_or i.units a no_unit).most ≤ℤ pos (2 ^ 48)
unit-small i a kept h = omega (arith, ints, unit_most-at i.units a no_unit h kept.units, units-most i kept)

pub pair-small : (i : Instance) (at : ℕ) → IsInstance i → at < length i.pairs → (get_or i.pairs at no_pair).most ≤ℤ pos (2 ^ 48)
pair-small i at kept h = omega (arith, ints, pair_most-at i.pairs at no_pair h kept.pairs, pairs-most i kept)
