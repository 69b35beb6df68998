use Rattle.std.proofs.Common.{◌≡◌, arith, to_z, w16, w64, pos}
use Rattle.std.proofs.lemmas.Int.{ints, to_z-of_z}
use Rattle.std.specs.Prelude.{unsigned_abs}
use Rattle.pair_rows.proofs.SumsApart.{least, sub-words}
use Rattle.pair_rows.proofs.hashes.least_distance.Goals as goal

pub returns-clause-least : goal.returns-clause-least
returns-clause-least c = λ a s long hash_is other_is.
    let last : c.cast_signed.result ≡ to_z w16 (sub-words c.args.hash c.args.other) = c.cast_signed.ensures in
    let wide : c.from.result ≡ c.cast_signed.result = rw (to_z-of_z w16 c.cast_signed.result (omega (arith, ints, c.cast_signed.type_inv))) at c.from.ensures in
    let size : c.abs.result ≡ pos (unsigned_abs c.from.result) = rw (to_z-of_z w64 c.from.result (omega (arith, ints, c.from.type_inv))) at c.abs.ensures.value in
    rw (to_z-of_z w64 c.abs.result (omega (arith, ints, c.abs.type_inv)), size, wide, last) (least a s c.args.hash c.args.other (omega (arith, c.ranges.other)) long hash_is other_is)
