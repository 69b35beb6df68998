use Rattle.std.proofs.Common.{◌+ℤ◌, w64, ap, ◌∙◌}
use Rattle.std.specs.Int.{cast_unsigned}
use Rattle.std.specs.Prelude.{◌*ℤ◌}
use Rattle.pair_rows.specs.Hashes.{base}
use Rattle.pair_rows.proofs.Hashing.{next-wraps, signed-whole}
use Rattle.pair_rows.proofs.hashes.next_hash.Goals as goal

pub returns : goal.returns
returns c = λ others more hash_is change_is.
    let a = c.args in
    let signed = c.cast_signed.result in
    let signed_is = signed-whole ((others *ℤ base) +ℤ a.first) a.hash signed c.cast_signed.ensures hash_is in
    c.cast_unsigned.ensures ∙ ap (cast_unsigned w64) (next-wraps others a.first more a.change signed (record { sfits = c.cast_signed.type_inv }) c.ranges.first c.ranges.change signed_is change_is)
