-- Hashes of states: polynomials with the benefits as coefficients, modulo 2^64. So a decision changes a hash by one number.
use Rattle.std.specs.Int.{w64, cast_unsigned, int_wrap}
use Rattle.std.specs.Prelude.{ℕ, ℤ, pos, ◌+ℤ◌, ◌*ℤ◌, List, [], ◌∷◌}

-- where the polynomials are taken: one more than an odd multiple of 2^16, so that the last 16 bits of a hash are those of the sum of the
-- benefits, and the other bits are spread
abbrev pub base : ℤ
base = pos 0x2545f4914f630001

-- its inverse modulo 2^64
abbrev pub inverse : ℤ
inverse = pos 0x36434bb7b09d0001

-- the first number, and the base times the polynomial of the others
abbrev pub polynomial : List ℤ → ℤ
polynomial [] = pos 0
polynomial (z ∷ zs) = (polynomial zs *ℤ base) +ℤ z

-- the hash of the benefits that are open in a state
abbrev pub hash_of : List ℤ → ℕ
hash_of benefits = cast_unsigned w64 (int_wrap w64 (polynomial benefits))
