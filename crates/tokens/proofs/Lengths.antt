-- How long printed texts are.
use Rattle.std.proofs.Common.{ℕ, suc, ◌+◌, ◌*◌, ◌^◌, ◌<◌, ◌≤◌, ℤ, pos, negsuc, List, [], ◌∷◌, length, length-append, arith}
use Rattle.std.specs.Prelude.{nat_abs, flat_map}
use Rattle.std.proofs.lemmas.Fmt.{length-decimal-le}
use Rattle.tokens.specs.Decimal.{decimal_of}

-- a number below 10^k in size has at most k digits, and perhaps a minus; of natural numbers std has length-decimal-le
pub number_short : (k : ℕ) (z : ℤ) → 0 < k → nat_abs z < 10 ^ k → nat_abs z < 2 ^ 64 → length (decimal_of z) ≤ k + 1
number_short k (pos n) some few fits = omega (arith, length-decimal-le k n some few fits)
number_short k (negsuc n) some few fits = omega (arith, length-decimal-le k (suc n) some few fits)

-- parts of at most this many bytes each, where a fact of those that are left tells it of the first
pub parts_short : {X : Type 0} (print : X → List ℕ) (most : ℕ) (P : List X → Type 0)
    → ((x : X) (xs : List X) → P (x ∷ xs) → (length (print x) ≤ most) × P xs) → (xs : List X) → P xs → length (flat_map print xs) ≤ most * length xs
parts_short print most P each [] held = omega arith
parts_short print most P each (x ∷ xs) held =
    let first = each x xs held in
    omega (arith, first.0, length-append (print x) (flat_map print xs), parts_short print most P each xs first.1)
