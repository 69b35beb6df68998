-- The number that digits write, where it is kept below a bound.
use Rattle.std.proofs.Common.{◌≡◌, ℕ, ◌+◌, ◌-◌, ◌*◌, min, List, [], ◌∷◌, length, take, drop, ap, ◌∙◌, sym, arith}
use Rattle.std.proofs.lemmas.Grind.{common_steps}
use Rattle.tokens.specs.Text.{value_after}

-- digits after a number that was cut off at the bound come out above it all the same
pub capped_value_after : (bound n : ℕ) (ds : List ℕ) → min (value_after (min n bound) ds) bound ≡ min (value_after n ds) bound
capped_value_after bound n [] = omega arith
capped_value_after bound n (d ∷ ds) =
    let cut : min (10 * min n bound + (d - 48)) bound ≡ min (10 * n + (d - 48)) bound = omega arith in
    sym (capped_value_after bound (10 * min n bound + (d - 48)) ds) ∙ ap (λ x. min (value_after x ds) bound) cut ∙ capped_value_after bound (10 * n + (d - 48)) ds

-- what stands after the first byte
pub following_first : (x : ℕ) (xs : List ℕ) → take (length (x ∷ xs) - 1) (drop 1 (x ∷ xs)) ≡ xs
following_first x xs = grind (arith, common_steps)
