-- How large values get.
use Rattle.std.proofs.Common.{ℕ, ◌+◌, ◌*◌, ◌^◌, ◌<◌, ℤ, pos, neg_ℤ, ◌≤ℤ◌, List, [], ◌∷◌, length, arith}
use Rattle.std.proofs.lemmas.Int.{ints}
use Rattle.dp_model.specs.Dp.{Dp}
use Rattle.dp_model.specs.Gaps.{IsStateOf}
use Rattle.dp_model.specs.Laws.{IsLawful}
use Rattle.dp_model.specs.Numbers.{IsFar}
use Rattle.dp_model.specs.Prefixes.{IsPath, gain_of, IsPrefix, value_of}
use Rattle.dp_model.proofs.Paths.{IsPrefix-length}

-- at most n times 2^50 in size
pub record IsWithin (n : ℕ) (z : ℤ) : Type 0 where
  pub low : neg_ℤ (pos (n * 2 ^ 50)) ≤ℤ z
  pub high : z ≤ℤ pos (n * 2 ^ 50)

pub gain_of-size : (dp : Dp) → IsLawful dp → (k : ℕ) (s : List ℤ) (p : List ℕ) → IsStateOf dp k s → IsPath dp k s p → IsWithin (length p) (gain_of dp k s p)
gain_of-size dp laws k s [] h path = record { low = omega (arith, ints); high = omega (arith, ints) }
gain_of-size dp laws k s (d ∷ p) h path =
    let below : k < dp.vars = path.0.layer in
    let next : IsStateOf dp (k + 1) (dp.step k s d) = record { layer = omega arith; test = laws.states.step k s d h path.0 } in
    let one = laws.sizes.gain k s d h path.0 in
    let rest = gain_of-size dp laws (k + 1) (dp.step k s d) p next path.1 in
    record { low = omega (arith, ints); high = omega (arith, ints) }

pub value_of-size : (dp : Dp) → IsLawful dp → (p : List ℕ) → IsPrefix dp p → IsWithin (length p + 1) (value_of dp p)
value_of-size dp laws p h =
    let root : IsStateOf dp 0 dp.root = record { layer = omega arith; test = laws.states.root } in
    let one = laws.sizes.root_value in
    let rest = gain_of-size dp laws 0 dp.root p root h in
    record { low = omega (arith, ints); high = omega (arith, ints) }

pub value_of-far : (dp : Dp) → IsLawful dp → (p : List ℕ) → IsPrefix dp p → IsFar (value_of dp p)
value_of-far dp laws p h =
    let size = value_of-size dp laws p h in
    let short = IsPrefix-length dp p h in
    let few = laws.sizes.vars in
    record { low = omega (arith, ints); high = omega (arith, ints) }
