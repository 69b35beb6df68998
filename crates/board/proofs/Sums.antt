-- Sums of numbers in memory.
use Rattle.std.proofs.Common.{◌≡◌, ℤ, ◌+ℤ◌, ◌∙◌, ap, sym, subst, FitsSigned, to_z, of_z, w64, arith}
use Rattle.std.proofs.lemmas.Int.{ints, to_z-of_z}
use Rattle.dp_model.specs.Numbers.{IsFar}

-- the sum of two numbers in memory fits, and is their sum
pub record IsSum (a b : ℤ) : Type 0 where
  pub fits : FitsSigned w64 (to_z w64 (of_z w64 a) +ℤ to_z w64 (of_z w64 b))
  pub is : to_z w64 (of_z w64 (to_z w64 (of_z w64 a) +ℤ to_z w64 (of_z w64 b))) ≡ a +ℤ b

pub far-sum : (a b : ℤ) → FitsSigned w64 a → FitsSigned w64 b → IsFar (a +ℤ b) → IsSum a b
far-sum a b fits_a fits_b far =
    let here = to_z-of_z w64 a fits_a in
    let there = to_z-of_z w64 b fits_b in
    let sum : to_z w64 (of_z w64 a) +ℤ to_z w64 (of_z w64 b) ≡ a +ℤ b = ap (λ z. z +ℤ to_z w64 (of_z w64 b)) here ∙ ap (λ z. a +ℤ z) there in
    let fits : FitsSigned w64 (a +ℤ b) = omega (arith, ints) in
    record {
      fits = subst (λ z. FitsSigned w64 z) (sym sum) fits;
      is = ap (λ z. to_z w64 (of_z w64 z)) sum ∙ to_z-of_z w64 _ fits;
    }
