-- Numbers of 64 bits are added without overflow in 128 bits.
use Rattle.std.proofs.Common.{rules, ◌≡◌, ℤ, ◌+ℤ◌, ap, ap₂, ◌∙◌, arith}
use Rattle.std.proofs.lemmas.Int.{ints, to_z-of_z}
use Rattle.std.specs.Int.{w64, w128}
use mir.Val.{SFits, of_z, to_z}

abbrev pub wide : ℤ → ℤ
wide z = to_z w128 (of_z w128 z)

-- a number as a function takes it
abbrev pub held : ℤ → ℤ
held z = to_z w64 (of_z w64 z)

fits_wide : (z : ℤ) → SFits w64 z → SFits w128 z
fits_wide z h = record { sfits = let fits = h.sfits in omega (arith, ints, fits) }

sum_fits : (x y : ℤ) → SFits w64 x → SFits w64 y → SFits w128 (x +ℤ y)
sum_fits x y h k = search rules

pub wide_is : (a z : ℤ) → a ≡ held z → SFits w64 z → wide a ≡ z
wide_is a z e h = ap wide (e ∙ to_z-of_z w64 z h) ∙ to_z-of_z w128 z (fits_wide z h)

pub wide_sum : (a b x y : ℤ) → a ≡ held x → b ≡ held y → SFits w64 x → SFits w64 y → wide (wide a +ℤ wide b) ≡ x +ℤ y
wide_sum a b x y e f h k = ap wide (ap₂ (λ (p q : ℤ). p +ℤ q) (wide_is a x e h) (wide_is b y f k)) ∙ to_z-of_z w128 (x +ℤ y) (sum_fits x y h k)
