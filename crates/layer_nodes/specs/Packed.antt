-- Numbers that may be missing, of which one value stands for none.
use Rattle.std.specs.Prelude.{ℕ, ◌-◌, ◌^◌, nat_eq, ℤ, pos, Bool, true, false, cond, Option, Some, None, unwrap_or}
use Rattle.std.specs.Ordering.{int_eq}
use Rattle.std.proofs.Common.{◌≡◌, refl, sym}
use Rattle.std.proofs.lemmas.Bool.Decides.{Decides-int_eq, Decides-eqb}
use lib.IntN.{neg_ℤ}

-- the number that stands for no length
abbrev pub no_length : ℤ
no_length = neg_ℤ (pos (2 ^ 63))

-- the length that the number stands for
abbrev pub length_in : ℤ → Option ℤ
length_in raw = cond (int_eq raw no_length) None (Some raw)

-- the number that stands for the length
abbrev pub raw_length : Option ℤ → ℤ
raw_length length = unwrap_or length no_length

-- the number that stands for no place
abbrev pub no_place : ℕ
no_place = 2 ^ 32 - 1

-- the place that the number stands for
abbrev pub place_in : ℕ → Option ℕ
place_in raw = cond (nat_eq raw no_place) None (Some raw)

-- the number that stands for the place
abbrev pub raw_place : Option ℕ → ℕ
raw_place place = unwrap_or place no_place

-- ---- the number is got back

pub length-back : (raw : ℤ) → raw_length (length_in raw) ≡ raw
length-back raw = by (int_eq raw no_length) refl
  where
    by : (t : Bool) → int_eq raw no_length ≡ t → raw_length (cond t None (Some raw)) ≡ raw
    by true e = sym ((Decides-int_eq raw no_length).0 e)
    by false e = refl

pub place-back : (raw : ℕ) → raw_place (place_in raw) ≡ raw
place-back raw = by (nat_eq raw no_place) refl
  where
    by : (t : Bool) → nat_eq raw no_place ≡ t → raw_place (cond t None (Some raw)) ≡ raw
    by true e = sym ((Decides-eqb raw no_place).0 e)
    by false e = refl
