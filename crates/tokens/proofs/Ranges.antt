-- A number that was read lies in the range that was asked for.
use Rattle.std.proofs.Common.{◌≡◌, ℕ, List, [], ◌∷◌, ℤ, Bool, true, false, refl, tests, rules}
use Rattle.std.specs.Prelude.{Option, Some, None, Result, Ok, Err, IfOk, if◌then◌else◌, ◌≤ℤ◌, ◌&&◌, int_le, nat_le}
use Rattle.tokens.specs.Text.{TextState, Place, TextError, place_of, token, number_of, in_bounds, number_in, number_at}
use Rattle.tokens.specs.declared.text_error.TextError.TheVariants.{OutOfRange}

range_of_tests : (least greatest z : ℤ) → (int_le least z && int_le z greatest) ≡ true → (least ≤ℤ z) × (z ≤ℤ greatest)
range_of_tests least greatest z h = search (rules, tests)

abbrev InRange : ℤ → ℤ → ℤ → Type 0
InRange least greatest z = (least ≤ℤ z) × (z ≤ℤ greatest)

by_test : (least greatest z : ℤ) (place : Place) (b : Bool) → (b ≡ true → InRange least greatest z) → IfOk (if b then Ok z else Err (OutOfRange place)) (InRange least greatest)
by_test least greatest z place true h = h refl
by_test least greatest z place false h = tt

within_range : (least greatest : ℤ) (place : Place) (read : Option ℤ) → IfOk (in_bounds least greatest place read) (InRange least greatest)
within_range least greatest place None = tt
within_range least greatest place (Some z) = by_test least greatest z place _ (range_of_tests least greatest z)

unless_first : (P : ℤ → Type 0) (b : Bool) (e : TextError) (read : Result ℤ TextError) → IfOk read P → IfOk (if b then Err e else read) P
unless_first P true e read h = tt
unless_first P false e read h = h

number_in_range : (least greatest : ℤ) (place : Place) (word : List ℕ) → IfOk (number_in least greatest place word) (InRange least greatest)
number_in_range least greatest place [] = tt
number_in_range least greatest place (b ∷ bs) = unless_first (InRange least greatest) (nat_le 128 b) _ _ (within_range least greatest place (number_of (b ∷ bs)))

-- what was read lies in the range
pub number_at_range : (least greatest : ℤ) (s : TextState) (read : Result ℤ TextError) → read ≡ number_at least greatest s → IfOk read (λ z. (least ≤ℤ z) × (z ≤ℤ greatest))
unfolding number_at
number_at_range least greatest s read e = rw e (number_in_range least greatest (place_of s) (token s))
