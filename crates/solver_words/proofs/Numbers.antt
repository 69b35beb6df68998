-- The budget that a word writes, and what `parse` makes of it.
use Rattle.std.proofs.Common.{Bool, Option, ◌≡◌, ◌≢◌, ℕ, ◌^◌, ◌<◌, List, [], ◌∷◌, length, get_or, refl, sym, ap, ◌∙◌, true, false, cond, Some, None, arith, rules}
use Rattle.std.specs.Prelude.{nat_le, ◌&&◌, Result, Ok, Err}
use Rattle.std.specs.Option.{option_and_then}
use Rattle.std.specs.Result.{OkIff, result_ok}
use Rattle.std.specs.Str.{all_ascii_digits}
use Rattle.std.specs.Str.Parse.{ParsesUnsigned}
use Rattle.std.proofs.lemmas.Str.Parse.{IsNumeralModel, numerals_by_fold, tells_all_ascii_digits, parse_plain}
use Rattle.tokens.specs.Text.{value_after, natural_of}
use Rattle.solver_words.specs.Words.{in_64_bits, natural_in_64_bits, greatest_budget, ranged}

own : IsNumeralModel (λ ds. all_ascii_digits ds ≡ true) (value_after 0)
own = numerals_by_fold _ tells_all_ascii_digits value_after (search rules)

-- no number is written where a byte is no digit
no_digits : (ds : List ℕ) → all_ascii_digits ds ≡ false → option_and_then in_64_bits (natural_of ds) ≡ None
no_digits [] e = refl
no_digits (d ∷ ds) e = ap (λ b. option_and_then in_64_bits (cond b (Some (value_after 0 (d ∷ ds))) None)) e

some_digits : (ds : List ℕ) → 0 < length ds → all_ascii_digits ds ≡ true → option_and_then in_64_bits (natural_of ds) ≡ in_64_bits (value_after 0 ds)
some_digits [] some e = absurd (omega arith)
some_digits (d ∷ ds) some e = ap (λ b. option_and_then in_64_bits (cond b (Some (value_after 0 (d ∷ ds))) None)) e

fits : (n : ℕ) → n < 2 ^ 64 → in_64_bits n ≡ Some n
fits n h = grind arith

too_large : (n : ℕ) → (n < 2 ^ 64 → ⊥) → in_64_bits n ≡ None
too_large n h = grind arith

by_outcome : {E : Type 0} (ds : List ℕ) (r : Result ℕ E) → OkIff r ((all_ascii_digits ds ≡ true) × (0 < length ds) × (value_after 0 ds < 2 ^ 64)) (value_after 0 ds)
    → result_ok r ≡ option_and_then in_64_bits (natural_of ds)
by_outcome ds (Ok n) h = ap Some h.1 ∙ sym (some_digits ds h.0.1 h.0.0 ∙ fits _ h.0.2)
by_outcome [] (Err e) h = refl
by_outcome (d ∷ ds) (Err e) h =
    elim (all_ascii_digits (d ∷ ds)) as (λ b. all_ascii_digits (d ∷ ds) ≡ b → None ≡ option_and_then in_64_bits (natural_of (d ∷ ds))) [
      | true ↦ λ e. sym (some_digits (d ∷ ds) (omega arith) e ∙ too_large _ (λ small. h (e, omega arith, small)))
      | false ↦ λ e. sym (no_digits (d ∷ ds) e)
    ] refl

-- what `parse` finds in a word without a plus
pub parsed : {E : Type 0} (word : List ℕ) (r : Result ℕ E) → ParsesUnsigned 64 10 word r → get_or word 0 0 ≢ 43 → result_ok r ≡ option_and_then in_64_bits (natural_of word)
parsed word r h plain = by_outcome word r (parse_plain own 64 word r h plain)

-- no budget begins with a plus
pub no_plus : (word : List ℕ) → get_or word 0 0 ≡ 43 → natural_in_64_bits word ≡ None
no_plus [] e = absurd (omega arith)
no_plus (d ∷ ds) e =
    let none = no_digits (d ∷ ds) (rw e refl) in
    grind (arith)

abbrev between : ℕ → ℕ → ℕ → Option ℕ
between least most n = cond (nat_le least n && nat_le n most) (Some n) None

and_none : (b : Bool) (n : ℕ) → cond (b && false) (Some n) None ≡ None
and_none true n = refl
and_none false n = refl

fits_between : (least most : ℕ) → most < 2 ^ 64 → (n : ℕ) (t : Bool) → nat_le n greatest_budget ≡ t
    → between least most n ≡ option_and_then (between least most) (cond (nat_le n greatest_budget) (Some n) None)
fits_between least most lt n true e = rw e refl
fits_between least most lt n false e =
    let above : nat_le n most ≡ false = grind arith in
    rw (e, above) (and_none (nat_le least n) n)

by_number : (least most : ℕ) → most < 2 ^ 64 → (o : Option ℕ) → option_and_then (between least most) o ≡ option_and_then (between least most) (option_and_then in_64_bits o)
by_number least most lt None = refl
by_number least most lt (Some n) = fits_between least most lt n (nat_le n greatest_budget) refl

-- a number in a range that 64 bits hold is one that `read_u64` gives
pub in_range : (word : List ℕ) (least most : ℕ) → most < 2 ^ 64 → ranged least most word ≡ option_and_then (λ n. cond (nat_le least n && nat_le n most) (Some n) None) (natural_in_64_bits word)
in_range word least most lt = by (nat_le (length word) 20)
  where
    by : (t : Bool) → option_and_then (between least most) (cond t (natural_of word) None)
        ≡ option_and_then (between least most) (cond t (option_and_then in_64_bits (natural_of word)) None)
    by true = by_number least most lt (natural_of word)
    by false = refl
