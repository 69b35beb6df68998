-- Printed digits: what they are and what number they write.
use Rattle.std.proofs.Common.{◌≡◌, ℕ, suc, ◌<◌, ◌≤◌, ◌^◌, true, false, List, [], ◌∷◌, length, ℤ, pos, negsuc, neg_ℤ, refl, ap, ◌∙◌, arith, rules, tests, nat_eq, lit<, lit≤}
use Rattle.std.specs.Prelude.{Some, nat_abs, decimal}
use Rattle.std.specs.List.{list_all}
use Rattle.std.specs.Char.{is_ascii_digit}
use Rattle.std.specs.Str.{all_ascii_digits}
use Rattle.std.proofs.lemmas.Bool.{and_parts}
use Rattle.std.proofs.lemmas.Bool.Decides.{nat_tests}
use Rattle.std.proofs.lemmas.Str.Parse.{IsNumeralModel, numerals_by_fold}
use Rattle.std.proofs.lemmas.Fmt.{digits_decimal, digits_value-decimal, decimal_nonempty}
use Rattle.tokens.specs.Text.{Comment, is_solid, opens_comment, value_after, natural_of, number_of}
use Rattle.tokens.specs.declared.comment.Comment.TheVariants.{Never, Hash, LetterC}
use Rattle.tokens.specs.Decimal.{decimal_of}

own : IsNumeralModel (λ ds. all_ascii_digits ds ≡ true) (value_after 0)
own = numerals_by_fold _ (search rules) value_after (search rules)

-- a digit is a byte from 48 to 57
pub digit_range : (d : ℕ) → is_ascii_digit d ≡ true → (48 ≤ d) × (d ≤ 57)
digit_range d h = search (rules, tests)

pub solid_digit : (d : ℕ) → 45 ≤ d → d ≤ 57 → is_solid d ≡ true
solid_digit d low high = grind (arith, nat_tests)

pub solid_digits : (ds : List ℕ) → all_ascii_digits ds ≡ true → list_all is_solid ds ≡ true
solid_digits [] h = refl
solid_digits (d ∷ ds) h =
    let parts : (is_ascii_digit d ≡ true) × (all_ascii_digits ds ≡ true) = and_parts _ _ h in
    let range : (48 ≤ d) × (d ≤ 57) = digit_range d parts.0 in
    rw (solid_digit d (omega arith) range.1, solid_digits ds parts.1) refl

natural_of_digits : (ds : List ℕ) → 0 < length ds → all_ascii_digits ds ≡ true → natural_of ds ≡ Some (value_after 0 ds)
natural_of_digits [] some h = absurd (omega arith)
natural_of_digits (d ∷ ds) some h = rw h refl

number_of_digits : (ds : List ℕ) → 0 < length ds → all_ascii_digits ds ≡ true → number_of ds ≡ Some (pos (value_after 0 ds))
unfolding number_of
number_of_digits [] some h = absurd (omega arith)
number_of_digits (d ∷ ds) some h =
    let range : (48 ≤ d) × (d ≤ 57) = digit_range d (and_parts _ _ h).0 in
    let no_minus : nat_eq d 45 ≡ false = grind (arith, nat_tests) in
    rw (no_minus, h) refl

number_of_minus : (ds : List ℕ) → 0 < length ds → all_ascii_digits ds ≡ true → number_of (45 ∷ ds) ≡ Some (neg_ℤ (pos (value_after 0 ds)))
unfolding number_of
number_of_minus ds some h = rw (natural_of_digits ds some h) refl

-- the number that printed digits write is the one that was printed
pub number_of-decimal_of : (z : ℤ) → nat_abs z < 2 ^ 64 → number_of (decimal_of z) ≡ Some z
number_of-decimal_of (pos n) h = number_of_digits (decimal n) (decimal_nonempty n h) (digits_decimal own n h) ∙ ap (λ k. Some (pos k)) (digits_value-decimal own n h)
number_of-decimal_of (negsuc n) h = number_of_minus (decimal (suc n)) (decimal_nonempty (suc n) h) (digits_decimal own (suc n) h) ∙ ap (λ k. Some (neg_ℤ (pos k))) (digits_value-decimal own (suc n) h)

-- a printed number as a first byte and others, with no blank
pub record IsPrinted (printed : List ℕ) : Type 0 where
  pub first : ℕ
  pub others : List ℕ
  pub printed_is : printed ≡ first ∷ others
  pub solid : list_all is_solid (first ∷ others) ≡ true
  pub ascii : first < 128
  pub plain : (comment : Comment) → opens_comment comment first ≡ false

plain_digit : (comment : Comment) (d : ℕ) → 45 ≤ d → d ≤ 57 → opens_comment comment d ≡ false
plain_digit Never d low high = refl
plain_digit Hash d low high = grind (arith, nat_tests)
plain_digit LetterC d low high = grind (arith, nat_tests)

printed_digits : (ds : List ℕ) → 0 < length ds → all_ascii_digits ds ≡ true → IsPrinted ds
printed_digits [] some h = absurd (omega arith)
printed_digits (d ∷ ds) some h =
    let range : (48 ≤ d) × (d ≤ 57) = digit_range d (and_parts _ _ h).0 in
    record { first = d; others = ds; printed_is = refl; solid = solid_digits (d ∷ ds) h; ascii = omega arith; plain = λ comment. plain_digit comment d (omega arith) range.1 }

pub is_printed : (z : ℤ) → nat_abs z < 2 ^ 64 → IsPrinted (decimal_of z)
is_printed (pos n) h = printed_digits (decimal n) (decimal_nonempty n h) (digits_decimal own n h)
is_printed (negsuc n) h = record { first = 45; others = decimal (suc n); printed_is = refl; solid = solid_digits (decimal (suc n)) (digits_decimal own (suc n) h); ascii = lit< tt; plain = λ comment. plain_digit comment 45 (lit≤ tt) (lit≤ tt) }
