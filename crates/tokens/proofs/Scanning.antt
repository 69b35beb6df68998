-- Bytes read from the head on: digits, and the token that they are.
use Rattle.std.proofs.Common.{◌≡◌, ◌≢◌, ℕ, ◌+◌, ◌-◌, ◌*◌, ◌≤◌, ◌<◌, min, Bool, true, false, List, [], ◌∷◌, length, take, drop, get_or, refl, ap, ◌∙◌, sym, subst, arith}
use Rattle.std.specs.Prelude.{Some, None, option_map, ℤ, nat_eq, nat_le, ◌&&◌}
use Rattle.std.specs.Cmp.Lexicographic.{pointwise}
use Rattle.std.specs.Char.{is_ascii_digit}
use Rattle.std.specs.Str.{all_ascii_digits}
use Rattle.std.proofs.lemmas.Bool.Decides.{nat_tests}
use Rattle.std.proofs.lemmas.List.{length-drop}
use Rattle.std.proofs.lemmas.List.Folds.{length-prefix_len}
use Rattle.std.proofs.lemmas.List.Sums.{prefix_len-le-length, take_while-cons}
use Rattle.tokens.specs.Text.{Place, is_blank, is_solid, value_after, natural_of, number_of, number_in, in_bounds, signed_of}
use Rattle.tokens.specs.Scanned.{first_token, following_token, head_digits, after_digits}
use Rattle.tokens.proofs.Values.{following_first, capped_value_after}
use Rattle.tokens.proofs.Digits.{digit_range, solid_digit}

pub solid : (d : ℕ) → is_ascii_digit d ≡ true → is_solid d ≡ true
solid d digit = let range = digit_range d digit in solid_digit d (omega arith) range.1

pub digits_first : (x : ℕ) (xs : List ℕ) → is_ascii_digit x ≡ true → head_digits (x ∷ xs) ≡ x ∷ head_digits xs
digits_first x xs digit = take_while-cons is_ascii_digit x xs ∙ rw digit refl

pub no_digits : (x : ℕ) (xs : List ℕ) → is_ascii_digit x ≡ false → head_digits (x ∷ xs) ≡ []
no_digits x xs other = take_while-cons is_ascii_digit x xs ∙ rw other refl

pub token_first : (x : ℕ) (xs : List ℕ) → is_solid x ≡ true → first_token (x ∷ xs) ≡ x ∷ first_token xs
token_first x xs h = take_while-cons is_solid x xs ∙ rw h refl

-- a digit is added to the number so far
pub value_step : (bound total : ℕ) (xs : List ℕ) → 1 ≤ length xs → is_ascii_digit (get_or xs 0 0) ≡ true → min (value_after (min (10 * total + (get_or xs 0 0 - 48)) bound) (head_digits (take (length xs - 1) (drop 1 xs)))) bound ≡ min (value_after total (head_digits xs)) bound
value_step bound total [] some digit = absurd (omega arith)
value_step bound total (x ∷ xs) some digit = rw (following_first x xs, digits_first x xs digit) (capped_value_after bound (10 * total + (x - 48)) (head_digits xs))

-- and what stands after the digits is the same
pub after_step : (xs : List ℕ) → 1 ≤ length xs → is_ascii_digit (get_or xs 0 0) ≡ true → after_digits (take (length xs - 1) (drop 1 xs)) ≡ after_digits xs
after_step [] some digit = absurd (omega arith)
after_step (x ∷ xs) some digit = rw (following_first x xs, digits_first x xs digit) refl

-- no digit stands first
pub none_stands : (xs : List ℕ) → is_ascii_digit (get_or xs 0 0) ≡ false → head_digits xs ≡ []
none_stands [] other = refl
none_stands (x ∷ xs) other = no_digits x xs other

pub ruleset digit_steps = (value_step, after_step, none_stands)

-- the token and what stands after it are as long as all
pub token_length : (xs : List ℕ) → length (first_token xs) + length (following_token xs) ≡ length xs
token_length xs =
    let short = prefix_len-le-length is_solid xs in
    let long = length-prefix_len is_solid xs in
    let left = length-drop (length (first_token xs)) xs in
    omega arith

pub blank_first : (x : ℕ) (xs : List ℕ) → is_solid x ≡ false → first_token (x ∷ xs) ≡ []
blank_first x xs h = take_while-cons is_solid x xs ∙ rw h refl

-- where no token begins after the digits, the token is these digits
alone_by : (b : Bool) (x : ℕ) (xs : List ℕ) → is_ascii_digit x ≡ b → (first_token (after_digits xs) ≡ [] → (first_token xs ≡ head_digits xs) × (all_ascii_digits (first_token xs) ≡ true))
    → first_token (after_digits (x ∷ xs)) ≡ [] → (first_token (x ∷ xs) ≡ head_digits (x ∷ xs)) × (all_ascii_digits (first_token (x ∷ xs)) ≡ true)
alone_by true x xs digit more ends =
    let first = digits_first x xs digit in
    let token = token_first x xs (solid x digit) in
    let same : first_token (after_digits (x ∷ xs)) ≡ first_token (after_digits xs) = rw first refl in
    let rest = more (sym same ∙ ends) in
    (token ∙ ap (λ l. x ∷ l) rest.0 ∙ sym first, rw (token, digit) rest.1)
alone_by false x xs other more ends =
    let first = no_digits x xs other in
    let same : first_token (after_digits (x ∷ xs)) ≡ first_token (x ∷ xs) = rw first refl in
    let none = sym same ∙ ends in
    (none ∙ sym first, rw none refl)

alone : (xs : List ℕ) → first_token (after_digits xs) ≡ [] → (first_token xs ≡ head_digits xs) × (all_ascii_digits (first_token xs) ≡ true)
alone [] ends = (refl, refl)
alone (x ∷ xs) ends = alone_by (is_ascii_digit x) x xs refl (alone xs) ends

-- where one does, the token is not digits alone
beyond_by : (b c : Bool) (x : ℕ) (xs : List ℕ) → is_ascii_digit x ≡ b → is_solid x ≡ c → (0 < length (first_token (after_digits xs)) → all_ascii_digits (first_token xs) ≡ false)
    → 0 < length (first_token (after_digits (x ∷ xs))) → all_ascii_digits (first_token (x ∷ xs)) ≡ false
beyond_by true c x xs digit _ more some =
    let first = digits_first x xs digit in
    let token = token_first x xs (solid x digit) in
    let same : first_token (after_digits (x ∷ xs)) ≡ first_token (after_digits xs) = rw first refl in
    rw (token, digit) (more (subst (λ l. 0 < length l) same some))
beyond_by false true x xs other h more some =
    rw (token_first x xs h, other) refl
beyond_by false false x xs other h more some =
    let first = no_digits x xs other in
    let same : first_token (after_digits (x ∷ xs)) ≡ [] = rw (first, blank_first x xs h) refl in
    absurd (let none : 0 < 0 = subst (λ l. 0 < length l) same some in omega arith)

beyond : (xs : List ℕ) → 0 < length (first_token (after_digits xs)) → all_ascii_digits (first_token xs) ≡ false
beyond [] some = absurd (omega arith)
beyond (x ∷ xs) some = beyond_by (is_ascii_digit x) (is_solid x) x xs refl refl (beyond xs) some

natural_not : (xs : List ℕ) → all_ascii_digits xs ≡ false → natural_of xs ≡ None
natural_not [] h = refl
natural_not (x ∷ xs) h = rw h refl

natural_is : (xs : List ℕ) → 0 < length xs → all_ascii_digits xs ≡ true → natural_of xs ≡ Some (value_after 0 xs)
natural_is [] some h = absurd (omega arith)
natural_is (x ∷ xs) some h = rw h refl

-- a token that goes on after its digits writes no number
pub no_natural : (xs : List ℕ) → 0 < length (first_token (after_digits xs)) → natural_of (first_token xs) ≡ None
no_natural xs some = natural_not (first_token xs) (beyond xs some)

pub digits_long : (xs : List ℕ) → length (after_digits xs) + length (head_digits xs) ≡ length xs
digits_long xs =
    let short = prefix_len-le-length is_ascii_digit xs in
    let long = length-prefix_len is_ascii_digit xs in
    let left = length-drop (length (head_digits xs)) xs in
    omega arith

pub empty : (xs : List ℕ) → length xs ≡ 0 → xs ≡ []
empty [] h = refl
empty (x ∷ xs) h = absurd (omega arith)

no_digit_by : (c : Bool) (x : ℕ) (xs : List ℕ) → is_ascii_digit x ≡ false → is_solid x ≡ c → natural_of (first_token (x ∷ xs)) ≡ None
no_digit_by true x xs other h = rw (token_first x xs h, other) refl
no_digit_by false x xs other h = rw (blank_first x xs h) refl

no_digit_first : (b : Bool) (x : ℕ) (xs : List ℕ) → is_ascii_digit x ≡ b → length (after_digits (x ∷ xs)) ≡ length (x ∷ xs) → natural_of (first_token (x ∷ xs)) ≡ None
no_digit_first true x xs digit same =
    let long = digits_long (x ∷ xs) in
    let first = ap length (digits_first x xs digit) in
    absurd (omega arith)
no_digit_first false x xs other same = no_digit_by (is_solid x) x xs other refl

-- nor does one that has none
pub no_digit : (xs : List ℕ) → length (after_digits xs) ≡ length xs → natural_of (first_token xs) ≡ None
no_digit [] same = refl
no_digit (x ∷ xs) same = no_digit_first (is_ascii_digit x) x xs refl same

-- one or more digits up to a blank write a number
pub digits_natural : (xs : List ℕ) → length (after_digits xs) ≢ length xs → length (first_token (after_digits xs)) ≡ 0 → natural_of (first_token xs) ≡ Some (value_after 0 (head_digits xs))
digits_natural xs some ends =
    let both = alone xs (empty _ ends) in
    let long = digits_long xs in
    let more : 0 < length (first_token xs) = rw both.0 (omega arith) in
    natural_is (first_token xs) more both.1 ∙ ap (λ l. Some (value_after 0 l)) both.0

-- and what stands after them stands after the token
pub after_alone : (xs : List ℕ) → length (first_token (after_digits xs)) ≡ 0 → after_digits xs ≡ following_token xs
after_alone xs ends = ap (λ l. drop (length l) xs) (sym (alone xs (empty _ ends)).0)

pub ruleset natural_steps = (no_natural, no_digit, digits_natural, after_alone)

-- a token that begins with a minus is read as the digits after it
pub minus_number : (least greatest : ℤ) (place : Place) (xs : List ℕ) → 1 ≤ length xs → get_or xs 0 0 ≡ 45
    → number_in least greatest place (first_token xs) ≡ in_bounds least greatest place (option_map (signed_of true) (natural_of (first_token (take (length xs - 1) (drop 1 xs)))))
unfolding number_of
minus_number least greatest place [] some first = absurd (omega arith)
minus_number least greatest place (x ∷ xs) some first = rw (following_first x xs, first, token_first 45 xs refl) refl

-- what stands after the one stands after the others
pub after_minus : (xs : List ℕ) → 1 ≤ length xs → get_or xs 0 0 ≡ 45 → following_token xs ≡ following_token (take (length xs - 1) (drop 1 xs))
after_minus [] some first = absurd (omega arith)
after_minus (x ∷ xs) some first = rw (following_first x xs, first, token_first 45 xs refl) refl

-- a token that begins with another ASCII byte is read as digits
pub plain_number : (least greatest : ℤ) (place : Place) (xs : List ℕ) → 1 ≤ length xs → get_or xs 0 0 ≢ 45 → is_blank (get_or xs 0 0) ≡ false → get_or xs 0 0 < 128
    → number_in least greatest place (first_token xs) ≡ in_bounds least greatest place (option_map (signed_of false) (natural_of (first_token xs)))
unfolding number_of
plain_number least greatest place [] some other solid ascii = absurd (omega arith)
plain_number least greatest place (x ∷ xs) some other solid ascii =
    let token = token_first x xs (rw solid refl) in
    let no_minus : nat_eq x 45 ≡ false = grind (arith, nat_tests) in
    let low : nat_le 128 x ≡ false = grind (arith, nat_tests) in
    rw (token, no_minus, low) refl

pub ruleset number_steps = (minus_number, after_minus, plain_number)

by_test : (b : Bool) → (b && false) ≡ false
by_test true = refl
by_test false = refl

longer_by : (w x : ℕ) (b : Bool) (xs more : List ℕ) → is_solid x ≡ b → first_token xs ≡ more → 0 < length more → pointwise nat_eq (first_token (x ∷ xs)) (w ∷ []) ≡ false
longer_by w x true xs [] h same some = absurd (omega arith)
longer_by w x true xs (y ∷ more) h same some = rw (token_first x xs h, same) (by_test (nat_eq x w))
longer_by w x false xs more h same some = rw (blank_first x xs h) refl

apart_by : (w x : ℕ) (b : Bool) (xs : List ℕ) → is_solid x ≡ b → x ≢ w → pointwise nat_eq (first_token (x ∷ xs)) (w ∷ []) ≡ false
apart_by w x true xs h other =
    let no : nat_eq x w ≡ false = grind (arith, nat_tests) in
    rw (token_first x xs h, no) refl
apart_by w x false xs h other = rw (blank_first x xs h) refl

-- bytes whose first token is a byte alone begin with it, and no token begins after it
pub one_byte : (xs : List ℕ) → 1 ≤ length xs → is_blank (get_or xs 0 0) ≡ false → length (first_token (take (length xs - 1) (drop 1 xs))) ≡ 0
    → (first_token xs ≡ get_or xs 0 0 ∷ []) × (following_token xs ≡ take (length xs - 1) (drop 1 xs))
one_byte [] some solid ends = absurd (omega arith)
one_byte (x ∷ xs) some solid ends =
    let none = empty (first_token xs) (rw (following_first x xs) at ends) in
    let token : first_token (x ∷ xs) ≡ x ∷ [] = token_first x xs (rw solid refl) ∙ ap (λ l. x ∷ l) none in
    (token, rw (following_first x xs, token) refl)

-- a first token is no byte alone where another begins after the first byte
pub longer : (w : ℕ) (xs : List ℕ) → 1 ≤ length xs → 0 < length (first_token (take (length xs - 1) (drop 1 xs))) → pointwise nat_eq (first_token xs) (w ∷ []) ≡ false
longer w [] some more = absurd (omega arith)
longer w (x ∷ xs) some more = longer_by w x (is_solid x) xs (first_token xs) refl refl (rw (following_first x xs) at more)

-- nor where it begins otherwise
pub apart : (w : ℕ) (xs : List ℕ) → get_or xs 0 0 ≢ w → pointwise nat_eq (first_token xs) (w ∷ []) ≡ false
apart w [] other = refl
apart w (x ∷ xs) other = apart_by w x (is_solid x) xs refl other

-- nor is it a blank
pub no_blank : (xs : List ℕ) → is_blank (get_or xs 0 0) ≡ true → pointwise nat_eq (first_token xs) (get_or xs 0 0 ∷ []) ≡ false
no_blank [] blank = refl
no_blank (x ∷ xs) blank = rw (blank_first x xs (rw blank refl)) refl

pub ruleset byte_steps = (one_byte, longer, apart, no_blank)
