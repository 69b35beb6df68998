-- A number of few digits, read in a part of the bytes.
use Rattle.std.proofs.Common.{◌≡◌, ◌≢◌, ℕ, zero, suc, ◌-◌, ◌^◌, ◌≤◌, ◌<◌, min, Bool, true, false, List, [], ◌∷◌, length, take, drop, get_or, pos, refl, ap, ◌∙◌, sym, subst, arith}
use Rattle.std.specs.Int.{w64}
use Rattle.std.proofs.lemmas.Int.{ints}
use Rattle.std.specs.Prelude.{Option, None, IfSome, FitsSigned, Some, option_map, ℤ, int_le, ◌&&◌, Ok}
use Rattle.std.proofs.lemmas.List.{length-drop, length-take-le, take_all}
use Rattle.std.specs.Char.{is_ascii_digit}
use Rattle.tokens.specs.Text.{Place, is_solid, value_after, natural_of, number_in, in_bounds, signed_of}
use Rattle.tokens.specs.Scanned.{first_token, following_token, head_digits, after_digits}
use Rattle.tokens.proofs.Digits.{digit_range}
use Rattle.tokens.proofs.Values.{following_first}
use Rattle.tokens.proofs.Scanning.{solid, empty, digits_first, no_digits, token_first, blank_first, digits_long, digits_natural, after_alone, plain_number, minus_number}

-- where the digits end before a blank in the first n bytes, they are those of all bytes, and no token begins after them
abbrev Same : ℕ → List ℕ → Type 0
Same n xs = (head_digits (take n xs) ≡ head_digits xs) × (length (first_token (after_digits xs)) ≡ 0)

ends_by : (b : Bool) (x : ℕ) (n : ℕ) (xs : List ℕ) → is_solid x ≡ b → length (first_token (x ∷ take n xs)) ≡ 0 → length (first_token (x ∷ xs)) ≡ 0
ends_by true x n xs h ends = let long = ap length (token_first x (take n xs) h) in absurd (omega arith)
ends_by false x n xs h ends = rw (blank_first x xs h) refl

same_by : (b : Bool) (x n : ℕ) (xs : List ℕ) → is_ascii_digit x ≡ b → (0 < length (after_digits (take n xs)) → length (first_token (after_digits (take n xs))) ≡ 0 → Same n xs)
    → 0 < length (after_digits (x ∷ take n xs)) → length (first_token (after_digits (x ∷ take n xs))) ≡ 0 → Same (suc n) (x ∷ xs)
same_by true x n xs digit more some ends =
    let near = digits_first x (take n xs) digit in
    let far = digits_first x xs digit in
    let near_same : after_digits (x ∷ take n xs) ≡ after_digits (take n xs) = rw near refl in
    let far_same : after_digits (x ∷ xs) ≡ after_digits xs = rw far refl in
    let rest = more (subst (λ l. 0 < length l) near_same some) (subst (λ l. length (first_token l) ≡ 0) near_same ends) in
    (near ∙ ap (λ l. x ∷ l) rest.0 ∙ sym far, subst (λ l. length (first_token l) ≡ 0) (sym far_same) rest.1)
same_by false x n xs other more some ends =
    let near = no_digits x (take n xs) other in
    let far = no_digits x xs other in
    let near_same : after_digits (x ∷ take n xs) ≡ x ∷ take n xs = rw near refl in
    let far_same : after_digits (x ∷ xs) ≡ x ∷ xs = rw far refl in
    (near ∙ sym far, subst (λ l. length (first_token l) ≡ 0) (sym far_same) (ends_by (is_solid x) x n xs refl (subst (λ l. length (first_token l) ≡ 0) near_same ends)))

same : (n : ℕ) (xs : List ℕ) → 0 < length (after_digits (take n xs)) → length (first_token (after_digits (take n xs))) ≡ 0 → Same n xs
same zero xs some ends = absurd (omega arith)
same (suc n) [] some ends = absurd (omega arith)
same (suc n) (x ∷ xs) some ends = same_by (is_ascii_digit x) x n xs refl (same n xs) some ends

first_digit : (xs : List ℕ) → 0 < length (head_digits xs) → is_ascii_digit (get_or xs 0 0) ≡ true
first_digit [] some = absurd (omega arith)
first_digit (x ∷ xs) some = first_by (is_ascii_digit x) x xs refl some where
  first_by : (b : Bool) (x : ℕ) (xs : List ℕ) → is_ascii_digit x ≡ b → 0 < length (head_digits (x ∷ xs)) → is_ascii_digit x ≡ true
  first_by true x xs h some = h
  first_by false x xs h some = let none = ap length (no_digits x xs h) in absurd (omega arith)

-- the first token of all bytes begins with a digit
pub window_digit : (n : ℕ) (xs following : List ℕ) → n ≤ length xs → following ≡ after_digits (take n xs) → 0 < length following → length (first_token following) ≡ 0 → n - length following ≢ 0
    → is_ascii_digit (get_or xs 0 0) ≡ true
window_digit n xs following fit is some ends more =
    let both = same n xs (subst (λ l. 0 < length l) is some) (subst (λ l. length (first_token l) ≡ 0) is ends) in
    let long = digits_long (take n xs) in
    let short : length (take n xs) ≡ n = length-take-le n xs fit in
    let b = ap length is in
    first_digit xs (subst (λ l. 0 < length l) both.0 (omega arith))

-- the number that they write is that of the first token
pub window_size : (n size : ℕ) (xs following : List ℕ) → n ≤ length xs → size ≡ min (value_after 0 (head_digits (take n xs))) (2 ^ 64 - 1) → following ≡ after_digits (take n xs)
    → 0 < length following → length (first_token following) ≡ 0 → n - length following ≢ 0
    → option_map (λ k. min k (2 ^ 64 - 1)) (natural_of (first_token xs)) ≡ Some size
window_size n size xs following fit size_is is some ends more =
    let both = same n xs (subst (λ l. 0 < length l) is some) (subst (λ l. length (first_token l) ≡ 0) is ends) in
    let near = digits_long (take n xs) in
    let long = digits_long xs in
    let short : length (take n xs) ≡ n = length-take-le n xs fit in
    let b = ap length is in
    let same_long = ap length both.0 in
    let natural = digits_natural xs (λ e. omega (arith, e)) both.1 in
    ap (option_map (λ k. min k (2 ^ 64 - 1))) natural ∙ ap Some (ap (λ l. min (value_after 0 l) (2 ^ 64 - 1)) (sym both.0) ∙ sym size_is)

-- and what stands after them is what stands after the token
pub window_after : (n : ℕ) (xs following : List ℕ) → n ≤ length xs → following ≡ after_digits (take n xs) → 0 < length following → length (first_token following) ≡ 0
    → take (length xs - (n - length following)) (drop (n - length following) xs) ≡ following_token xs
window_after n xs following fit is some ends =
    let both = same n xs (subst (λ l. 0 < length l) is some) (subst (λ l. length (first_token l) ≡ 0) is ends) in
    let long = digits_long (take n xs) in
    let short : length (take n xs) ≡ n = length-take-le n xs fit in
    let count : n - length following ≡ length (head_digits xs) = (let e = ap length both.0 in let b = ap length is in omega arith) in
    let left = length-drop (n - length following) xs in
    take_all (length xs - (n - length following)) (drop (n - length following) xs) (omega arith) ∙ (ap (λ k. drop k xs) count ∙ after_alone xs both.1)

pub ruleset window_steps = (window_digit, window_size, window_after)

-- a number of a size that fits is read
pub read_within : (is_negative : Bool) (least greatest number : ℤ) (place : Place) (natural : Option ℕ) (size : ℕ) → option_map (λ k. min k (2 ^ 64 - 1)) natural ≡ Some size
    → number ≡ signed_of is_negative size → FitsSigned w64 (signed_of is_negative size) → (int_le least number && int_le number greatest) ≡ true
    → in_bounds least greatest place (option_map (signed_of is_negative) natural) ≡ Ok number
read_within is_negative least greatest number place None size some number_is fits tests = absurd (cc)
read_within is_negative least greatest number place (Some n) size some number_is fits tests =
    let cut : min n (2 ^ 64 - 1) ≡ size = (let e = some in cc) in
    let few : size < 2 ^ 64 - 1 = short_size is_negative size fits in
    let same : n ≡ size = omega arith in
    rw (same, sym number_is, tests) refl where
      short_size : (is_negative : Bool) (size : ℕ) → FitsSigned w64 (signed_of is_negative size) → size < 2 ^ 64 - 1
      short_size true size fits = omega (arith, ints, fits)
      short_size false size fits = omega (arith, ints, fits)

-- a token that begins with a digit is read as digits
digit_number : (least greatest : ℤ) (place : Place) (xs : List ℕ) → is_ascii_digit (get_or xs 0 0) ≡ true
    → number_in least greatest place (first_token xs) ≡ in_bounds least greatest place (option_map (signed_of false) (natural_of (first_token xs)))
digit_number least greatest place [] digit = absurd (cc)
digit_number least greatest place (x ∷ xs) digit =
    let range = digit_range x digit in
    plain_number least greatest place (x ∷ xs) (omega arith) (λ e. omega (arith, e)) (grind arith) (omega arith)

-- what is read of the digits after a minus is read of the token, and so is what is read of the digits of a token that begins with one
module _ {X : Type 0} (value : X → ℤ) (least greatest : ℤ) (xs : List ℕ) where
  abbrev pub IsRead : Bool → List ℕ → X → Type 0
  IsRead is_negative digits n = (place : Place) → in_bounds least greatest place (option_map (signed_of is_negative) (natural_of (first_token digits))) ≡ Ok (value n)

  pub minus_read : (read : Option X) → 1 ≤ length xs → get_or xs 0 0 ≡ 45 → IfSome read (IsRead true (take (length xs - 1) (drop 1 xs))) → IfSome read (λ n. (place : Place) → number_in least greatest place (first_token xs) ≡ Ok (value n))
  minus_read None some first is = tt
  minus_read (Some n) some first is = λ place. minus_number least greatest place xs some first ∙ is place

  pub digits_read : (read : Option X) → IfSome read (λ _. is_ascii_digit (get_or xs 0 0) ≡ true) → IfSome read (IsRead false xs) → IfSome read (λ n. (place : Place) → number_in least greatest place (first_token xs) ≡ Ok (value n))
  digits_read None digit is = tt
  digits_read (Some n) digit is = λ place. digit_number least greatest place xs digit ∙ is place

-- a token of one digit is read, and what stands after it is what stands after the digit
module _ (xs : List ℕ) (some : 1 ≤ length xs) (digit : is_ascii_digit (get_or xs 0 0) ≡ true) (ends : length (first_token (take (length xs - 1) (drop 1 xs))) ≡ 0) where
  pub one_digit_token : first_token xs ≡ get_or xs 0 0 ∷ []
  one_digit_token = go xs some digit ends where
    go : (l : List ℕ) → 1 ≤ length l → is_ascii_digit (get_or l 0 0) ≡ true → length (first_token (take (length l - 1) (drop 1 l))) ≡ 0 → first_token l ≡ get_or l 0 0 ∷ []
    go [] some digit ends = absurd (omega arith)
    go (x ∷ l) some digit ends = token_first x l (solid x digit) ∙ ap (λ t. x ∷ t) (empty (first_token l) (rw (following_first x l) at ends))

  pub one_digit_read : (least greatest number : ℤ) → number ≡ pos (get_or xs 0 0 - 48) → (int_le least number && int_le number greatest) ≡ true → (place : Place) → number_in least greatest place (first_token xs) ≡ Ok number
  one_digit_read least greatest number is tests place =
      let range = digit_range (get_or xs 0 0) digit in
      let natural : option_map (λ k. min k (2 ^ 64 - 1)) (natural_of (first_token xs)) ≡ Some (get_or xs 0 0 - 48) = rw (one_digit_token, digit) (ap Some (omega arith)) in
      digit_number least greatest place xs digit ∙ read_within false least greatest number place (natural_of (first_token xs)) (get_or xs 0 0 - 48) natural is (omega (arith, ints)) tests

  pub one_digit_after : take (length xs - 1) (drop 1 xs) ≡ following_token xs
  one_digit_after = let left = length-drop 1 xs in take_all (length xs - 1) (drop 1 xs) (omega arith) ∙ ap (λ l. drop (length l) xs) (sym one_digit_token)

pub ruleset one_digit_steps = (one_digit_read, one_digit_after)
