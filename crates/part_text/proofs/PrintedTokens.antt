-- What is read of printed tokens.
use Rattle.std.proofs.Common.{◌≡◌, ℕ, zero, suc, ◌-◌, ◌/◌, ◌%◌, ◌<◌, ◌≤◌, ◌^◌, pos, Bool, true, false, nat_eq, List, [], ◌∷◌, ◌++◌, length, take, drop, ℤ, refl, sym, ap, ◌∙◌, subst, arith, rules, tests, slice_index, lit<}
use Rattle.std.specs.Prelude.{decimal, Some, Ok, ◌≤ℤ◌, ◌&&◌, nat_le, nat_lt, int_le, take_while}
use Rattle.std.specs.List.{list_all, prefix_len}
use Rattle.std.specs.Str.{all_ascii_digits}
use Rattle.std.specs.Char.{is_ascii_digit}
use Rattle.std.proofs.lemmas.List.{take_all}
use Rattle.std.proofs.Math.Seq.{take-append_seam, drop-append_seam}
use Rattle.std.proofs.lemmas.Bool.{and_parts, ltb-true, not-true}
use Rattle.std.proofs.lemmas.Bool.Decides.{nat_tests}
use Rattle.std.proofs.lemmas.Int.{ints}
use Rattle.std.proofs.lemmas.Fmt.{digits_decimal, decimal_nonempty, length-decimal-le}
use Rattle.std.proofs.lemmas.Str.Parse.{IsNumeralModel, numerals_by_fold}
use Rattle.hex.specs.Hex.{IsBytes, encode_lower, encode_with, lower_digits}
use Rattle.hex.proofs.HexLemmas.{decode_sized-encode_lower}
use Rattle.tokens.specs.Text.{TextState, is_blank, is_solid, is_passed, skip, at_token, token, number_at, number_of, after_token, is_at_end, text_start, value_after}
use Rattle.tokens.specs.declared.comment.Comment.TheVariants.{Never}
use Rattle.tokens.specs.Counts.{is_count}
use Rattle.tokens.specs.Decimal.{decimal_of}
use Rattle.tokens.proofs.Digits.{digit_range, is_printed, number_of-decimal_of}
use Rattle.problem_names.specs.declared.part.PartNumber.{PartNumber}
use Rattle.cover_text.proofs.PrintedTokens.{IsAhead, IsAt, BeginsBlank, PassesWord, passes_number, same-self}
use Rattle.part_text.specs.Grammar.{fixed_at, small_at}
use Rattle.part_text.specs.Written.{alone, digest_written, part_written, slash_place, small_written}

pub passes_fixed : (w : ℕ) (ws more : List ℕ) (s : TextState) → PassesWord (w ∷ ws) more s → fixed_at (w ∷ ws) s ≡ Ok (after_token s)
unfolding fixed_at
passes_fixed w ws more s read = rw (read.value, same-self (w ∷ ws)) refl

-- a number of 32 bits
pub record PassesSmall (n : ℕ) (more : List ℕ) (s : TextState) : Type 0 where
  pub value : small_at s ≡ Ok (n, after_token s)
  pub at : IsAt more (after_token s)

pub passes_small : (n : ℕ) (more : List ℕ) (s : TextState) → n < 2 ^ 32 → BeginsBlank more → IsAhead (decimal_of (pos n) ++ more) s → PassesSmall n more s
unfolding small_at
passes_small n more s few blank ahead =
    let read = passes_number (pos n) (pos 0) (pos (2 ^ 32 - 1)) more s (omega arith) (omega (arith, ints)) (omega (arith, ints)) blank ahead in
    record { value = rw read.value refl; at = read.at }

-- ---- a whole text of one number

solid-length : (ds : List ℕ) → list_all is_solid ds ≡ true → prefix_len is_solid ds ≡ length ds
solid-length [] h = refl
solid-length (d ∷ ds) h =
    let parts : (is_solid d ≡ true) × (list_all is_solid ds ≡ true) = and_parts _ _ h in
    let rest = solid-length ds parts.1 in
    rw parts.0 (omega (arith, rest))

all-solid : (ds : List ℕ) → list_all is_solid ds ≡ true → take_while is_solid ds ≡ ds
all-solid ds h = ap (λ n. take n ds) (solid-length ds h) ∙ take_all (length ds) ds (omega arith)

starts-at : (w : ℕ) (ws : List ℕ) → is_solid w ≡ true → at_token (text_start Never (w ∷ ws)) ≡ text_start Never (w ∷ ws)
unfolding at_token
starts-at w ws solid =
    let no_blank : is_blank w ≡ false = not-true (is_blank w) solid in
    let stays : is_passed Never false true w ≡ false = rw no_blank refl in
    rw (stays, skip) refl

alone-token : (w : ℕ) (ws : List ℕ) → list_all is_solid (w ∷ ws) ≡ true → token (text_start Never (w ∷ ws)) ≡ w ∷ ws
unfolding token
alone-token w ws solid = ap (λ (s : TextState). take_while is_solid s.rest) (starts-at w ws (and_parts _ _ solid).0) ∙ all-solid (w ∷ ws) solid

drop-all : (xs : List ℕ) → drop (length xs) xs ≡ []
drop-all [] = refl
drop-all (x ∷ xs) = drop-all xs

nothing-left : (s : TextState) → s.rest ≡ [] → is_at_end s ≡ true
unfolding is_at_end at_token
nothing-left s e = rw e refl

alone-over : (w : ℕ) (ws : List ℕ) → list_all is_solid (w ∷ ws) ≡ true → is_at_end (after_token (text_start Never (w ∷ ws))) ≡ true
unfolding after_token
alone-over w ws solid =
    let s = text_start Never (w ∷ ws) in
    let rest : (after_token s).rest ≡ [] =
    ap (λ (t : List ℕ). drop (length t) (at_token s).rest) (alone-token w ws solid) ∙ ap (λ (t : TextState). drop (length (w ∷ ws)) t.rest) (starts-at w ws (and_parts _ _ solid).0) ∙ drop-all (w ∷ ws) in
    nothing-left (after_token s) rest

in-range : (least z greatest : ℤ) → least ≤ℤ z → z ≤ℤ greatest → (int_le least z && int_le z greatest) ≡ true
in-range least z greatest low high = search (rules, tests)

alone-number : (n w : ℕ) (ws : List ℕ) → n < 2 ^ 32 → decimal n ≡ w ∷ ws → list_all is_solid (w ∷ ws) ≡ true → w < 128 → small_at (text_start Never (w ∷ ws)) ≡ Ok (n, after_token (text_start Never (w ∷ ws)))
unfolding small_at number_at
alone-number n w ws few is solid ascii =
    let s = text_start Never (w ∷ ws) in
    let high : nat_le 128 w ≡ false = grind (arith, nat_tests) in
    let written : number_of (w ∷ ws) ≡ Some (pos n) = ap number_of (sym is) ∙ number_of-decimal_of (pos n) (omega arith) in
    rw (alone-token w ws solid, high, written, in-range (pos 0) (pos n) (pos (2 ^ 32 - 1)) (omega (arith, ints)) (omega (arith, ints))) refl

own : IsNumeralModel (λ ds. all_ascii_digits ds ≡ true) (value_after 0)
own = numerals_by_fold _ (search rules) value_after (search rules)

decimal-short : (n : ℕ) → n < 2 ^ 64 → length (decimal n) ≤ 20
decimal-short n small = length-decimal-le 20 n (lit< tt) (omega arith) small

pub small-again : (n : ℕ) → n < 2 ^ 32 → small_written (decimal n) ≡ Some n
unfolding small_written
small-again n few =
    let p = is_printed (pos n) (omega arith) in
    let is : decimal n ≡ p.first ∷ p.others = p.printed_is in
    let short = decimal-short n (omega arith) in
    let fits : nat_le (length (decimal n)) 20 ≡ true = grind (arith, nat_tests) in
    let read = alone-number n p.first p.others few is p.solid p.ascii in
    let over = alone-over p.first p.others p.solid in
    rw fits (ap (λ (ds : List ℕ). alone (small_at (text_start Never ds))) is ∙ ap alone read ∙ rw over refl)

-- ---- parts

not-slash : (d : ℕ) → is_ascii_digit d ≡ true → nat_eq d 47 ≡ false
not-slash d h = let range = digit_range d h in let low = range.0 in grind (arith, nat_tests)

before-slash : (ds rest : List ℕ) → all_ascii_digits ds ≡ true → slash_place (ds ++ 47 ∷ rest) ≡ length ds
before-slash [] rest h = refl
before-slash (d ∷ ds) rest h =
    let parts : (is_ascii_digit d ≡ true) × (all_ascii_digits ds ≡ true) = and_parts _ _ h in
    let more = before-slash ds rest parts.1 in
    rw (not-slash d parts.0) (omega (arith, more))

pub part-again : (part : PartNumber) → part.index < 2 ^ 32 → part.of < 2 ^ 32 → part_written (decimal part.index ++ 47 ∷ decimal part.of) ≡ Some part
unfolding part_written
part-again part low high =
    let digits = digits_decimal own part.index (omega arith) in
    let place = before-slash (decimal part.index) (decimal part.of) digits in
    rw (place, take-append_seam (decimal part.index) (47 ∷ decimal part.of), drop-append_seam (decimal part.index) (47 ∷ decimal part.of), small-again part.index low, small-again part.of high) refl

-- a word with no blank that begins with a byte of ASCII
pub record IsPlain (word : List ℕ) : Type 0 where
  pub first : ℕ
  pub others : List ℕ
  pub is : word ≡ first ∷ others
  pub solid : list_all is_solid (first ∷ others) ≡ true
  pub ascii : first < 128

both-solid : (xs ys : List ℕ) → list_all is_solid xs ≡ true → list_all is_solid ys ≡ true → list_all is_solid (xs ++ ys) ≡ true
both-solid [] ys hx hy = hy
both-solid (x ∷ xs) ys hx hy =
    let parts : (is_solid x ≡ true) × (list_all is_solid xs ≡ true) = and_parts _ _ hx in
    rw (parts.0, both-solid xs ys parts.1 hy) refl

pub part-plain : (index of : ℕ) → index < 2 ^ 32 → of < 2 ^ 32 → IsPlain (decimal index ++ 47 ∷ decimal of)
part-plain index of low high =
    let p = is_printed (pos index) (omega arith) in
    let q = is_printed (pos of) (omega arith) in
    let after : list_all is_solid (47 ∷ decimal of) ≡ true = subst (λ (w : List ℕ). list_all is_solid (47 ∷ w) ≡ true) (sym q.printed_is) q.solid in
    record {
      first = p.first;
      others = p.others ++ 47 ∷ decimal of;
      is = ap (λ (w : List ℕ). w ++ 47 ∷ decimal of) p.printed_is;
      solid = both-solid (p.first ∷ p.others) (47 ∷ decimal of) p.solid after;
      ascii = p.ascii;
    }

-- ---- digests

-- at a place of a list that passes a test the test passes
at-place : (test : ℕ → Bool) (t : List ℕ) → list_all test t ≡ true → (k : ℕ) → k < length t → test (slice_index t k) ≡ true
at-place test [] h k below = absurd (omega arith)
at-place test (x ∷ xs) h zero below = (and_parts _ _ h).0
at-place test (x ∷ xs) h (suc k) below = at-place test xs (and_parts _ _ h).1 k (omega arith)

digit-solid : (k : ℕ) → k < 16 → is_solid (slice_index lower_digits k) ≡ true
digit-solid k below = at-place is_solid lower_digits refl k below

digit-ascii : (k : ℕ) → k < 16 → slice_index lower_digits k < 128
digit-ascii k below = ltb-true _ 128 (at-place (λ b. nat_lt b 128) lower_digits refl k below)

digits-solid : (xs : List ℕ) → IsBytes xs → list_all is_solid (encode_lower xs) ≡ true
unfolding encode_with
digits-solid [] h = refl
digits-solid (b ∷ rest) h =
    let fits : b < 256 = h 0 in
    let high : b / 16 < 16 = omega arith in
    let low : b % 16 < 16 = omega arith in
    rw (digit-solid (b / 16) high, digit-solid (b % 16) low, digits-solid rest (λ k. h (suc k))) refl

pub digest-plain : (digest : List ℕ) → length digest ≡ 32 → IsBytes digest → IsPlain (encode_lower digest)
unfolding encode_with
digest-plain [] size h = absurd (omega arith)
digest-plain (b ∷ rest) size h =
    let fits : b < 256 = h 0 in
    let high : b / 16 < 16 = omega arith in
    record {
      first = slice_index lower_digits (b / 16);
      others = slice_index lower_digits (b % 16) ∷ encode_lower rest;
      is = refl;
      solid = digits-solid (b ∷ rest) h;
      ascii = digit-ascii (b / 16) high;
    }

pub digest-again : (digest : List ℕ) → length digest ≡ 32 → IsBytes digest → digest_written (encode_lower digest) ≡ Some digest
unfolding digest_written
digest-again digest size h = rw (decode_sized-encode_lower digest 32 size h, same-self (encode_lower digest)) refl

-- ---- counts

pub count-again : (n : ℕ) → n < 2 ^ 64 → is_count (decimal n) ≡ true
count-again n small =
    let some = decimal_nonempty n small in
    let short = decimal-short n small in
    let digits = digits_decimal own n small in
    let not_empty : nat_eq (length (decimal n)) 0 ≡ false = grind (arith, nat_tests) in
    let few : nat_le (length (decimal n)) 20 ≡ true = grind (arith, nat_tests) in
    rw (not_empty, few, digits) refl
