-- What is read of a printed text.
use Rattle.std.proofs.Common.{◌≡◌, ℕ, ◌<◌, ◌≤◌, ◌^◌, pos, subst, nat_eq, Bool, true, false, List, [], ◌∷◌, ◌++◌, length, take, ℤ, refl, sym, ap, ◌∙◌, arith, rules, tests}
use Rattle.std.specs.Prelude.{Ok, ◌≤ℤ◌, nat_abs, Some, ◌&&◌, ◌||◌, ◌==◌, int_le, nat_le}
use Rattle.std.specs.List.{list_all, prefix_len}
use Rattle.std.proofs.Math.Seq.{take-append_seam, drop-append_seam}
use Rattle.std.proofs.lemmas.Bool.{and_parts, and_right, not-true}
use Rattle.std.proofs.lemmas.Bool.Decides.{nat_tests}
use Rattle.std.proofs.lemmas.Int.{ints}
use Rattle.tokens.specs.Text.{TextState, Place, Comment, text_start, is_blank, is_solid, opens_comment, place_after, is_passed, is_inside_after, skip, at_token, token, place_of, number_of, number_in, number_at, word_in, word_at, nothing_in, finish_at, ends_line, after_token}
use Rattle.tokens.specs.Decimal.{decimal_of}
use Rattle.tokens.specs.Printed.{IsBefore, ReadsNumber, ReadsWord}
use Rattle.tokens.proofs.Digits.{is_printed, number_of-decimal_of}

-- skipping leads to these bytes, at some place
record Skips (comment : Comment) (fresh : Bool) (place : Place) (bytes after : List ℕ) : Type 0 where
  to_fresh : Bool
  to_place : Place
  is : skip comment false fresh place bytes ≡ skip comment false to_fresh to_place after

-- a blank is passed over
skip_blank : (comment : Comment) (fresh : Bool) (place : Place) (b : ℕ) (bytes : List ℕ) → is_blank b ≡ true → skip comment false fresh place (b ∷ bytes) ≡ skip comment false (fresh || b == 10) (place_after b place) bytes
skip_blank comment fresh place b bytes blank =
    let passed : is_passed comment false fresh b ≡ true = rw blank refl in
    let outside : is_inside_after false b ≡ false = rw blank refl in
    let on : skip comment false fresh place (b ∷ bytes) ≡ skip comment (is_inside_after false b) (fresh || b == 10) (place_after b place) bytes = rw (passed, skip) refl in
    on ∙ ap (λ (inside : Bool). skip comment inside (fresh || b == 10) (place_after b place) bytes) outside

skips_blanks : (comment : Comment) (fresh : Bool) (place : Place) (blanks bytes : List ℕ) → list_all is_blank blanks ≡ true → Skips comment fresh place (blanks ++ bytes) bytes
skips_blanks comment fresh place [] bytes h = record { to_fresh = fresh; to_place = place; is = refl }
skips_blanks comment fresh place (b ∷ bs) bytes h =
    let parts : (is_blank b ≡ true) × (list_all is_blank bs ≡ true) = and_parts _ _ h in
    let rest = skips_blanks comment (fresh || b == 10) (place_after b place) bs bytes parts.1 in
    record { to_fresh = rest.to_fresh; to_place = rest.to_place; is = skip_blank comment fresh place b (bs ++ bytes) parts.0 ∙ rest.is }

-- a byte that is no blank and opens no comment is not
skip_stops : (comment : Comment) (fresh : Bool) (place : Place) (w : ℕ) (bytes : List ℕ) → is_solid w ≡ true → opens_comment comment w ≡ false → skip comment false fresh place (w ∷ bytes) ≡ record { rest = w ∷ bytes; place = place; fresh = fresh; comment = comment }
skip_stops comment fresh place w bytes solid plain =
    let no_blank : is_blank w ≡ false = not-true (is_blank w) solid in
    let stays : is_passed comment false fresh w ≡ false = rw (no_blank, plain) (and_right fresh false refl) in
    rw (stays, skip) refl

-- the state at a printed token that lies ahead
record IsAt (bytes : List ℕ) (s : TextState) : Type 0 where
  rest_is : (at_token s).rest ≡ bytes
  comment_is : (at_token s).comment ≡ s.comment

at_word : (w : ℕ) (bytes : List ℕ) (s : TextState) → is_solid w ≡ true → opens_comment s.comment w ≡ false → IsBefore (w ∷ bytes) s → IsAt (w ∷ bytes) s
unfolding at_token
at_word w bytes s solid plain before =
    let skips = skips_blanks s.comment s.fresh s.place before.blanks (w ∷ bytes) before.are_blank in
    let found : skip s.comment false s.fresh s.place s.rest ≡ record { rest = w ∷ bytes; place = skips.to_place; fresh = skips.to_fresh; comment = s.comment } =
    ap (skip s.comment false s.fresh s.place) before.rest_is ∙ skips.is ∙ skip_stops s.comment skips.to_fresh skips.to_place w bytes solid plain in
    record { rest_is = ap (λ (t : TextState). t.rest) found; comment_is = ap (λ (t : TextState). t.comment) found }

at_nothing : (s : TextState) → IsBefore [] s → IsAt [] s
unfolding at_token
at_nothing s before =
    let skips = skips_blanks s.comment s.fresh s.place before.blanks [] before.are_blank in
    let found : skip s.comment false s.fresh s.place s.rest ≡ record { rest = []; place = skips.to_place; fresh = skips.to_fresh; comment = s.comment } =
    ap (skip s.comment false s.fresh s.place) before.rest_is ∙ skips.is in
    record { rest_is = ap (λ (t : TextState). t.rest) found; comment_is = ap (λ (t : TextState). t.comment) found }

-- a token ends at the first blank
prefix_to_blank : (word : List ℕ) (b : ℕ) (more : List ℕ) → list_all is_solid word ≡ true → is_blank b ≡ true → prefix_len is_solid (word ++ b ∷ more) ≡ length word
prefix_to_blank [] b more solid blank = rw blank refl
prefix_to_blank (w ∷ ws) b more solid blank =
    let parts : (is_solid w ≡ true) × (list_all is_solid ws ≡ true) = and_parts _ _ solid in
    let rest = prefix_to_blank ws b more parts.1 blank in
    grind (arith, nat_tests)

-- the next token, and what stands after it
record IsWordNext (word following : List ℕ) (s : TextState) : Type 0 where
  token_is : token s ≡ word
  rest_is : (after_token s).rest ≡ following
  comment_is : (after_token s).comment ≡ s.comment

next_is : (w : ℕ) (ws : List ℕ) (b : ℕ) (more : List ℕ) (s : TextState) → list_all is_solid (w ∷ ws) ≡ true → opens_comment s.comment w ≡ false → is_blank b ≡ true → IsBefore ((w ∷ ws) ++ b ∷ more) s → IsWordNext (w ∷ ws) (b ∷ more) s
unfolding token after_token
next_is w ws b more s solid plain blank before =
    let at = at_word w (ws ++ b ∷ more) s (and_parts _ _ solid).0 plain before in
    let len : prefix_len is_solid (at_token s).rest ≡ length (w ∷ ws) = ap (prefix_len is_solid) at.rest_is ∙ prefix_to_blank (w ∷ ws) b more solid blank in
    let word : take (prefix_len is_solid (at_token s).rest) (at_token s).rest ≡ w ∷ ws = rw (len, at.rest_is) (take-append_seam (w ∷ ws) (b ∷ more)) in
    record {
      token_is = word;
      rest_is = rw (word, at.rest_is) (drop-append_seam (w ∷ ws) (b ∷ more));
      comment_is = at.comment_is;
    }

-- reading begins before the text
pub before_start : (comment : Comment) (bytes : List ℕ) → IsBefore bytes (text_start comment bytes)
before_start comment bytes = record { blanks = []; are_blank = refl; rest_is = refl }

-- after one blank
pub before_after : (b : ℕ) (bytes : List ℕ) (s : TextState) → is_blank b ≡ true → s.rest ≡ b ∷ bytes → IsBefore bytes s
before_after b bytes s blank e = record { blanks = b ∷ []; are_blank = rw blank refl; rest_is = e }

in_range : (least z greatest : ℤ) → least ≤ℤ z → z ≤ℤ greatest → (int_le least z && int_le z greatest) ≡ true
in_range least z greatest low high = search (rules, tests)

-- a token that writes a number of the range is read as this number
number_in_word : (least greatest z : ℤ) (place : Place) (w : ℕ) (ws : List ℕ) → w < 128 → number_of (w ∷ ws) ≡ Some z → least ≤ℤ z → z ≤ℤ greatest → number_in least greatest place (w ∷ ws) ≡ Ok z
number_in_word least greatest z place w ws ascii written low high =
    let no_high : nat_le 128 w ≡ false = grind (arith, nat_tests) in
    rw (no_high, written, in_range least z greatest low high) refl

-- a printed number that lies ahead is read, if it is in the range
pub reads_number : (z least greatest : ℤ) (b : ℕ) (more : List ℕ) (s : TextState) → nat_abs z < 2 ^ 64 → least ≤ℤ z → z ≤ℤ greatest → is_blank b ≡ true → IsBefore (decimal_of z ++ b ∷ more) s → ReadsNumber z least greatest (b ∷ more) s
unfolding number_at
reads_number z least greatest b more s small low high blank before =
    let p = is_printed z small in
    let ahead : IsBefore ((p.first ∷ p.others) ++ b ∷ more) s = subst (λ (w : List ℕ). IsBefore (w ++ b ∷ more) s) p.printed_is before in
    let next = next_is p.first p.others b more s p.solid (p.plain s.comment) blank ahead in
    let written : number_of (p.first ∷ p.others) ≡ Some z = ap number_of (sym p.printed_is) ∙ number_of-decimal_of z small in
    record {
      value = ap (number_in least greatest (place_of s)) next.token_is ∙ number_in_word least greatest z (place_of s) p.first p.others p.ascii written low high;
      rest_is = next.rest_is;
      comment_is = next.comment_is;
    }

-- a word that lies ahead is read: it has no blank, begins with an ASCII byte and opens no comment line
pub reads_word : (w : ℕ) (ws : List ℕ) (b : ℕ) (more : List ℕ) (s : TextState) → list_all is_solid (w ∷ ws) ≡ true → w < 128 → opens_comment s.comment w ≡ false → is_blank b ≡ true → IsBefore ((w ∷ ws) ++ b ∷ more) s → ReadsWord (w ∷ ws) (b ∷ more) s
unfolding word_at
reads_word w ws b more s solid ascii plain blank before =
    let next = next_is w ws b more s solid plain blank before in
    let no_high : nat_le 128 w ≡ false = grind (arith, nat_tests) in
    record {
      value = ap (word_in (place_of s)) next.token_is ∙ rw no_high refl;
      rest_is = next.rest_is;
      comment_is = next.comment_is;
    }

-- a natural number of the range
pub reads_natural : (n least greatest b : ℕ) (more : List ℕ) (s : TextState)
    → least ≤ n → n ≤ greatest → greatest < 2 ^ 64 → is_blank b ≡ true
    → IsBefore (decimal_of (pos n) ++ b ∷ more) s → ReadsNumber (pos n) (pos least) (pos greatest) (b ∷ more) s
reads_natural n least greatest b more s low high fits blank before =
    reads_number (pos n) (pos least) (pos greatest) b more s (omega arith) (omega (arith, ints)) (omega (arith, ints)) blank before

-- a printed number that lies ahead is read, and so is the blank after it
pub record PassesNumber (z : ℤ) (least greatest : ℤ) (more : List ℕ) (s : TextState) : Type 0 where
  pub value : number_at least greatest s ≡ Ok z
  pub before : IsBefore more (after_token s)
  pub comment_is : (after_token s).comment ≡ s.comment

pub passes_number : (z least greatest : ℤ) (b : ℕ) (more : List ℕ) (s : TextState)
    → nat_abs z < 2 ^ 64 → least ≤ℤ z → z ≤ℤ greatest → is_blank b ≡ true
    → IsBefore (decimal_of z ++ b ∷ more) s → PassesNumber z least greatest more s
passes_number z least greatest b more s fits low high blank before =
    let read = reads_number z least greatest b more s fits low high blank before in
    record { value = read.value; before = before_after b more (after_token s) blank read.rest_is; comment_is = read.comment_is }

pub passes_natural : (n least greatest b : ℕ) (more : List ℕ) (s : TextState)
    → least ≤ n → n ≤ greatest → greatest < 2 ^ 64 → is_blank b ≡ true
    → IsBefore (decimal_of (pos n) ++ b ∷ more) s → PassesNumber (pos n) (pos least) (pos greatest) more s
passes_natural n least greatest b more s low high fits blank before =
    passes_number (pos n) (pos least) (pos greatest) b more s (omega arith) (omega (arith, ints)) (omega (arith, ints)) blank before

-- no token is left after the last blanks
pub no_token_before : (s : TextState) → IsBefore [] s → token s ≡ []
unfolding token
no_token_before s before = rw (at_nothing s before).rest_is refl

pub finishes : (s : TextState) → IsBefore [] s → finish_at s ≡ Ok tt
unfolding finish_at
finishes s before = ap (nothing_in (place_of s)) (no_token_before s before)

-- LF ends a line
pub ends_line_LF : (more : List ℕ) (s : TextState) → s.rest ≡ 10 ∷ more → ends_line s ≡ true
unfolding ends_line
ends_line_LF more s e = rw e refl

-- a space before a printed number does not
pub ends_line_number : (z : ℤ) (more : List ℕ) (s : TextState) → nat_abs z < 2 ^ 64 → s.rest ≡ 32 ∷ (decimal_of z ++ more) → ends_line s ≡ false
unfolding ends_line
ends_line_number z more s small e =
    let p = is_printed z small in
    let no_blank : is_blank p.first ≡ false = not-true (is_blank p.first) (and_parts _ _ p.solid).0 in
    let no_end : nat_eq p.first 10 ≡ false = grind (arith, nat_tests) in
    rw (e, p.printed_is, no_blank, no_end) refl
