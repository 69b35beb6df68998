-- What is read of the printed lines before the instance, and on which line it stands.
use Rattle.std.proofs.Common.{◌≡◌, ℕ, ◌+◌, ◌-◌, ◌<◌, ◌≤◌, ◌^◌, pos, negsuc, neg_ℤ, Bool, true, false, List, [], ◌∷◌, ◌++◌, length, ℤ, refl, sym, ap, ◌∙◌, subst, arith, rules, nat_eq, lit<}
use Rattle.std.specs.Prelude.{codes, decimal, Option, Some, None, Ok, ◌||◌, ◌&&◌, ◌==◌, nat_abs, nat_le, nat_lt, ◌≤ℤ◌, int_lt}
use Rattle.std.specs.Str.{all_ascii_digits}
use Rattle.std.specs.List.{list_all}
use Rattle.std.proofs.lemmas.Bool.{and_parts, and_right, ltb-true, not-true}
use Rattle.std.proofs.lemmas.Bool.Decides.{nat_tests}
use Rattle.std.proofs.lemmas.Int.{ints}
use Rattle.std.proofs.lemmas.Fmt.{digits_decimal, decimal_nonempty, length-decimal-le}
use Rattle.std.proofs.lemmas.Str.Parse.{IsNumeralModel, numerals_by_fold}
use Rattle.tokens.specs.Text.{TextState, text_start, is_blank, is_solid, place_after, is_passed, is_inside_after, skip, at_token, place_of, after_token, ends_line, value_after}
use Rattle.tokens.specs.declared.comment.Comment.TheVariants.{Never}
use Rattle.tokens.specs.declared.place.Place.{Place}
use Rattle.tokens.specs.Counts.{is_count}
use Rattle.tokens.specs.Decimal.{decimal_of, after_spaces}
use Rattle.tokens.proofs.Digits.{is_printed}
use Rattle.tokens.proofs.Printing.{before_start, ends_line_LF, ends_line_number}
use Rattle.tokens.proofs.Repeats.{fold_pushes}
use Rattle.dp_model.specs.Lists.{Each}
use Rattle.problem_names.specs.ModelNames as names
use Rattle.problem_names.specs.Parts.{IsPart, MayBePart}
use Rattle.problem_names.specs.declared.ModelName.{ModelName}
use Rattle.problem_names.specs.declared.part.PartNumber.{PartNumber}
use Rattle.cover_text.specs.Grammar.{until}
use Rattle.cover_text.specs.Heads.{ClaimView, decision_at, distance_at, solution_at, claim_at, count_at, counts_at, name_at, part_number_at, part_at, size_at, head_at}
use Rattle.cover_text.specs.Outputs.{CountsView, MayBeCounts}
use Rattle.dp_model.specs.Distances.{IsDistance}
use Rattle.cover_text.specs.Written.{IsWord}
use Rattle.cover_text.proofs.EachName.{for_each}
use Rattle.cover_text.proofs.PrintedTokens.{IsAt, IsAhead, Gives, BeginsBlank, after_blank, PassesWord, passes_word, passes_fixed, passes_number, passes_small, until_reads, until_ended}

-- ---- lines

-- reading stands right before these bytes, on this line
pub record IsOn (line : ℕ) (bytes : List ℕ) (s : TextState) : Type 0 where
  pub at : IsAt bytes s
  pub line_is : s.place.line ≡ line

-- the next token begins these bytes, and stands on this line
pub record IsAheadOn (line : ℕ) (bytes : List ℕ) (s : TextState) : Type 0 where
  pub ahead : IsAhead bytes s
  pub line_is : (place_of s).line ≡ line

skip-blank : (fresh : Bool) (place : Place) (b : ℕ) (bytes : List ℕ) → is_blank b ≡ true → skip Never false fresh place (b ∷ bytes) ≡ skip Never false (fresh || b == 10) (place_after b place) bytes
skip-blank fresh place b bytes blank =
    let passed : is_passed Never false fresh b ≡ true = rw blank refl in
    let outside : is_inside_after false b ≡ false = rw blank refl in
    let on : skip Never false fresh place (b ∷ bytes) ≡ skip Never (is_inside_after false b) (fresh || b == 10) (place_after b place) bytes = rw (passed, skip) refl in
    on ∙ ap (λ (inside : Bool). skip Never inside (fresh || b == 10) (place_after b place) bytes) outside

skip-stops : (fresh : Bool) (place : Place) (w : ℕ) (bytes : List ℕ) → is_solid w ≡ true → skip Never false fresh place (w ∷ bytes) ≡ record { rest = w ∷ bytes; place = place; fresh = fresh; comment = Never }
skip-stops fresh place w bytes solid =
    let no_blank : is_blank w ≡ false = not-true (is_blank w) solid in
    let stays : is_passed Never false fresh w ≡ false = rw no_blank (and_right fresh false refl) in
    rw (stays, skip) refl

-- after one blank a token begins
one-blank : (line b w : ℕ) (bytes : List ℕ) (s : TextState) → is_blank b ≡ true → is_solid w ≡ true → IsOn line (b ∷ w ∷ bytes) s → (place_of s).line ≡ (place_after b s.place).line
unfolding place_of at_token
one-blank line b w bytes s blank solid on =
    ap (λ c. (skip c false s.fresh s.place s.rest).place.line) on.at.comment_is
    ∙ (ap (λ rest. (skip Never false s.fresh s.place rest).place.line) on.at.rest_is
    ∙ (ap (λ (t : TextState). t.place.line) (skip-blank s.fresh s.place b (w ∷ bytes) blank)
    ∙ ap (λ (t : TextState). t.place.line) (skip-stops (s.fresh || b == 10) (place_after b s.place) w bytes solid)))

-- a space stays on its line
pub same-line : (line w : ℕ) (bytes : List ℕ) (s : TextState) → is_solid w ≡ true → IsOn line (32 ∷ w ∷ bytes) s → IsAheadOn line (w ∷ bytes) s
same-line line w bytes s solid on = record { ahead = after_blank 32 (w ∷ bytes) s refl on.at; line_is = one-blank line 32 w bytes s refl solid on ∙ on.line_is }

-- LF leads to the next one
pub next-line : (line w : ℕ) (bytes : List ℕ) (s : TextState) → is_solid w ≡ true → IsOn line (10 ∷ w ∷ bytes) s → IsAheadOn (line + 1) (w ∷ bytes) s
next-line line w bytes s solid on = record { ahead = after_blank 10 (w ∷ bytes) s refl on.at; line_is = one-blank line 10 w bytes s refl solid on ∙ ap (λ l. l + 1) on.line_is }

-- the same before a number
number-ahead : (line : ℕ) (z : ℤ) (more : List ℕ) (s : TextState) → nat_abs z < 2 ^ 64 → IsOn line (32 ∷ (decimal_of z ++ more)) s → IsAheadOn line (decimal_of z ++ more) s
number-ahead line z more s small on =
    let p = is_printed z small in
    let here : IsOn line (32 ∷ p.first ∷ (p.others ++ more)) s = subst (λ w. IsOn line (32 ∷ (w ++ more)) s) p.printed_is on in
    subst (λ w. IsAheadOn line (w ++ more) s) (sym p.printed_is) (same-line line p.first (p.others ++ more) s (and_parts _ _ p.solid).0 here)

-- no token ends its line
after-line : (s : TextState) → (after_token s).place.line ≡ (place_of s).line
unfolding after_token place_of
after-line s = refl

-- a word is read on its line
pub record PassesOn (line : ℕ) (word more : List ℕ) (s : TextState) : Type 0 where
  pub word_is : PassesWord word more s
  pub on : IsOn line more (after_token s)

word-on : (line w : ℕ) (ws more : List ℕ) (s : TextState) → list_all is_solid (w ∷ ws) ≡ true → w < 128 → BeginsBlank more → IsAheadOn line ((w ∷ ws) ++ more) s → PassesOn line (w ∷ ws) more s
word-on line w ws more s solid ascii blank here =
    let word = passes_word w ws more s solid ascii blank here.ahead in
    record { word_is = word; on = record { at = word.at; line_is = after-line s ∙ here.line_is } }

LF-first : (more : List ℕ) → BeginsBlank (10 ∷ more)
LF-first more = record { blank = 10; more = more; is = refl; is_blank = refl }

space-first : (more : List ℕ) → BeginsBlank (32 ∷ more)
space-first more = record { blank = 32; more = more; is = refl; is_blank = refl }

-- ---- the report

spaced-blank : (ds more : List ℕ) → BeginsBlank (after_spaces ds ++ (10 ∷ more))
spaced-blank [] more = LF-first more
spaced-blank (d ∷ ds) more = space-first ((decimal_of (pos d) ++ after_spaces ds) ++ (10 ∷ more))

decision-on : (line d : ℕ) (more made : List ℕ) (s : TextState) → d < 2 ^ 32 → BeginsBlank more → IsOn line ((32 ∷ decimal_of (pos d)) ++ more) s → (ends_line s ≡ false) × Gives (IsOn line more) (decision_at made s) (made ++ d ∷ [])
unfolding decision_at
decision-on line d more made s few blank on =
    let here = number-ahead line (pos d) more s (omega arith) on in
    let number = passes_small d more s few blank here.ahead in (
      ends_line_number (pos d) more s (omega arith) on.at.rest_is,
      record { state = after_token s; is = rw number.value refl; there = record { at = number.at; line_is = after-line s ∙ here.line_is } },
    )

decisions-on : (line most : ℕ) (ds more : List ℕ) (s : TextState) → length ds ≤ most → Each (λ d. d < 2 ^ 32) ds → IsOn line (after_spaces ds ++ (10 ∷ more)) s → Gives (IsOn line (10 ∷ more)) (until ends_line decision_at most [] s) ds
decisions-on line most ds more s few held on =
    let tail = 10 ∷ more in
    let read = until_reads ends_line decision_at (λ d. 32 ∷ decimal_of (pos d)) (λ made d. made ++ d ∷ []) (λ d. d < 2 ^ 32) (IsOn line) tail (most - length ds)
    (λ d rest made t fits here. decision-on line d (after_spaces rest ++ tail) made t fits (spaced-blank rest more) here)
    (λ made t here. until_ended ends_line decision_at (most - length ds) made t (ends_line_LF more t here.at.rest_is))
    most ds [] s (omega arith) held on in
    record { state = read.state; is = read.is ∙ ap (λ made. Ok (made, read.state)) (fold_pushes ds []); there = read.there }

pub word-small : (z : ℤ) → IsWord z → nat_abs z < 2 ^ 64
word-small (pos n) fits = let high = fits.high in omega (arith, ints)
word-small (negsuc n) fits = let low = fits.low in omega (arith, ints)

pub distance-small : (z : ℤ) → IsDistance z → nat_abs z < 2 ^ 64
distance-small (pos n) fits = let most = fits.most in omega (arith, ints)
distance-small (negsuc n) fits = let least = fits.least in absurd (omega (arith, ints))

-- what stands after the first word of the first line: the distance, where it is told
abbrev pub distance_text : Bool → ℤ → List ℕ
distance_text true within = 32 ∷ (codes "within" ++ (32 ∷ decimal_of within))
distance_text false within = []

distance-blank : (told : Bool) (within : ℤ) (more : List ℕ) → BeginsBlank (distance_text told within ++ (10 ∷ more))
distance-blank true within more = space-first ((codes "within" ++ (32 ∷ decimal_of within)) ++ (10 ∷ more))
distance-blank false within more = LF-first more

untold-none : (within : ℤ) → pos 0 ≤ℤ within → int_lt (pos 0) within ≡ false → within ≡ pos 0
untold-none within least untold = grind (arith, ints)

-- it is told exactly where it is above 0
distance-on : (told : Bool) (within : ℤ) (more : List ℕ) (s : TextState) → int_lt (pos 0) within ≡ told → IsDistance within → IsOn 1 (distance_text told within ++ (10 ∷ (codes "value" ++ (32 ∷ more)))) s
    → Gives (IsOn 2 (32 ∷ more)) (distance_at s) within
unfolding distance_at
distance-on true within more s above near on =
    let second = codes "value" ++ (32 ∷ more) in
    let number = decimal_of within ++ (10 ∷ second) in
    let one = word-on 1 119 (codes "ithin") (32 ∷ number) s refl (lit< tt) (space-first number) (same-line 1 119 (codes "ithin" ++ (32 ∷ number)) s refl on) in
    let t = after_token s in
    let ahead = number-ahead 1 within (10 ∷ second) t (distance-small within near) one.on in
    let two = passes_number within (pos 0) (pos (2 ^ 50)) (10 ∷ second) t (distance-small within near) near.least near.most (LF-first second) ahead.ahead in
    let u = after_token t in
    let three = word-on 2 118 (codes "alue") (32 ∷ more) u refl (lit< tt) (space-first more) (next-line 1 118 (codes "alue" ++ (32 ∷ more)) u refl (record { at = two.at; line_is = after-line t ∙ ahead.line_is })) in
    record { state = after_token u; is = rw (one.word_is.value, two.value, passes_fixed 118 (codes "alue") (32 ∷ more) u three.word_is) refl; there = three.on }
distance-on false within more s untold near on =
    let word = word-on 2 118 (codes "alue") (32 ∷ more) s refl (lit< tt) (space-first more) (next-line 1 118 (codes "alue" ++ (32 ∷ more)) s refl on) in
    record { state = after_token s; is = rw word.word_is.value (ap (λ (z : ℤ). Ok (z, after_token s)) (sym (untold-none within near.least untold))); there = word.on }

-- the distance, the value and the assignment
solution-on : (most : ℕ) (value within : ℤ) (ds more : List ℕ) (s : TextState) → IsWord value → IsDistance within → Each (λ d. d < 2 ^ 32) ds → length ds ≤ most
    → IsOn 1 (distance_text (int_lt (pos 0) within) within ++ (10 ∷ (codes "value" ++ (32 ∷ (decimal_of value ++ (10 ∷ (codes "assignment" ++ (after_spaces ds ++ (10 ∷ more))))))))) s
    → Gives (IsOn 3 (10 ∷ more)) (solution_at most s) (record { best = Some value; within = within; assignment = ds })
unfolding solution_at
solution-on most value within ds more s fits near held few on =
    let after = after_spaces ds ++ (10 ∷ more) in
    let second = 10 ∷ (codes "assignment" ++ after) in
    let one = distance-on (int_lt (pos 0) within) within (decimal_of value ++ second) s refl near on in
    let t = one.state in
    let ahead = number-ahead 2 value second t (word-small value fits) one.there in
    let two = passes_number value (neg_ℤ (pos (2 ^ 63))) (pos (2 ^ 63 - 1)) second t (word-small value fits) fits.low fits.high (LF-first (codes "assignment" ++ after)) ahead.ahead in
    let u = after_token t in
    let three = word-on 3 97 (codes "ssignment") after u refl (lit< tt) (spaced-blank ds more) (next-line 2 97 (codes "ssignment" ++ after) u refl (record { at = two.at; line_is = after-line t ∙ ahead.line_is })) in
    let read = decisions-on 3 most ds more (after_token u) few held three.on in
    record { state = read.state; is = rw (one.is, two.value, passes_fixed 97 (codes "ssignment") after u three.word_is, read.is) refl; there = read.there }

-- how many lines there are
abbrev pub claim_height : Option ℤ → ℕ
claim_height None = 1
claim_height (Some value) = 3

-- the report and what stands after it, each after the one before
abbrev pub claim_then : Option ℤ → ℤ → List ℕ → List ℕ → List ℕ
claim_then None within ds more = codes "infeasible" ++ (10 ∷ more)
claim_then (Some value) within ds more =
    codes "proved" ++ (distance_text (int_lt (pos 0) within) within ++ (10 ∷ (codes "value" ++ (32 ∷ (decimal_of value ++ (10 ∷ (codes "assignment" ++ (after_spaces ds ++ (10 ∷ more)))))))))

-- a claim that can be read, of at most this many decisions
abbrev pub MayBeClaim : ℕ → Option ℤ → ℤ → List ℕ → Type 0
MayBeClaim most None within ds = (within ≡ pos 0) × (ds ≡ [])
MayBeClaim most (Some value) within ds = IsWord value × (IsDistance within × (Each (λ d. d < 2 ^ 32) ds × (length ds ≤ most)))

claim-on : (most : ℕ) (best : Option ℤ) (within : ℤ) (ds more : List ℕ) (s : TextState) → MayBeClaim most best within ds → IsAheadOn 1 (claim_then best within ds more) s
    → Gives (IsOn (claim_height best) (10 ∷ more)) (claim_at most s) (record { best = best; within = within; assignment = ds })
unfolding claim_at
claim-on most None within ds more s fits ahead =
    let word = word-on 1 105 (codes "nfeasible") (10 ∷ more) s refl (lit< tt) (LF-first more) ahead in
    record { state = after_token s; is = rw (word.word_is.value, fits.0, fits.1) refl; there = word.on }
claim-on most (Some value) within ds more s fits ahead =
    let lines = codes "value" ++ (32 ∷ (decimal_of value ++ (10 ∷ (codes "assignment" ++ (after_spaces ds ++ (10 ∷ more)))))) in
    let told = int_lt (pos 0) within in
    let word = word-on 1 112 (codes "roved") (distance_text told within ++ (10 ∷ lines)) s refl (lit< tt) (distance-blank told within lines) ahead in
    let read = solution-on most value within ds more (after_token s) fits.0 fits.1.0 fits.1.1.0 fits.1.1.1 word.on in
    record { state = read.state; is = rw (word.word_is.value, read.is) refl; there = read.there }

-- ---- the counts

own : IsNumeralModel (λ ds. all_ascii_digits ds ≡ true) (value_after 0)
own = numerals_by_fold _ (search rules) value_after (search rules)

counts-small : (n : ℕ) → n < 2 ^ 64 → is_count (decimal n) ≡ true
counts-small n small =
    let some = decimal_nonempty n small in
    let short : length (decimal n) ≤ 20 = length-decimal-le 20 n (lit< tt) (omega arith) small in
    let digits = digits_decimal own n small in
    let not_empty : nat_eq (length (decimal n)) 0 ≡ false = grind (arith, nat_tests) in
    let few : nat_le (length (decimal n)) 20 ≡ true = grind (arith, nat_tests) in
    rw (not_empty, few, digits) refl

count-on : (line n : ℕ) (more : List ℕ) (s : TextState) → n < 2 ^ 64 → IsOn line (32 ∷ (decimal n ++ (10 ∷ more))) s → (count_at s ≡ Ok (after_token s)) × IsOn line (10 ∷ more) (after_token s)
unfolding count_at
count-on line n more s small on =
    let here = number-ahead line (pos n) (10 ∷ more) s small on in
    let p = is_printed (pos n) small in
    let ahead = subst (λ w. IsAheadOn line (w ++ (10 ∷ more)) s) p.printed_is here in
    let word = word-on line p.first p.others (10 ∷ more) s p.solid p.ascii (LF-first more) ahead in
    let is : is_count (p.first ∷ p.others) ≡ true = ap is_count (sym p.printed_is) ∙ counts-small n small in
    (rw (word.word_is.value, is) refl, word.on)

abbrev pub counts_height : Option CountsView → ℕ
counts_height None = 0
counts_height (Some counts) = 2

-- the counts where they are told, and what stands after them
abbrev pub counts_then : Option CountsView → List ℕ → List ℕ
counts_then None more = more
counts_then (Some counts) more = codes "taken" ++ (32 ∷ (decimal counts.taken ++ (10 ∷ (codes "finished" ++ (32 ∷ (decimal counts.finished ++ (10 ∷ more)))))))

cover-word : (line : ℕ) (more : List ℕ) (s : TextState) → IsOn line (10 ∷ (codes "cover" ++ (32 ∷ more))) s → PassesOn (line + 1) (codes "cover") (32 ∷ more) s
cover-word line more s on = word-on (line + 1) 99 (codes "over") (32 ∷ more) s refl (lit< tt) (space-first more) (next-line line 99 (codes "over" ++ (32 ∷ more)) s refl on)

-- the counts and the word after them are passed over
record PassesCounts (line : ℕ) (more : List ℕ) (s : TextState) : Type 0 where
  state : TextState
  is : counts_at s ≡ Ok state
  there : IsOn line (32 ∷ more) state

counts-on : (line : ℕ) (counts : Option CountsView) (more : List ℕ) (s : TextState) → MayBeCounts counts → IsOn line (10 ∷ counts_then counts (codes "cover" ++ (32 ∷ more))) s → PassesCounts (line + (counts_height counts + 1)) more s
unfolding counts_at
counts-on line None more s fits on =
    let word = cover-word line more s on in
    record { state = after_token s; is = rw word.word_is.value refl; there = word.on }
counts-on line (Some counts) more s fits on =
    let cover = codes "cover" ++ (32 ∷ more) in
    let following = 32 ∷ (decimal counts.finished ++ (10 ∷ cover)) in
    let second = codes "finished" ++ following in
    let first = 32 ∷ (decimal counts.taken ++ (10 ∷ second)) in
    let one = word-on (line + 1) 116 (codes "aken") first s refl (lit< tt) (space-first (decimal counts.taken ++ (10 ∷ second))) (next-line line 116 (codes "aken" ++ first) s refl on) in
    let taken = count-on (line + 1) counts.taken second (after_token s) fits.taken one.on in
    let t = after_token (after_token s) in
    let two = word-on (line + 1 + 1) 102 (codes "inished") following t refl (lit< tt) (space-first (decimal counts.finished ++ (10 ∷ cover))) (next-line (line + 1) 102 (codes "inished" ++ following) t refl taken.1) in
    let finished = count-on (line + 1 + 1) counts.finished cover (after_token t) fits.finished two.on in
    let u = after_token (after_token t) in
    let last = cover-word (line + 1 + 1) more u finished.1 in
    let height : line + 1 + 1 + 1 ≡ line + (2 + 1) = omega arith in
    record {
      state = after_token u;
      is = rw (one.word_is.value, taken.0, passes_fixed 102 (codes "inished") following t two.word_is, finished.0, passes_fixed 99 (codes "over") (32 ∷ more) u last.word_is) refl;
      there = subst (λ l. IsOn l (32 ∷ more) (after_token u)) height last.on;
    }

-- ---- the cover's lines

-- a word that begins with a byte of ASCII, and has no blank
abbrev stands-alone : List ℕ → Bool
stands-alone [] = false
stands-alone (w ∷ ws) = list_all is_solid (w ∷ ws) && nat_lt w 128

name-in : (line : ℕ) (word : List ℕ) (model : ModelName) (more : List ℕ) (s : TextState) → stands-alone word ≡ true → names.model_named word ≡ Some model → BeginsBlank more
    → IsOn line (32 ∷ (word ++ more)) s → Gives (IsOn line more) (name_at s) model
unfolding name_at
name-in line [] model more s alone named blank on = absurd (cc)
name-in line (w ∷ ws) model more s alone named blank on =
    let parts = and_parts _ _ alone in
    let first = (and_parts _ _ parts.0).0 in
    let word = word-on line w ws more s parts.0 (ltb-true w 128 parts.1) blank (same-line line w (ws ++ more) s first on) in
    record { state = after_token s; is = rw (word.word_is.value, named) refl; there = word.on }

name-on : (line : ℕ) (model : ModelName) (more : List ℕ) (s : TextState) → BeginsBlank more → IsOn line (32 ∷ (names.text_of model ++ more)) s → Gives (IsOn line more) (name_at s) model
name-on line model more s blank on = name-in line (names.text_of model) model more s (for_each (λ name. stands-alone (names.text_of name)) refl model) (names.name_again model) blank on

size-on : (line size : ℕ) (more : List ℕ) (s : TextState) → size < 2 ^ 32 → IsOn line (32 ∷ (decimal size ++ (10 ∷ more))) s → size_at s ≡ Ok (record { bytes = size; line = line }, after_token s)
unfolding size_at
size-on line size more s few on =
    let here = number-ahead line (pos size) (10 ∷ more) s (omega arith) on in
    let number = passes_small size (10 ∷ more) s few (LF-first more) here.ahead in
    rw (number.value, ends_line_LF more (after_token s) number.at.rest_is) (ap (λ l. Ok (record { bytes = size; line = l }, after_token s)) here.line_is)

-- the line of a part where one is meant, and what stands after it
abbrev pub part_told : Option PartNumber → List ℕ → List ℕ
part_told None more = more
part_told (Some part) more = codes "part" ++ (32 ∷ (decimal part.index ++ (32 ∷ (decimal part.of ++ (10 ∷ more)))))

abbrev pub part_height : Option PartNumber → ℕ
part_height None = 0
part_height (Some part) = 1

part-number-on : (line : ℕ) (part : PartNumber) (more : List ℕ) (s : TextState) → IsPart part → IsOn line (32 ∷ (decimal part.index ++ (32 ∷ (decimal part.of ++ (10 ∷ more))))) s → Gives (IsOn line (10 ∷ more)) (part_number_at s) part
unfolding part_number_at
part-number-on line part more s fits on =
    let below = fits.index in
    let few : part.of ≤ 1024 = fits.few in
    let last = decimal part.of ++ (10 ∷ more) in
    let first = number-ahead line (pos part.index) (32 ∷ last) s (omega arith) on in
    let one = passes_number (pos part.index) (pos 0) (pos 1023) (32 ∷ last) s (omega arith) (omega (arith, ints)) (omega (arith, ints)) (space-first last) first.ahead in
    let t = after_token s in
    let second = number-ahead line (pos part.of) (10 ∷ more) t (omega arith) (record { at = one.at; line_is = after-line s ∙ first.line_is }) in
    let two = passes_number (pos part.of) (pos (part.index + 1)) (pos 1024) (10 ∷ more) t (omega arith) (omega (arith, ints)) (omega (arith, ints)) (LF-first more) second.ahead in
    record { state = after_token t; is = rw (one.value, two.value) refl; there = record { at = two.at; line_is = after-line t ∙ second.line_is } }

instance-word : (line : ℕ) (more : List ℕ) (s : TextState) → IsOn line (10 ∷ (codes "instance" ++ (32 ∷ more))) s → PassesOn (line + 1) (codes "instance") (32 ∷ more) s
instance-word line more s on = word-on (line + 1) 105 (codes "nstance") (32 ∷ more) s refl (lit< tt) (space-first more) (next-line line 105 (codes "nstance" ++ (32 ∷ more)) s refl on)

-- the part is read, and the word after it is passed over
part-on : (line : ℕ) (part : Option PartNumber) (more : List ℕ) (s : TextState) → MayBePart part → IsOn line (10 ∷ part_told part (codes "instance" ++ (32 ∷ more))) s → Gives (IsOn (line + (part_height part + 1)) (32 ∷ more)) (part_at s) part
unfolding part_at
part-on line None more s fits on =
    let word = instance-word line more s on in
    record { state = after_token s; is = rw word.word_is.value refl; there = word.on }
part-on line (Some part) more s fits on =
    let next = codes "instance" ++ (32 ∷ more) in
    let numbers = decimal part.index ++ (32 ∷ (decimal part.of ++ (10 ∷ next))) in
    let one = word-on (line + 1) 112 (codes "art") (32 ∷ numbers) s refl (lit< tt) (space-first numbers) (next-line line 112 (codes "art" ++ (32 ∷ numbers)) s refl on) in
    let read = part-number-on (line + 1) part next (after_token s) fits one.on in
    let last = instance-word (line + 1) more read.state read.there in
    let height : line + 1 + 1 ≡ line + (1 + 1) = omega arith in
    record {
      state = after_token read.state;
      is = rw (one.word_is.value, read.is, passes_fixed 105 (codes "nstance") (32 ∷ more) read.state last.word_is) refl;
      there = subst (λ l. IsOn l (32 ∷ more) (after_token read.state)) height last.on;
    }

-- all lines before the instance, and what stands after them
abbrev pub head_then : ClaimView → Option CountsView → ModelName → Option PartNumber → ℕ → List ℕ → List ℕ
head_then claim counts model part size more =
    claim_then claim.best claim.within claim.assignment (counts_then counts (codes "cover" ++ (32 ∷ (names.text_of model ++ (10 ∷ part_told part (codes "instance" ++ (32 ∷ (decimal size ++ (10 ∷ more)))))))))

abbrev pub head_height : ClaimView → Option CountsView → Option PartNumber → ℕ
head_height claim counts part = claim_height claim.best + (counts_height counts + 1) + (part_height part + 1)

-- a token begins the bytes
record BeginsSolid (bytes : List ℕ) : Type 0 where
  first : ℕ
  others : List ℕ
  is : bytes ≡ first ∷ others
  solid : is_solid first ≡ true

begins-first : (best : Option ℤ) (within : ℤ) (ds more : List ℕ) → BeginsSolid (claim_then best within ds more)
begins-first None within ds more = record { first = 105; others = codes "nfeasible" ++ (10 ∷ more); is = refl; solid = refl }
begins-first (Some value) within ds more =
    record { first = 112; others = codes "roved" ++ (distance_text (int_lt (pos 0) within) within ++ (10 ∷ (codes "value" ++ (32 ∷ (decimal_of value ++ (10 ∷ (codes "assignment" ++ (after_spaces ds ++ (10 ∷ more))))))))); is = refl; solid = refl }

first-line : (w : ℕ) (bytes : List ℕ) → is_solid w ≡ true → (place_of (text_start Never (w ∷ bytes))).line ≡ 1
unfolding place_of at_token
first-line w bytes solid = ap (λ (t : TextState). t.place.line) (skip-stops true (record { line = 1; column = 1 }) w bytes solid)

starts-on : (best : Option ℤ) (within : ℤ) (ds more : List ℕ) → IsAheadOn 1 (claim_then best within ds more) (text_start Never (claim_then best within ds more))
starts-on best within ds more =
    let begins = begins-first best within ds more in
    let bytes = claim_then best within ds more in
    record {
      ahead = record { before = before_start Never bytes; comment_is = refl };
      line_is = ap (λ (b : List ℕ). (place_of (text_start Never b)).line) begins.is ∙ first-line begins.first begins.others begins.solid;
    }

part-blank : (part : Option PartNumber) (more : List ℕ) → BeginsBlank (10 ∷ part_told part more)
part-blank part more = record { blank = 10; more = part_told part more; is = refl; is_blank = refl }

-- the head is read, with the line of the instance's size
pub head-read : (claim : ClaimView) (counts : Option CountsView) (model : ModelName) (part : Option PartNumber) (size : ℕ) (more bytes : List ℕ) → bytes ≡ head_then claim counts model part size more → MayBeClaim (length bytes) claim.best claim.within claim.assignment → MayBeCounts counts → MayBePart part → size < 2 ^ 32
    → head_at bytes ≡ Ok (record { claim = claim; model = model; part = part; size = record { bytes = size; line = head_height claim counts part } })
unfolding head_at
head-read claim counts model part size more bytes is fits told meant few =
    let following = decimal size ++ (10 ∷ more) in
    let third = codes "instance" ++ (32 ∷ following) in
    let second = names.text_of model ++ (10 ∷ part_told part third) in
    let first = counts_then counts (codes "cover" ++ (32 ∷ second)) in
    let s = text_start Never bytes in
    let here = subst (λ (b : List ℕ). IsAheadOn 1 (claim_then claim.best claim.within claim.assignment first) (text_start Never b)) (sym is) (starts-on claim.best claim.within claim.assignment first) in
    let one = claim-on (length bytes) claim.best claim.within claim.assignment first s fits here in
    let two = counts-on (claim_height claim.best) counts second one.state told one.there in
    let line = claim_height claim.best + (counts_height counts + 1) in
    let three = name-on line model (10 ∷ part_told part third) two.state (part-blank part third) two.there in
    let four = part-on line part following three.state meant three.there in
    rw (one.is, two.is, three.is, four.is, size-on (line + (part_height part + 1)) size more four.state few four.there) refl
