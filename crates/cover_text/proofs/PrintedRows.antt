-- What is read of the line of a printed row.
use Rattle.std.proofs.Common.{◌≡◌, ℕ, ◌-◌, ◌<◌, ◌≤◌, ◌^◌, pos, negsuc, neg_ℤ, true, false, List, [], ◌∷◌, ◌++◌, length, ℤ, refl, ap, ◌∙◌, subst, arith, append_assoc, inl, inr, lit<}
use Rattle.std.specs.Prelude.{codes, Option, Some, None, Ok, ◌≤ℤ◌, nat_abs, ◌⊎◌, flat_map}
use Rattle.std.proofs.lemmas.Int.{ints}
use Rattle.tokens.specs.Text.{TextState, number_of, ends_line, after_token}
use Rattle.tokens.specs.Decimal.{decimal_of}
use Rattle.tokens.specs.Printed.{IsBefore}
use Rattle.tokens.proofs.Printing.{ends_line_LF, ends_line_number}
use Rattle.tokens.proofs.Repeats.{fold_pushes}
use Rattle.dp_model.specs.Lists.{Each}
use Rattle.bound_cover.specs.Clamping.{IsWritable}
use Rattle.bound_cover.specs.Covers.{CoverRow}
use Rattle.bound_cover.specs.Stored.{with_row}
use Rattle.bound_cover.specs.declared.cover.CoverArc.{CoverArc}
use Rattle.cover_text.specs.Grammar.{until}
use Rattle.cover_text.specs.Printed.{printed_bound, printed_number, printed_target, printed_arc, printed_arcs, printed_row}
use Rattle.cover_text.specs.RowLines.{bound_at, semicolon_at, ends_words, state_word_at, target_at, arc_at, arcs_at, row_into}
use Rattle.cover_text.specs.Written.{IsWord, IsTarget, IsArc, AreArcs, IsWrittenRow}
use Rattle.cover_text.proofs.PrintedTokens.{IsAt, IsAhead, Gives, BeginsBlank, after_blank, passes_word, stands-is, passes_fixed, passes_number, passes_small, until_reads, until_ended}

abs-below : (z : ℤ) (most : ℕ) → neg_ℤ (pos most) ≤ℤ z → z ≤ℤ pos most → nat_abs z ≤ most
abs-below (pos n) most low high = omega (arith, ints)
abs-below (negsuc n) most low high = omega (arith, ints)

-- ---- words that are no numbers

none-word : number_of (codes "none") ≡ None
unfolding number_of
none-word = refl

semicolon-word : number_of (codes ";") ≡ None
unfolding number_of
semicolon-word = refl

rough-word : number_of (codes "r") ≡ None
unfolding number_of
rough-word = refl

-- ---- the blanks in front

number-blank : (z : ℤ) (more : List ℕ) → BeginsBlank (printed_number z ++ more)
number-blank z more = record { blank = 32; more = decimal_of z ++ more; is = refl; is_blank = refl }

words-blank : (zs : List ℤ) (more : List ℕ) → BeginsBlank more → BeginsBlank (flat_map printed_number zs ++ more)
words-blank [] more blank = blank
words-blank (z ∷ zs) more blank = record { blank = 32; more = (decimal_of z ++ flat_map printed_number zs) ++ more; is = refl; is_blank = refl }

target-blank : (t : Option ℕ) (more : List ℕ) → BeginsBlank (printed_target t ++ more)
target-blank None more = record { blank = 32; more = 114 ∷ more; is = refl; is_blank = refl }
target-blank (Some row) more = number-blank (pos row) more

arcs-blank : (arcs : List CoverArc) (more : List ℕ) → BeginsBlank more → BeginsBlank (flat_map printed_arc arcs ++ more)
arcs-blank [] more blank = blank
arcs-blank (arc ∷ arcs) more blank = record { blank = 32; more = ((decimal_of (pos arc.decision) ++ printed_target arc.target) ++ flat_map printed_arc arcs) ++ more; is = refl; is_blank = refl }

LF-blank : (more : List ℕ) → BeginsBlank (10 ∷ more)
LF-blank more = record { blank = 10; more = more; is = refl; is_blank = refl }

part-blank : (arcs : Option (List CoverArc)) (more : List ℕ) → BeginsBlank (printed_arcs arcs ++ (10 ∷ more))
part-blank None more = LF-blank more
part-blank (Some arcs) more = record { blank = 32; more = 59 ∷ (flat_map printed_arc arcs ++ (10 ∷ more)); is = refl; is_blank = refl }

-- ---- where a line or its words end

line-ends : (more : List ℕ) (s : TextState) → IsAt (10 ∷ more) s → ends_line s ≡ true
line-ends more s at = ends_line_LF more s at.rest_is

number-goes-on : (z : ℤ) (more : List ℕ) (s : TextState) → nat_abs z < 2 ^ 64 → IsAt (printed_number z ++ more) s → ends_line s ≡ false
number-goes-on z more s small at = ends_line_number z more s small at.rest_is

-- a semicolon or an r after a space does not end the line
mark-goes-on : (b : ℕ) (more : List ℕ) (s : TextState) → (b ≡ 59) ⊎ (b ≡ 114) → IsAt (32 ∷ b ∷ more) s → ends_line s ≡ false
unfolding ends_line
mark-goes-on b more s (inl is) at = rw (at.rest_is, is) refl
mark-goes-on b more s (inr is) at = rw (at.rest_is, is) refl

-- ---- the bound

bound-there : (bound : Option ℤ) (more : List ℕ) (s : TextState) → IsWritable bound → BeginsBlank more → IsAhead (printed_bound bound ++ more) s → Gives (IsAt more) (bound_at s) bound
unfolding bound_at
bound-there None more s fits blank ahead =
    let word = passes_word 110 (codes "one") more s refl (lit< tt) blank ahead in
    record { state = after_token s; is = rw (stands-is (codes "none") s word.token_is, word.value) refl; there = word.at }
bound-there (Some z) more s fits blank ahead =
    let size = abs-below z (2 ^ 62) fits.low fits.high in
    let number = passes_number z (neg_ℤ (pos (2 ^ 62))) (pos (2 ^ 62)) more s (omega arith) fits.low fits.high blank ahead in
    record { state = after_token s; is = rw (number.other (codes "none") none-word, number.value) refl; there = number.at }

semicolon-there : (more : List ℕ) (s : TextState) → BeginsBlank more → IsAt (32 ∷ 59 ∷ more) s → (semicolon_at s ≡ Ok (after_token s)) × IsAt more (after_token s)
unfolding semicolon_at
semicolon-there more s blank at =
    let word = passes_word 59 [] more s refl (lit< tt) blank (after_blank 32 (59 ∷ more) s refl at) in
    (rw (mark-goes-on 59 more s (inl refl) at, passes_fixed 59 [] more s word) refl, word.at)

-- ---- the words

word-there : (z : ℤ) (more : List ℕ) (made : List ℤ) (s : TextState) → IsWord z → BeginsBlank more → IsAt (printed_number z ++ more) s → (ends_words s ≡ false) × Gives (IsAt more) (state_word_at made s) (made ++ z ∷ [])
unfolding state_word_at
word-there z more made s fits blank at =
    let size : nat_abs z ≤ 2 ^ 63 = abs-below z (2 ^ 63) fits.low (let high = fits.high in omega (arith, ints)) in
    let number = passes_number z (neg_ℤ (pos (2 ^ 63))) (pos (2 ^ 63 - 1)) more s (omega arith) fits.low fits.high blank (after_blank 32 (decimal_of z ++ more) s refl at) in
    (rw (number-goes-on z more s (omega arith) at, number.other (codes ";") semicolon-word) refl, record { state = after_token s; is = rw number.value refl; there = number.at })

words-end : (arcs : Option (List CoverArc)) (more : List ℕ) (s : TextState) → IsAt (printed_arcs arcs ++ (10 ∷ more)) s → ends_words s ≡ true
words-end None more s at = rw (line-ends more s at) refl
words-end (Some arcs) more s at =
    let following = flat_map printed_arc arcs ++ (10 ∷ more) in
    let word = passes_word 59 [] following s refl (lit< tt) (arcs-blank arcs (10 ∷ more) (LF-blank more)) (after_blank 32 (59 ∷ following) s refl at) in
    rw (mark-goes-on 59 following s (inl refl) at, stands-is (codes ";") s word.token_is) refl

words-there : (most : ℕ) (zs : List ℤ) (arcs : Option (List CoverArc)) (more : List ℕ) (s : TextState) → length zs ≤ most → Each IsWord zs → IsAt (flat_map printed_number zs ++ (printed_arcs arcs ++ (10 ∷ more))) s
    → Gives (IsAt (printed_arcs arcs ++ (10 ∷ more))) (until ends_words state_word_at most [] s) zs
words-there most zs arcs more s few held at =
    let tail = printed_arcs arcs ++ (10 ∷ more) in
    let read = until_reads ends_words state_word_at printed_number (λ ws z. ws ++ z ∷ []) IsWord IsAt tail (most - length zs)
    (λ z rest made t fits here. word-there z (flat_map printed_number rest ++ tail) made t fits (words-blank rest tail (part-blank arcs more)) here)
    (λ made t here. until_ended ends_words state_word_at (most - length zs) made t (words-end arcs more t here))
    most zs [] s (omega arith) held at in
    record { state = read.state; is = read.is ∙ ap (λ ws. Ok (ws, read.state)) (fold_pushes zs []); there = read.there }

-- ---- the arcs

target-there : (t : Option ℕ) (more : List ℕ) (s : TextState) → IsTarget t → BeginsBlank more → IsAt (printed_target t ++ more) s → Gives (IsAt more) (target_at s) t
unfolding target_at
target-there None more s fits blank at =
    let word = passes_word 114 [] more s refl (lit< tt) blank (after_blank 32 (114 ∷ more) s refl at) in
    record { state = after_token s; is = rw (mark-goes-on 114 more s (inr refl) at, stands-is (codes "r") s word.token_is, word.value) refl; there = word.at }
target-there (Some row) more s fits blank at =
    let number = passes_small row more s fits blank (after_blank 32 (decimal_of (pos row) ++ more) s refl at) in
    record { state = after_token s; is = rw (number-goes-on (pos row) more s (omega arith) at, number.other (codes "r") rough-word, number.value) refl; there = number.at }

arc-there : (arc : CoverArc) (more : List ℕ) (made : List CoverArc) (s : TextState) → IsArc arc → BeginsBlank more → IsAt (printed_arc arc ++ more) s → (ends_line s ≡ false) × Gives (IsAt more) (arc_at made s) (made ++ arc ∷ [])
unfolding arc_at
arc-there arc more made s fits blank at =
    let following = printed_target arc.target ++ more in
    let few = fits.decision in
    let here : IsAt (printed_number (pos arc.decision) ++ following) s = subst (λ bytes. IsAt bytes s) (append_assoc (printed_number (pos arc.decision)) (printed_target arc.target) more) at in
    let number = passes_small arc.decision following s few (target-blank arc.target more) (after_blank 32 (decimal_of (pos arc.decision) ++ following) s refl here) in
    let target = target-there arc.target more (after_token s) fits.target blank number.at in
    (number-goes-on (pos arc.decision) following s (omega arith) here, record { state = target.state; is = rw (number.value, target.is) refl; there = target.there })

-- the arcs of a row that has them are few
abbrev pub AreFew : ℕ → Option (List CoverArc) → Type 0
AreFew most None = Unit {0}
AreFew most (Some arcs) = length arcs ≤ most

arcs-there : (most : ℕ) (arcs : Option (List CoverArc)) (more : List ℕ) (s : TextState) → AreFew most arcs → AreArcs arcs → IsAt (printed_arcs arcs ++ (10 ∷ more)) s → Gives (IsAt (10 ∷ more)) (arcs_at most s) arcs
unfolding arcs_at
arcs-there most None more s few held at = record { state = s; is = rw (line-ends more s at) refl; there = at }
arcs-there most (Some arcs) more s few held at =
    let tail = 10 ∷ more in
    let following = flat_map printed_arc arcs ++ tail in
    let word = passes_word 59 [] following s refl (lit< tt) (arcs-blank arcs tail (LF-blank more)) (after_blank 32 (59 ∷ following) s refl at) in
    let read = until_reads ends_line arc_at printed_arc (λ made arc. made ++ arc ∷ []) IsArc IsAt tail (most - length arcs)
    (λ arc rest made t fits here. arc-there arc (flat_map printed_arc rest ++ tail) made t fits (arcs-blank rest tail (LF-blank more)) here)
    (λ made t here. until_ended ends_line arc_at (most - length arcs) made t (line-ends more t here))
    most arcs [] (after_token s) (omega arith) held word.at in
    record {
      state = read.state;
      is = rw (mark-goes-on 59 following s (inl refl) at, passes_fixed 59 [] following s word, read.is) (ap (λ made. Ok (Some made, read.state)) (fold_pushes arcs []));
      there = read.there;
    }

-- ---- the row

-- a row has at most this many words and arcs
pub record IsFew (most : ℕ) (row : CoverRow) : Type 0 where
  pub words : length row.words ≤ most
  pub arcs : AreFew most row.arcs

row-parts : (row : CoverRow) (more : List ℕ) → printed_row row ++ more ≡ printed_bound row.bound ++ (32 ∷ 59 ∷ (flat_map printed_number row.words ++ (printed_arcs row.arcs ++ (10 ∷ more))))
row-parts row more = simp append_assoc

pub row-there : (most : ℕ) (row : CoverRow) (more : List ℕ) (made : List (List CoverRow)) (s : TextState) → IsWrittenRow row → IsFew most row → IsAhead (printed_row row ++ more) s → Gives (IsAt (10 ∷ more)) (row_into most made s) (with_row made row)
unfolding row_into
row-there most row more made s fits few ahead =
    let arcs_on = printed_arcs row.arcs ++ (10 ∷ more) in
    let words_on = flat_map printed_number row.words ++ arcs_on in
    let here : IsAhead (printed_bound row.bound ++ (32 ∷ 59 ∷ words_on)) s = record { before = subst (λ bytes. IsBefore bytes s) (row-parts row more) ahead.before; comment_is = ahead.comment_is } in
    let bound = bound-there row.bound (32 ∷ 59 ∷ words_on) s fits.bound (record { blank = 32; more = 59 ∷ words_on; is = refl; is_blank = refl }) here in
    let semicolon = semicolon-there words_on bound.state (words-blank row.words arcs_on (part-blank row.arcs more)) bound.there in
    let words = words-there most row.words row.arcs more (after_token bound.state) few.words fits.words semicolon.1 in
    let arcs = arcs-there most row.arcs more words.state few.arcs fits.arcs words.there in
    record { state = arcs.state; is = rw (bound.is, semicolon.0, words.is, arcs.is) refl; there = arcs.there }
