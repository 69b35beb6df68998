-- Printed reports are read as what was printed.
use Rattle.std.proofs.Common.{◌≡◌, ℕ, zero, suc, ◌+◌, ◌-◌, ◌<◌, ◌≤◌, ◌^◌, pos, negsuc, neg_ℤ, Bool, true, false, List, [], ◌∷◌, ◌++◌, length, map, ℤ, refl, sym, ap, ◌∙◌, subst, arith, append_assoc, append-nil, length-append, lit<}
use Rattle.std.specs.Prelude.{codes, cond, decimal, flat_map, Option, Some, None, option_map, Result, Ok, nat_abs, ◌≤ℤ◌, int_lt, ◌||◌, ◌==◌, take_while}
use Rattle.std.specs.List.{list_all}
use Rattle.std.proofs.lemmas.Bool.{and_parts}
use Rattle.std.proofs.lemmas.Bool.Decides.{nat_tests}
use Rattle.std.proofs.lemmas.Int.{ints}
use Rattle.hex.specs.Hex.{encode_lower}
use Rattle.tokens.specs.Text.{TextState, is_blank, is_solid, place_after, is_passed, is_inside_after, skip, at_token, token, after_token, ends_line, is_at_end, number_of, text_start}
use Rattle.tokens.specs.declared.comment.Comment.TheVariants.{Never}
use Rattle.tokens.specs.declared.comment.Comment.{Comment}
use Rattle.tokens.specs.declared.place.Place.{Place}
use Rattle.tokens.specs.Decimal.{decimal_of}
use Rattle.tokens.proofs.Digits.{is_printed}
use Rattle.tokens.proofs.Printing.{before_start, ends_line_LF, ends_line_number, finishes, no_token_before}
use Rattle.dp_model.specs.Distances.{IsDistance}
use Rattle.dp_model.specs.Lists.{Each}
use Rattle.journal_bytes.specs.Bodies.{IncumbentView}
use Rattle.problem_names.specs.ModelNames.{word_same}
use Rattle.problem_names.specs.declared.part.PartNumber.{PartNumber}
use Rattle.solver_report.specs.Report.{assignment_line, count_lines, incumbent_lines, line, number_line, part_lines, settled_line, settled_lines, solution_lines, spaced}
use Rattle.solver_report.specs.declared.answer.Counts.{Counts}
use Rattle.solver_report.specs.declared.answer.SearchedPart.{SearchedPart}
use Rattle.cover_text.specs.Written.{IsWord}
use Rattle.cover_text.proofs.PrintedTokens.{IsAhead, IsAt, BeginsBlank, PassesWord, after_blank, passes_number, passes_word, stands-is}
use Rattle.part_text.specs.Grammar.{InstanceError, until, stands}
use Rattle.part_text.specs.Printed.{best_solution, printed_report, searched_part}
use Rattle.part_text.specs.Reports.{SettledView, best_at, count_at, counts_at, decision_at, digest_at, distance_at, head_at, next_at, part_at, report_at, reports_of, solution_at, told}
use Rattle.part_text.specs.Told.{AreToldCounts, IsTold, IsToldBest, ToldReport, printed_told}
use Rattle.part_text.specs.Written.{digest_written}
use Rattle.part_text.specs.declared.head.Head.{Head}
use Rattle.part_text.proofs.PrintedTokens.{IsPlain, count-again, digest-again, digest-plain, part-again, part-plain, passes_fixed, passes_small}

-- a part is read as this, and reading stands there
record Gives {A : Type 0} (There : TextState → Type 0) (read : Result (A × TextState) InstanceError) (made : A) : Type 0 where
  state : TextState
  is : read ≡ Ok (made, state)
  there : There state

LF-first : (more : List ℕ) → BeginsBlank (10 ∷ more)
LF-first more = record { blank = 10; more = more; is = refl; is_blank = refl }

space-first : (more : List ℕ) → BeginsBlank (32 ∷ more)
space-first more = record { blank = 32; more = more; is = refl; is_blank = refl }

-- ---- the best solution

until-over : {A : Type 0} (ends : TextState → Bool) (step : A → TextState → Result (A × TextState) InstanceError) (n : ℕ) (made : A) (s : TextState) → ends s ≡ true → until ends step n made s ≡ Ok (made, s)
unfolding until
until-over ends step zero made s over = refl
until-over ends step (suc n) made s over = rw over refl

until-step : {A : Type 0} (ends : TextState → Bool) (step : A → TextState → Result (A × TextState) InstanceError) (n : ℕ) (made next : A) (s t : TextState) → ends s ≡ false → step made s ≡ Ok (next, t)
    → until ends step (suc n) made s ≡ until ends step n next t
unfolding until
until-step ends step n made next s t goes_on read = rw (goes_on, read) refl

spaced-blank : (ds more : List ℕ) → BeginsBlank (spaced ds ++ (10 ∷ more))
spaced-blank [] more = LF-first more
spaced-blank (d ∷ ds) more = space-first ((decimal_of (pos d) ++ spaced ds) ++ (10 ∷ more))

decision-read : (d : ℕ) (more made : List ℕ) (s : TextState) → d < 2 ^ 32 → BeginsBlank more → IsAt (32 ∷ (decimal_of (pos d) ++ more)) s → Gives (IsAt more) (decision_at made s) (made ++ d ∷ [])
unfolding decision_at
decision-read d more made s few blank at =
    let number = passes_small d more s few blank (after_blank 32 (decimal_of (pos d) ++ more) s refl at) in
    record { state = after_token s; is = rw number.value refl; there = number.at }

decisions-read : (n extra : ℕ) (ds more made : List ℕ) (s : TextState) → n ≡ length ds + extra → Each (λ d. d < 2 ^ 32) ds → IsAt (spaced ds ++ (10 ∷ more)) s
    → Gives (IsAt (10 ∷ more)) (until ends_line decision_at n made s) (made ++ ds)
decisions-read n extra [] more made s count held at =
    record { state = s; is = until-over ends_line decision_at n made s (ends_line_LF more s at.rest_is) ∙ ap (λ (l : List ℕ). Ok (l, s)) (sym (append-nil made)); there = at }
decisions-read n extra (d ∷ ds) more made s count held at =
    let few = held.0 in
    let tail = spaced ds ++ (10 ∷ more) in
    let here : IsAt (32 ∷ (decimal_of (pos d) ++ tail)) s = subst (λ (l : List ℕ). IsAt (32 ∷ l) s) (append_assoc (decimal_of (pos d)) (spaced ds) (10 ∷ more)) at in
    let one = decision-read d tail made s few (spaced-blank ds more) here in
    let rest = decisions-read (length ds + extra) extra ds more (made ++ d ∷ []) one.state refl held.1 one.there in
    let more_of : n ≡ suc (length ds + extra) = omega arith in
    record {
      state = rest.state;
      is = ap (λ m. until ends_line decision_at m made s) more_of
          ∙ (until-step ends_line decision_at (length ds + extra) made (made ++ d ∷ []) s one.state (ends_line_number (pos d) tail s (omega arith) here.rest_is) one.is
          ∙ (rest.is ∙ ap (λ (l : List ℕ). Ok (l, rest.state)) (append_assoc made (d ∷ []) ds)));
      there = rest.there;
    }

word-small : (z : ℤ) → IsWord z → nat_abs z < 2 ^ 64
word-small (pos n) fits = let high = fits.high in omega (arith, ints)
word-small (negsuc n) fits = let low = fits.low in omega (arith, ints)

none-word : number_of (codes "none") ≡ None
unfolding number_of
none-word = refl

-- the best solution and what stands after it
abbrev best_then : Option IncumbentView → List ℕ → List ℕ
best_then None more = codes "value" ++ (32 ∷ (codes "none" ++ (10 ∷ more)))
best_then (Some b) more = codes "value" ++ (32 ∷ (decimal_of b.value ++ (10 ∷ (codes "assignment" ++ (spaced b.decisions ++ (10 ∷ more))))))

-- at most this many decisions
abbrev HasFew : ℕ → Option IncumbentView → Type 0
HasFew most None = Unit {0}
HasFew most (Some b) = length b.decisions ≤ most

solution-read : (most : ℕ) (b : IncumbentView) (more : List ℕ) (s : TextState) → IsWord b.value → Each (λ d. d < 2 ^ 32) b.decisions → length b.decisions ≤ most
    → IsAt (32 ∷ (decimal_of b.value ++ (10 ∷ (codes "assignment" ++ (spaced b.decisions ++ (10 ∷ more)))))) s
    → Gives (IsAt (10 ∷ more)) (solution_at most s) b × (stands (codes "none") s ≡ false)
unfolding solution_at
solution-read most b more s fits held few at =
    let after = spaced b.decisions ++ (10 ∷ more) in
    let second = codes "assignment" ++ after in
    let number = passes_number b.value (neg_ℤ (pos (2 ^ 63))) (pos (2 ^ 63 - 1)) (10 ∷ second) s (word-small b.value fits) fits.low fits.high (LF-first second) (after_blank 32 (decimal_of b.value ++ (10 ∷ second)) s refl at) in
    let t = after_token s in
    let word = passes_word 97 (codes "ssignment") after t refl (lit< tt) (spaced-blank b.decisions more) (after_blank 10 second t refl number.at) in
    let read = decisions-read most (most - length b.decisions) b.decisions more [] (after_token t) (omega arith) held word.at in (
      record { state = read.state; is = rw (number.value, passes_fixed 97 (codes "ssignment") after t word, read.is) refl; there = read.there },
      number.other (codes "none") none-word,
    )

best-read : (most : ℕ) (best : Option IncumbentView) (more : List ℕ) (s : TextState) → IsToldBest best → HasFew most best → IsAhead (best_then best more) s → Gives (IsAt (10 ∷ more)) (best_at most s) best
unfolding best_at
best-read most None more s told few ahead =
    let second = codes "none" ++ (10 ∷ more) in
    let one = passes_word 118 (codes "alue") (32 ∷ second) s refl (lit< tt) (space-first second) ahead in
    let t = after_token s in
    let two = passes_word 110 (codes "one") (10 ∷ more) t refl (lit< tt) (LF-first more) (after_blank 32 second t refl one.at) in
    record { state = after_token t; is = rw (passes_fixed 118 (codes "alue") (32 ∷ second) s one, stands-is (codes "none") t two.token_is) refl; there = two.at }
best-read most (Some b) more s told few ahead =
    let second = decimal_of b.value ++ (10 ∷ (codes "assignment" ++ (spaced b.decisions ++ (10 ∷ more)))) in
    let one = passes_word 118 (codes "alue") (32 ∷ second) s refl (lit< tt) (space-first second) ahead in
    let read = solution-read most b more (after_token s) told.0 told.1 few one.at in
    record { state = read.0.state; is = rw (passes_fixed 118 (codes "alue") (32 ∷ second) s one, read.1, read.0.is) refl; there = read.0.there }

-- ---- the lines before it

-- what stands after the first word: the distance, where it is told
abbrev distance_text : Bool → ℤ → List ℕ
distance_text true within = 32 ∷ (codes "within" ++ (32 ∷ decimal_of within))
distance_text false within = []

distance-blank : (told : Bool) (within : ℤ) (more : List ℕ) → BeginsBlank (distance_text told within ++ (10 ∷ more))
distance-blank true within more = space-first ((codes "within" ++ (32 ∷ decimal_of within)) ++ (10 ∷ more))
distance-blank false within more = LF-first more

untold-none : (within : ℤ) → pos 0 ≤ℤ within → int_lt (pos 0) within ≡ false → within ≡ pos 0
untold-none within least untold = grind (arith, ints)

told-some : (within : ℤ) → int_lt (pos 0) within ≡ true → pos 1 ≤ℤ within
told-some within above = grind (arith, ints)

distance-small : (z : ℤ) → IsDistance z → nat_abs z < 2 ^ 64
distance-small (pos n) fits = let most = fits.most in omega (arith, ints)
distance-small (negsuc n) fits = let least = fits.least in absurd (omega (arith, ints))

distance-read : (told : Bool) (within : ℤ) (more : List ℕ) (s : TextState) → int_lt (pos 0) within ≡ told → IsDistance within → IsAt (distance_text told within ++ (10 ∷ (codes "part" ++ (32 ∷ more)))) s
    → Gives (IsAt (32 ∷ more)) (distance_at s) within
unfolding distance_at
distance-read true within more s above near at =
    let second = codes "part" ++ (32 ∷ more) in
    let number = decimal_of within ++ (10 ∷ second) in
    let one = passes_word 119 (codes "ithin") (32 ∷ number) s refl (lit< tt) (space-first number) (after_blank 32 (codes "within" ++ (32 ∷ number)) s refl at) in
    let t = after_token s in
    let two = passes_number within (pos 1) (pos (2 ^ 50)) (10 ∷ second) t (distance-small within near) (told-some within above) near.most (LF-first second) (after_blank 32 number t refl one.at) in
    let u = after_token t in
    let three = passes_word 112 (codes "art") (32 ∷ more) u refl (lit< tt) (space-first more) (after_blank 10 second u refl two.at) in
    record { state = after_token u; is = rw (one.value, two.value, passes_fixed 112 (codes "art") (32 ∷ more) u three) refl; there = three.at }
distance-read false within more s untold near at =
    let word = passes_word 112 (codes "art") (32 ∷ more) s refl (lit< tt) (space-first more) (after_blank 10 (codes "part" ++ (32 ∷ more)) s refl at) in
    record { state = after_token s; is = rw word.value (ap (λ (z : ℤ). Ok (z, after_token s)) (sym (untold-none within near.least untold))); there = word.at }

-- a word with no blank is read
plain-word : (word more : List ℕ) (s : TextState) → IsPlain word → BeginsBlank more → IsAhead (word ++ more) s → PassesWord word more s
plain-word word more s plain blank ahead =
    subst (λ (w : List ℕ). PassesWord w more s) (sym plain.is)
    (passes_word plain.first plain.others more s plain.solid plain.ascii blank (subst (λ (w : List ℕ). IsAhead (w ++ more) s) plain.is ahead))

part-read : (part : PartNumber) (more : List ℕ) (s : TextState) → part.index < 2 ^ 32 → part.of < 2 ^ 32 → IsAt (32 ∷ ((decimal part.index ++ 47 ∷ decimal part.of) ++ (10 ∷ more))) s
    → Gives (IsAt (10 ∷ more)) (part_at s) part
unfolding part_at
part-read part more s low high at =
    let written = decimal part.index ++ 47 ∷ decimal part.of in
    let word = plain-word written (10 ∷ more) s (part-plain part.index part.of low high) (LF-first more) (after_blank 32 (written ++ (10 ∷ more)) s refl at) in
    record { state = after_token s; is = rw (word.value, part-again part low high) refl; there = word.at }

-- the lines before the value, and what stands after them
abbrev head_then : Head → List ℕ → List ℕ
head_then head more =
    codes "settled" ++ (distance_text (int_lt (pos 0) head.within) head.within ++ (10 ∷ (codes "part" ++ (32 ∷ ((decimal head.part.index ++ 47 ∷ decimal head.part.of)
    ++ (10 ∷ (codes "journal" ++ (32 ∷ (encode_lower head.digest ++ (10 ∷ more))))))))))

-- a head that a report may have
record IsHead (head : Head) : Type 0 where
  index : head.part.index < 2 ^ 32
  of : head.part.of < 2 ^ 32
  plain : IsPlain (encode_lower head.digest)
  again : digest_written (encode_lower head.digest) ≡ Some head.digest
  near : IsDistance head.within

digest-read : (head : Head) (more : List ℕ) (s : TextState) → IsHead head → IsAt (32 ∷ (encode_lower head.digest ++ (10 ∷ more))) s → Gives (IsAt (10 ∷ more)) (digest_at s) head.digest
unfolding digest_at
digest-read head more s is at =
    let word = plain-word (encode_lower head.digest) (10 ∷ more) s is.plain (LF-first more) (after_blank 32 (encode_lower head.digest ++ (10 ∷ more)) s refl at) in
    record { state = after_token s; is = rw (word.value, is.again) refl; there = word.at }

head-read : (head : Head) (more : List ℕ) (s : TextState) → IsHead head → IsAhead (head_then head more) s → Gives (IsAt (10 ∷ more)) (head_at s) head
unfolding head_at
head-read head more s is ahead =
    let digits = encode_lower head.digest ++ (10 ∷ more) in
    let third = codes "journal" ++ (32 ∷ digits) in
    let second = (decimal head.part.index ++ 47 ∷ decimal head.part.of) ++ (10 ∷ third) in
    let told = int_lt (pos 0) head.within in
    let first = distance_text told head.within ++ (10 ∷ (codes "part" ++ (32 ∷ second))) in
    let one = passes_word 115 (codes "ettled") first s refl (lit< tt) (distance-blank told head.within (codes "part" ++ (32 ∷ second))) ahead in
    let two = distance-read told head.within second (after_token s) refl is.near one.at in
    let three = part-read head.part third two.state is.index is.of two.there in
    let t = three.state in
    let four = passes_word 106 (codes "ournal") (32 ∷ digits) t refl (lit< tt) (space-first digits) (after_blank 10 third t refl three.there) in
    let five = digest-read head more (after_token t) is four.at in
    record { state = five.state; is = rw (passes_fixed 115 (codes "ettled") first s one, two.is, three.is, passes_fixed 106 (codes "ournal") (32 ∷ digits) t four, five.is) refl; there = five.there }

-- ---- the counts

-- the counts where they are told, and what stands after them
abbrev counts_then : Option Counts → List ℕ → List ℕ
counts_then None more = more
counts_then (Some counts) more = codes "taken" ++ (32 ∷ (decimal counts.taken ++ (10 ∷ (codes "finished" ++ (32 ∷ (decimal counts.finished ++ (10 ∷ more)))))))

-- no counts begin these bytes
abbrev BeginsNoCounts : List ℕ → Type 0
BeginsNoCounts bytes = (s : TextState) → IsAhead bytes s → stands (codes "taken") s ≡ false

-- what is passed over, and reading stands before these bytes
record Passes (more : List ℕ) (read : Result TextState InstanceError) : Type 0 where
  state : TextState
  is : read ≡ Ok state
  there : IsAhead more state

number-plain : (n : ℕ) → n < 2 ^ 64 → IsPlain (decimal n)
number-plain n small = let p = is_printed (pos n) small in record { first = p.first; others = p.others; is = p.printed_is; solid = p.solid; ascii = p.ascii }

count-read : (n : ℕ) (more : List ℕ) (s : TextState) → n < 2 ^ 64 → IsAt (32 ∷ (decimal n ++ (10 ∷ more))) s → (count_at s ≡ Ok (after_token s)) × IsAt (10 ∷ more) (after_token s)
unfolding count_at
count-read n more s small at =
    let word = plain-word (decimal n) (10 ∷ more) s (number-plain n small) (LF-first more) (after_blank 32 (decimal n ++ (10 ∷ more)) s refl at) in
    (rw (word.value, count-again n small) refl, word.at)

counts-read : (counts : Option Counts) (more : List ℕ) (s : TextState) → AreToldCounts counts → BeginsNoCounts more → IsAt (10 ∷ counts_then counts more) s → Passes more (counts_at s)
unfolding counts_at
counts-read None more s told none at = let ahead = after_blank 10 more s refl at in record { state = s; is = rw (none s ahead) refl; there = ahead }
counts-read (Some counts) more s told none at =
    let following = 32 ∷ (decimal counts.finished ++ (10 ∷ more)) in
    let second = codes "finished" ++ following in
    let first = 32 ∷ (decimal counts.taken ++ (10 ∷ second)) in
    let one = passes_word 116 (codes "aken") first s refl (lit< tt) (space-first (decimal counts.taken ++ (10 ∷ second))) (after_blank 10 (codes "taken" ++ first) s refl at) in
    let taken = count-read counts.taken second (after_token s) told.0 one.at in
    let t = after_token (after_token s) in
    let two = passes_word 102 (codes "inished") following t refl (lit< tt) (space-first (decimal counts.finished ++ (10 ∷ more))) (after_blank 10 second t refl taken.1) in
    let finished = count-read counts.finished more (after_token t) told.1 two.at in
    record {
      state = after_token (after_token t);
      is = rw (stands-is (codes "taken") s one.token_is, taken.0, passes_fixed 102 (codes "inished") following t two) finished.0;
      there = after_blank 10 more (after_token (after_token t)) refl finished.1;
    }

-- ---- a report

abbrev head_of : SettledView → Head
head_of v = record { within = v.within; part = record { index = v.report.index; of = v.report.of }; digest = v.report.digest }

abbrev report_then : ToldReport → List ℕ → List ℕ
report_then r more = head_then (head_of r.settled) (best_then r.settled.report.best (counts_then r.counts more))

head-is : (r : ToldReport) → IsTold r → IsHead (head_of r.settled)
head-is r is = record {
  index = is.index;
  of = is.of;
  plain = digest-plain r.settled.report.digest is.size is.bytes;
  again = digest-again r.settled.report.digest is.size is.bytes;
  near = is.within;
}

report-read : (most : ℕ) (r : ToldReport) (more : List ℕ) (s : TextState) → IsTold r → HasFew most r.settled.report.best → BeginsNoCounts more → IsAhead (report_then r more) s
    → Gives (IsAhead more) (report_at most s) r.settled
unfolding report_at
report-read most r more s is few none ahead =
    let best = r.settled.report.best in
    let third = counts_then r.counts more in
    let second = best_then best third in
    let one = head-read (head_of r.settled) second s (head-is r is) ahead in
    let two = best-read most best third one.state is.best few (after_blank 10 second one.state refl one.there) in
    let three = counts-read r.counts more two.state is.counts none two.there in
    record { state = three.state; is = rw (one.is, two.is, three.is) refl; there = three.there }

-- ---- the printed text, piece by piece

line-then : (text rest : List ℕ) → line text ++ rest ≡ text ++ (10 ∷ rest)
line-then text rest = append_assoc text (10 ∷ []) rest

settled-then : (within : ℤ) (rest : List ℕ) → settled_line within ++ rest ≡ codes "settled" ++ (distance_text (int_lt (pos 0) within) within ++ (10 ∷ rest))
settled-then within rest =
    elim (int_lt (pos 0) within) as (λ told. cond told (number_line (codes "settled within") within) (line (codes "settled")) ++ rest ≡ codes "settled" ++ (distance_text told within ++ (10 ∷ rest))) [
      | true ↦ line-then (codes "settled within" ++ 32 ∷ decimal_of within) rest
      | false ↦ line-then (codes "settled") rest
    ]

part-then : (p : SearchedPart) (rest : List ℕ) → part_lines p ++ rest
    ≡ codes "part" ++ (32 ∷ ((decimal p.index ++ 47 ∷ decimal p.of) ++ (10 ∷ (codes "journal" ++ (32 ∷ (encode_lower p.digest ++ (10 ∷ rest)))))))
part-then p rest =
    let first = codes "part " ++ (decimal p.index ++ 47 ∷ decimal p.of) in
    let second = codes "journal " ++ encode_lower p.digest in
    append_assoc (line first) (line second) rest ∙ (line-then first (line second ++ rest) ∙ ap (λ (l : List ℕ). first ++ (10 ∷ l)) (line-then second rest))

solution-then : (best : Option IncumbentView) (rest : List ℕ) → incumbent_lines (option_map best_solution best) ++ rest ≡ best_then best rest
solution-then None rest = line-then (codes "value none") rest
solution-then (Some b) rest =
    let first = codes "value" ++ 32 ∷ decimal_of b.value in
    let second = codes "assignment" ++ spaced b.decisions in
    append_assoc (line first) (line second) rest ∙ (line-then first (line second ++ rest) ∙ ap (λ (l : List ℕ). first ++ (10 ∷ l)) (line-then second rest))

counts-then : (counts : Option Counts) (rest : List ℕ) → count_lines counts ++ rest ≡ counts_then counts rest
counts-then None rest = refl
counts-then (Some counts) rest =
    let first = codes "taken" ++ 32 ∷ decimal counts.taken in
    let second = codes "finished" ++ 32 ∷ decimal counts.finished in
    append_assoc (line first) (line second) rest ∙ (line-then first (line second ++ rest) ∙ ap (λ (l : List ℕ). first ++ (10 ∷ l)) (line-then second rest))

report-parts : (r : ToldReport) (rest : List ℕ) → printed_told r ++ rest ≡ report_then r rest
report-parts r rest =
    let v = r.settled.report in
    let p = searched_part v in
    let within = r.settled.within in
    let best = incumbent_lines (option_map best_solution v.best) in
    let counts = count_lines r.counts in
    let last = counts ++ rest in
    append_assoc (printed_report v within) counts rest
    ∙ (append_assoc (settled_line within) (part_lines p ++ best) last
    ∙ (ap (λ (l : List ℕ). settled_line within ++ l) (append_assoc (part_lines p) best last ∙ ap (λ (l : List ℕ). part_lines p ++ l) (solution-then v.best last ∙ ap (best_then v.best) (counts-then r.counts rest)))
    ∙ (settled-then within (part_lines p ++ best_then v.best (counts_then r.counts rest))
    ∙ ap (λ (l : List ℕ). codes "settled" ++ (distance_text (int_lt (pos 0) within) within ++ (10 ∷ l))) (part-then p (best_then v.best (counts_then r.counts rest))))))

-- ---- reports after one another

skip-blank : (fresh : Bool) (place : Place) (b : ℕ) (bytes : List ℕ) → is_blank b ≡ true → skip Never false fresh place (b ∷ bytes) ≡ skip Never false (fresh || b == 10) (place_after b place) bytes
skip-blank fresh place b bytes blank =
    let passed : is_passed Never false fresh b ≡ true = rw blank refl in
    let outside : is_inside_after false b ≡ false = rw blank refl in
    let on : skip Never false fresh place (b ∷ bytes) ≡ skip Never (is_inside_after false b) (fresh || b == 10) (place_after b place) bytes = rw (passed, skip) refl in
    on ∙ ap (λ (inside : Bool). skip Never inside (fresh || b == 10) (place_after b place) bytes) outside

blanks-skipped : (fresh : Bool) (place : Place) (blanks : List ℕ) → list_all is_blank blanks ≡ true → (skip Never false fresh place (blanks ++ [])).rest ≡ []
blanks-skipped fresh place [] h = refl
blanks-skipped fresh place (b ∷ bs) h =
    let parts : (is_blank b ≡ true) × (list_all is_blank bs ≡ true) = and_parts _ _ h in
    ap (λ (t : TextState). t.rest) (skip-blank fresh place b (bs ++ []) parts.0) ∙ blanks-skipped (fresh || b == 10) (place_after b place) bs parts.1

-- the text ends where only blanks are left
ended : (s : TextState) → IsAhead [] s → is_at_end s ≡ true
unfolding is_at_end at_token
ended s ahead =
    let rest : (at_token s).rest ≡ [] =
    ap (λ (c : Comment). (skip c false s.fresh s.place s.rest).rest) ahead.comment_is
    ∙ (ap (λ (bytes : List ℕ). (skip Never false s.fresh s.place bytes).rest) ahead.before.rest_is ∙ blanks-skipped s.fresh s.place ahead.before.blanks ahead.before.are_blank) in
    ap (λ (bytes : List ℕ). length bytes == 0) rest

-- where a token is left it does not
goes-on : (w : ℕ) (ws : List ℕ) (s : TextState) → token s ≡ w ∷ ws → is_at_end s ≡ false
unfolding is_at_end token
goes-on w ws s is = by (at_token s).rest refl
  where
    by : (rest : List ℕ) → (at_token s).rest ≡ rest → (length (at_token s).rest == 0) ≡ false
    by [] e = absurd (let none : [] ≡ w ∷ ws = sym (ap (take_while is_solid) e) ∙ is in cc)
    by (x ∷ xs) e = let some : (suc (length xs) == 0) ≡ false = grind (arith, nat_tests) in rw e some

first-token : (r : ToldReport) (more : List ℕ) (s : TextState) → IsAhead (report_then r more) s → token s ≡ codes "settled"
first-token r more s ahead =
    let v = r.settled in
    let third = codes "journal" ++ (32 ∷ (encode_lower v.report.digest ++ (10 ∷ best_then v.report.best (counts_then r.counts more)))) in
    let second = codes "part" ++ (32 ∷ ((decimal v.report.index ++ 47 ∷ decimal v.report.of) ++ (10 ∷ third))) in
    let told = int_lt (pos 0) v.within in
    (passes_word 115 (codes "ettled") (distance_text told v.within ++ (10 ∷ second)) s refl (lit< tt) (distance-blank told v.within second) ahead).token_is

-- before a report, and at the end, no counts stand
no-counts : (rs : List ToldReport) → BeginsNoCounts (flat_map printed_told rs)
no-counts [] s ahead = ap (λ (t : List ℕ). word_same t (codes "taken")) (no_token_before s ahead.before)
no-counts (r ∷ rs) s ahead =
    let more = flat_map printed_told rs in
    ap (λ (t : List ℕ). word_same t (codes "taken")) (first-token r more s (subst (λ (l : List ℕ). IsAhead l s) (report-parts r more) ahead))

-- ---- there are enough bytes

right-few : (xs ys : List ℕ) → length ys ≤ length (xs ++ ys)
right-few xs ys = let both = length-append xs ys in omega arith

left-few : (xs ys : List ℕ) → length xs ≤ length (xs ++ ys)
left-few xs ys = let both = length-append xs ys in omega arith

spaced-few : (ds : List ℕ) → length ds ≤ length (spaced ds)
spaced-few [] = omega arith
spaced-few (d ∷ ds) = omega (arith, length-append (decimal_of (pos d)) (spaced ds), spaced-few ds)

solution-few : (b : IncumbentView) → length b.decisions ≤ length (solution_lines (best_solution b))
solution-few b =
    let one = spaced-few b.decisions in
    let two = right-few (codes "assignment") (spaced b.decisions) in
    let three = left-few (codes "assignment" ++ spaced b.decisions) (10 ∷ []) in
    let four = right-few (number_line (codes "value") b.value) (assignment_line b.decisions) in
    omega arith

report-few : (r : ToldReport) (best : Option IncumbentView) → r.settled.report.best ≡ best → HasFew (length (printed_told r)) best
report-few r None e = tt
report-few r (Some b) e =
    let v = r.settled.report in
    let p = part_lines (searched_part v) in
    let first = settled_line r.settled.within in
    let lines = incumbent_lines (option_map best_solution v.best) in
    let same : length lines ≡ length (solution_lines (best_solution b)) = ap (λ (o : Option IncumbentView). length (incumbent_lines (option_map best_solution o))) e in
    let one = solution-few b in
    let two = right-few p lines in
    let three = right-few first (p ++ lines) in
    let four = left-few (first ++ (p ++ lines)) (count_lines r.counts) in
    omega arith

fewer : (m n : ℕ) (best : Option IncumbentView) → m ≤ n → HasFew m best → HasFew n best
fewer m n None less few = tt
fewer m n (Some b) less few = omega arith

each-few : (most : ℕ) (rs : List ToldReport) → length (flat_map printed_told rs) ≤ most → Each (λ (r : ToldReport). HasFew most r.settled.report.best) rs
each-few most [] less = tt
each-few most (r ∷ rs) less =
    let one = left-few (printed_told r) (flat_map printed_told rs) in
    let two = right-few (printed_told r) (flat_map printed_told rs) in
    (fewer (length (printed_told r)) most r.settled.report.best (omega arith) (report-few r r.settled.report.best refl), each-few most rs (omega arith))

some-bytes : (r : ToldReport) → 0 < length (printed_told r)
some-bytes r =
    let first = left-few (settled_line r.settled.within) (part_lines (searched_part r.settled.report) ++ incumbent_lines (option_map best_solution r.settled.report.best)) in
    let second = left-few (settled_lines (searched_part r.settled.report) (option_map best_solution r.settled.report.best) r.settled.within) (count_lines r.counts) in
    let some = settled-some (int_lt (pos 0) r.settled.within) in
    omega arith
  where
    settled-some : (told : Bool) → 0 < length (cond told (number_line (codes "settled within") r.settled.within) (line (codes "settled")))
    settled-some true = omega arith
    settled-some false = omega arith

reports-few : (rs : List ToldReport) → length rs ≤ length (flat_map printed_told rs)
reports-few [] = omega arith
reports-few (r ∷ rs) =
    let both = length-append (printed_told r) (flat_map printed_told rs) in
    let some = some-bytes r in
    let rest = reports-few rs in
    omega arith

-- ---- all reports

next-read : (most : ℕ) (r : ToldReport) (rs : List ToldReport) (made : List SettledView) (s : TextState) → IsTold r → HasFew most r.settled.report.best → IsAhead (flat_map printed_told (r ∷ rs)) s
    → Gives (IsAhead (flat_map printed_told rs)) (next_at most made s) (made ++ r.settled ∷ []) × (is_at_end s ≡ false)
unfolding next_at
next-read most r rs made s told few ahead =
    let more = flat_map printed_told rs in
    let here = subst (λ (l : List ℕ). IsAhead l s) (report-parts r more) ahead in
    let one = report-read most r more s told few (no-counts rs) here in
    (record { state = one.state; is = rw one.is refl; there = one.there }, goes-on 115 (codes "ettled") s (first-token r more s here))

all-read : (most n extra : ℕ) (rs : List ToldReport) (made : List SettledView) (s : TextState) → n ≡ length rs + extra → Each IsTold rs → Each (λ (r : ToldReport). HasFew most r.settled.report.best) rs → IsAhead (flat_map printed_told rs) s
    → Gives (IsAhead []) (until is_at_end (next_at most) n made s) (made ++ map (λ (r : ToldReport). r.settled) rs)
all-read most n extra [] made s count told few ahead =
    record { state = s; is = until-over is_at_end (next_at most) n made s (ended s ahead) ∙ ap (λ (l : List SettledView). Ok (l, s)) (sym (append-nil made)); there = ahead }
all-read most n extra (r ∷ rs) made s count told few ahead =
    let one = next-read most r rs made s told.0 few.0 ahead in
    let next = made ++ r.settled ∷ [] in
    let rest = all-read most (length rs + extra) extra rs next one.0.state refl told.1 few.1 one.0.there in
    let more_of : n ≡ suc (length rs + extra) = omega arith in
    record {
      state = rest.state;
      is = ap (λ m. until is_at_end (next_at most) m made s) more_of
          ∙ (until-step is_at_end (next_at most) (length rs + extra) made next s one.0.state one.1 one.0.is
          ∙ (rest.is ∙ ap (λ (l : List SettledView). Ok (l, rest.state)) (append_assoc made (r.settled ∷ []) (map (λ (r : ToldReport). r.settled) rs))));
      there = rest.there;
    }

pub reports-read : (reports : List ToldReport) → 0 < length reports → Each IsTold reports → reports_of (flat_map printed_told reports) ≡ Ok (map (λ (r : ToldReport). r.settled) reports)
unfolding reports_of
reports-read [] some held = absurd (omega arith)
reports-read (r ∷ rs) some held =
    let bytes = flat_map printed_told (r ∷ rs) in
    let most = length bytes in
    let start : IsAhead bytes (text_start Never bytes) = record { before = before_start Never bytes; comment_is = refl } in
    let few = each-few most (r ∷ rs) (omega arith) in
    let first = next-read most r rs [] (text_start Never bytes) held.0 few.0 start in
    let enough = reports-few (r ∷ rs) in
    let rest = all-read most most (most - length rs) rs (r.settled ∷ []) first.0.state (omega arith) held.1 few.1 first.0.there in
    rw (first.0.is, rest.is, finishes rest.state rest.there.before) refl
