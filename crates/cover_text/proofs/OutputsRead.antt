-- A printed output is read as what was printed.
use Rattle.std.proofs.Common.{◌≡◌, ℕ, zero, suc, ◌<◌, ◌≤◌, ◌^◌, pos, true, false, List, [], ◌∷◌, ◌++◌, length, ℤ, refl, sym, ap, ◌∙◌, subst, arith, append_assoc, length-append, nat_eq}
use Rattle.std.specs.Prelude.{codes, decimal, Bool, cond, int_lt, Option, Some, None, Ok, nat_abs, nat_le}
use Rattle.std.specs.List.{list_all}
use Rattle.std.proofs.Math.Seq.{take-append_seam, drop-append_seam}
use Rattle.std.proofs.lemmas.Bool.{and_parts, not-true}
use Rattle.std.proofs.lemmas.Bool.Decides.{nat_tests}
use Rattle.tokens.specs.Text.{is_blank, is_solid}
use Rattle.tokens.specs.Decimal.{decimal_of, after_spaces}
use Rattle.tokens.proofs.Digits.{is_printed}
use Rattle.dp_model.specs.Lists.{Each}
use Rattle.bound_cover.specs.Covers.{CoverRow}
use Rattle.problem_names.specs.ModelNames as names
use Rattle.problem_names.specs.Parts.{MayBePart}
use Rattle.problem_names.specs.declared.ModelName.{ModelName}
use Rattle.problem_names.specs.declared.part.PartNumber.{PartNumber}
use Rattle.cover_text.proofs.EachName.{for_each}
use Rattle.cover_text.specs.Heads.{ClaimView}
use Rattle.cover_text.specs.Instances.{after_lines, parted}
use Rattle.cover_text.specs.Outputs.{CountsView, printed_lines, proved_text, claim_lines, counts_lines, cover_lines, printed_output, IsToldClaim, MayBeCounts}
use Rattle.dp_model.specs.Distances.{IsDistance}
use Rattle.cover_text.specs.Printed.{printed_cover}
use Rattle.cover_text.specs.Texts.{text_of}
use Rattle.cover_text.specs.Written.{IsWritten}
use Rattle.cover_text.proofs.PrintedHeads.{word-small, distance-small, distance_text, claim_then, counts_then, part_told, head_then, head_height, MayBeClaim, head-read}
use Rattle.cover_text.proofs.RoundTrip.{texts_read}

-- ---- the instance begins after the last of the lines

solid-on : (b : ℕ) → is_solid b ≡ true → nat_eq b 10 ≡ false
solid-on b solid = let no_blank : is_blank b ≡ false = not-true (is_blank b) solid in grind (arith, nat_tests)

-- what has no blank stays on its line
over-solid : (l : ℕ) (word rest : List ℕ) → list_all is_solid word ≡ true → after_lines (suc l) (word ++ rest) ≡ after_lines (suc l) rest
over-solid l [] rest h = refl
over-solid l (b ∷ bs) rest h =
    let parts : (is_solid b ≡ true) × (list_all is_solid bs ≡ true) = and_parts _ _ h in
    rw (solid-on b parts.0, after_lines) (over-solid l bs rest parts.1)

over-number : (l : ℕ) (z : ℤ) (rest : List ℕ) → nat_abs z < 2 ^ 64 → after_lines (suc l) (decimal_of z ++ rest) ≡ after_lines (suc l) rest
over-number l z rest small =
    let p = is_printed z small in
    subst (λ w. after_lines (suc l) (w ++ rest) ≡ after_lines (suc l) rest) (sym p.printed_is) (over-solid l (p.first ∷ p.others) rest p.solid)

over-spaced : (l : ℕ) (ds rest : List ℕ) → Each (λ d. d < 2 ^ 32) ds → after_lines (suc l) (after_spaces ds ++ rest) ≡ after_lines (suc l) rest
over-spaced l [] rest held = refl
over-spaced l (d ∷ ds) rest held =
    let few = held.0 in
    ap (after_lines (suc l)) (append_assoc (decimal_of (pos d)) (after_spaces ds) rest) ∙ (over-number l (pos d) (after_spaces ds ++ rest) (omega arith) ∙ over-spaced l ds rest held.1)

-- the first line of a report ends after its distance
over-distance : (l : ℕ) (told : Bool) (within : ℤ) (rest : List ℕ) → IsDistance within → after_lines (suc l) (distance_text told within ++ (10 ∷ rest)) ≡ after_lines l rest
over-distance l true within rest near = over-number l within (10 ∷ rest) (distance-small within near)
over-distance l false within rest near = refl

-- this many lines more
abbrev claim_down : Option ℤ → ℕ → ℕ
claim_down None l = suc l
claim_down (Some value) l = suc (suc (suc l))

abbrev counts_down : Option CountsView → ℕ → ℕ
counts_down None l = l
counts_down (Some counts) l = suc (suc l)

following-claim : (most : ℕ) (best : Option ℤ) (within : ℤ) (ds more : List ℕ) (l : ℕ) → MayBeClaim most best within ds → after_lines (claim_down best l) (claim_then best within ds more) ≡ after_lines l more
following-claim most None within ds more l fits = refl
following-claim most (Some value) within ds more l fits =
    let third = codes "assignment" ++ (after_spaces ds ++ (10 ∷ more)) in
    over-distance (suc (suc l)) (int_lt (pos 0) within) within (codes "value" ++ (32 ∷ (decimal_of value ++ (10 ∷ third)))) fits.1.0
    ∙ (over-number (suc l) value (10 ∷ third) (word-small value fits.0) ∙ over-spaced l ds (10 ∷ more) fits.1.1.0)

following-counts : (counts : Option CountsView) (more : List ℕ) (l : ℕ) → MayBeCounts counts → after_lines (counts_down counts l) (counts_then counts more) ≡ after_lines l more
following-counts None more l told = refl
following-counts (Some counts) more l told =
    over-number (suc l) (pos counts.taken) (10 ∷ (codes "finished" ++ (32 ∷ (decimal counts.finished ++ (10 ∷ more))))) told.taken ∙ over-number l (pos counts.finished) (10 ∷ more) told.finished

abbrev part_down : Option PartNumber → ℕ → ℕ
part_down None l = l
part_down (Some part) l = suc l

following-part : (part : Option PartNumber) (more : List ℕ) (l : ℕ) → MayBePart part → after_lines (part_down part l) (part_told part more) ≡ after_lines l more
following-part None more l meant = refl
following-part (Some part) more l meant =
    let below = meant.index in
    let few : part.of ≤ 1024 = meant.few in
    over-number l (pos part.index) (32 ∷ (decimal part.of ++ (10 ∷ more))) (omega arith) ∙ over-number l (pos part.of) (10 ∷ more) (omega arith)

following-cover : (model : ModelName) (part : Option PartNumber) (size : ℕ) (more : List ℕ) → MayBePart part → size < 2 ^ 32
    → after_lines (suc (part_down part (suc zero))) (codes "cover" ++ (32 ∷ (names.text_of model ++ (10 ∷ part_told part (codes "instance" ++ (32 ∷ (decimal size ++ (10 ∷ more)))))))) ≡ after_lines zero more
following-cover model part size more meant few =
    let last = codes "instance" ++ (32 ∷ (decimal size ++ (10 ∷ more))) in
    over-solid (part_down part (suc zero)) (names.text_of model) (10 ∷ part_told part last) (for_each (λ name. list_all is_solid (names.text_of name)) refl model)
    ∙ (following-part part last (suc zero) meant ∙ over-number zero (pos size) (10 ∷ more) (omega arith))

following-none : (more : List ℕ) → after_lines zero more ≡ more
following-none [] = refl
following-none (b ∷ bs) = refl

heights : (claim : ClaimView) (counts : Option CountsView) (part : Option PartNumber) → (best : Option ℤ) → claim.best ≡ best → head_height claim counts part ≡ claim_down best (counts_down counts (suc (part_down part (suc zero))))
heights claim None None None e = rw e refl
heights claim (Some counts) None None e = rw e refl
heights claim None (Some part) None e = rw e refl
heights claim (Some counts) (Some part) None e = rw e refl
heights claim None None (Some value) e = rw e refl
heights claim (Some counts) None (Some value) e = rw e refl
heights claim None (Some part) (Some value) e = rw e refl
heights claim (Some counts) (Some part) (Some value) e = rw e refl

following-head : (most : ℕ) (claim : ClaimView) (counts : Option CountsView) (model : ModelName) (part : Option PartNumber) (size : ℕ) (more : List ℕ) → MayBeClaim most claim.best claim.within claim.assignment → MayBeCounts counts → MayBePart part → size < 2 ^ 32
    → after_lines (head_height claim counts part) (head_then claim counts model part size more) ≡ more
following-head most claim counts model part size more fits told meant few =
    let third = codes "cover" ++ (32 ∷ (names.text_of model ++ (10 ∷ part_told part (codes "instance" ++ (32 ∷ (decimal size ++ (10 ∷ more))))))) in
    let down = suc (part_down part (suc zero)) in
    ap (λ l. after_lines l (head_then claim counts model part size more)) (heights claim counts part claim.best refl)
    ∙ (following-claim most claim.best claim.within claim.assignment (counts_then counts third) (counts_down counts down) fits
    ∙ (following-counts counts third down told ∙ (following-cover model part size more meant few ∙ following-none more)))

-- it has its bytes, and the sections stand after them
parted-there : (bytes instance following : List ℕ) (lines : ℕ) → after_lines lines bytes ≡ instance ++ following → parted bytes lines (length instance) ≡ Ok (instance, following)
parted-there bytes instance following lines is =
    let both = length-append instance following in
    let fits : nat_le (length instance) (length (instance ++ following)) ≡ true = grind (arith, nat_tests) in
    rw (is, fits, take-append_seam instance following, drop-append_seam instance following) refl

-- ---- the whole output

spaced-few : (ds : List ℕ) → length ds ≤ length (after_spaces ds)
spaced-few [] = omega arith
spaced-few (d ∷ ds) = omega (arith, length-append (decimal_of (pos d)) (after_spaces ds), spaced-few ds)

claim-few : (best : Option ℤ) (within : ℤ) (ds more : List ℕ) → IsToldClaim best within ds → MayBeClaim (length (claim_then best within ds more)) best within ds
claim-few None within ds more told = told
claim-few (Some value) within ds more told =
    let last = after_spaces ds ++ (10 ∷ more) in
    let third = codes "assignment" ++ last in
    let second = decimal_of value ++ (10 ∷ third) in
    let first = codes "value" ++ (32 ∷ second) in
    let distance = distance_text (int_lt (pos 0) within) within in
    let word = length-append (codes "proved") (distance ++ (10 ∷ first)) in
    let one = length-append distance (10 ∷ first) in
    let two = length-append (codes "value") (32 ∷ second) in
    let three = length-append (decimal_of value) (10 ∷ third) in
    let four = length-append (codes "assignment") last in
    let five = length-append (after_spaces ds) (10 ∷ more) in
    (told.0, (told.1, (told.2, omega (arith, spaced-few ds))))

-- a line, and the others after it
lines-first : (text : List ℕ) (lines : List (List ℕ)) (rest : List ℕ) → printed_lines (text ∷ lines) ++ rest ≡ text ++ (10 ∷ (printed_lines lines ++ rest))
lines-first text lines rest = append_assoc (text ++ 10 ∷ []) (printed_lines lines) rest ∙ append_assoc text (10 ∷ []) (printed_lines lines ++ rest)

two-lines : (one two rest : List ℕ) → printed_lines (one ∷ two ∷ []) ++ rest ≡ one ++ (10 ∷ (two ++ (10 ∷ rest)))
two-lines one two rest = lines-first one (two ∷ []) rest ∙ ap (λ l. one ++ (10 ∷ l)) (lines-first two [] rest)

proved-parts : (within : ℤ) (rest : List ℕ) → proved_text within ++ rest ≡ codes "proved" ++ (distance_text (int_lt (pos 0) within) within ++ rest)
proved-parts within rest =
    elim (int_lt (pos 0) within) as (λ told. cond told (codes "proved within" ++ 32 ∷ decimal_of within) (codes "proved") ++ rest ≡ codes "proved" ++ (distance_text told within ++ rest)) [ true ↦ refl | false ↦ refl ]

claim-parts : (best : Option ℤ) (within : ℤ) (x rest : List ℕ) → printed_lines (claim_lines best within x) ++ rest ≡ claim_then best within x rest
claim-parts None within x rest = lines-first (codes "infeasible") [] rest
claim-parts (Some value) within x rest =
    let value_line = codes "value" ++ 32 ∷ decimal_of value in
    let last_line = codes "assignment" ++ after_spaces x in
    lines-first (proved_text within) (value_line ∷ last_line ∷ []) rest
    ∙ (ap (λ l. proved_text within ++ (10 ∷ l)) (two-lines value_line last_line rest) ∙ proved-parts within (10 ∷ (value_line ++ (10 ∷ (last_line ++ (10 ∷ rest))))))

counts-parts : (counts : Option CountsView) (rest : List ℕ) → printed_lines (counts_lines counts) ++ rest ≡ counts_then counts rest
counts-parts None rest = refl
counts-parts (Some counts) rest = two-lines (codes "taken" ++ 32 ∷ decimal counts.taken) (codes "finished" ++ 32 ∷ decimal counts.finished) rest

cover-parts : (model : ModelName) (part : Option PartNumber) (size : ℕ) (rest : List ℕ)
    → printed_lines (cover_lines model part size) ++ rest ≡ codes "cover" ++ (32 ∷ (names.text_of model ++ (10 ∷ part_told part (codes "instance" ++ (32 ∷ (decimal size ++ (10 ∷ rest)))))))
cover-parts model None size rest = two-lines (codes "cover" ++ 32 ∷ names.text_of model) (codes "instance" ++ 32 ∷ decimal size) rest
cover-parts model (Some part) size rest =
    let first = codes "cover" ++ 32 ∷ names.text_of model in
    let second = codes "part" ++ 32 ∷ (decimal part.index ++ 32 ∷ decimal part.of) in
    let third = codes "instance" ++ 32 ∷ decimal size in
    lines-first first (second ∷ third ∷ []) rest
    ∙ ap (λ l. first ++ (10 ∷ l)) (two-lines second third rest ∙ ap (λ l. codes "part" ++ (32 ∷ l)) (append_assoc (decimal part.index) (32 ∷ decimal part.of) (10 ∷ (third ++ (10 ∷ rest)))))

output-parts : (claim : ClaimView) (counts : Option CountsView) (model : ModelName) (part : Option PartNumber) (instance : List ℕ) (cover : List (List CoverRow))
    → printed_output claim counts model part instance cover ≡ head_then claim counts model part (length instance) (instance ++ printed_cover cover)
output-parts claim counts model part instance cover =
    let sections = instance ++ printed_cover cover in
    let last = printed_lines (cover_lines model part (length instance)) ++ sections in
    claim-parts claim.best claim.within claim.assignment (printed_lines (counts_lines counts) ++ last)
    ∙ ap (claim_then claim.best claim.within claim.assignment) (counts-parts counts last
    ∙ ap (counts_then counts) (cover-parts model part (length instance) sections))

pub outputs_read : (claim : ClaimView) (counts : Option CountsView) (model : ModelName) (part : Option PartNumber) (instance : List ℕ) (cover : List (List CoverRow))
    → IsToldClaim claim.best claim.within claim.assignment → MayBeCounts counts → MayBePart part → length instance < 2 ^ 32 → IsWritten cover
    → text_of (printed_output claim counts model part instance cover) ≡ Ok (record { model = model; part = part; best = claim.best; within = claim.within; assignment = claim.assignment; instance = instance; cover = cover })
outputs_read claim counts model part instance cover told counted meant few written =
    let sections = instance ++ printed_cover cover in
    let bytes = printed_output claim counts model part instance cover in
    let is : bytes ≡ head_then claim counts model part (length instance) sections = output-parts claim counts model part instance cover in
    let third = codes "cover" ++ (32 ∷ (names.text_of model ++ (10 ∷ part_told part (codes "instance" ++ (32 ∷ (decimal (length instance) ++ (10 ∷ sections))))))) in
    let fits : MayBeClaim (length bytes) claim.best claim.within claim.assignment =
    subst (λ (b : List ℕ). MayBeClaim (length b) claim.best claim.within claim.assignment) (sym is) (claim-few claim.best claim.within claim.assignment (counts_then counts third) told) in
    let head = head-read claim counts model part (length instance) sections bytes is fits counted meant few in
    let following = ap (after_lines (head_height claim counts part)) is ∙ following-head (length bytes) claim counts model part (length instance) sections fits counted meant few in
    texts_read bytes instance (record { claim = claim; model = model; part = part; size = record { bytes = length instance; line = head_height claim counts part } }) cover written head
    (parted-there bytes instance (printed_cover cover) (head_height claim counts part) following)
