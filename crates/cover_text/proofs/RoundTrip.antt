-- A printed cover is read as that cover.
use Rattle.std.proofs.Common.{◌≡◌, ℕ, zero, suc, ◌+◌, ◌<◌, ◌≤◌, ◌^◌, pos, false, List, [], ◌∷◌, ◌++◌, length, length-append, refl, sym, ap, ◌∙◌, subst, arith, append_assoc, append-nil, lit<}
use Rattle.std.specs.Prelude.{codes, decimal, Ok, fold, flat_map}
use Rattle.tokens.specs.Text.{TextState, text_start, after_token}
use Rattle.tokens.specs.Printed.{IsBefore}
use Rattle.tokens.specs.declared.comment.Comment.TheVariants.{Never}
use Rattle.tokens.proofs.Digits.{is_printed}
use Rattle.tokens.proofs.Printing.{before_start, finishes}
use Rattle.dp_model.specs.Lists.{Each}
use Rattle.bound_cover.specs.Covers.{CoverRow}
use Rattle.bound_cover.specs.Stored.{with_row}
use Rattle.problem_names.specs.ModelNames.{word_same}
use Rattle.cover_text.specs.Grammar.{until, never, stands, fixed_at}
use Rattle.cover_text.specs.Heads.{HeadView, head_at}
use Rattle.cover_text.specs.Instances.{parted}
use Rattle.cover_text.specs.Printed.{printed_row, printed_layer, printed_layers, printed_cover}
use Rattle.cover_text.specs.RowLines.{row_into}
use Rattle.cover_text.specs.Sections.{layer_at, numbered_at, sections_at}
use Rattle.cover_text.specs.Texts.{opened, text_of, cover_after}
use Rattle.cover_text.specs.Written.{IsWrittenRow, IsWrittenLayer, IsWritten}
use Rattle.cover_text.proofs.PrintedLengths.{layers-few}
use Rattle.cover_text.proofs.PrintedRows.{IsFew, row-there}
use Rattle.cover_text.proofs.PrintedTokens.{IsAt, IsAhead, Gives, BeginsBlank, after_blank, PassesWord, passes_word, stands-is, passes_fixed, passes_small, until_reads, until_ended, until_none}

-- both facts of each
each-both : {X : Type 0} (P Q : X → Type 0) (xs : List X) → Each P xs → Each Q xs → Each (λ x. P x × Q x) xs
each-both P Q [] p q = tt
each-both P Q (x ∷ xs) p q = ((p.0, q.0), each-both P Q xs p.1 q.1)

-- ---- rows that are put into the last layer

with_row-last : (layers : List (List CoverRow)) (made : List CoverRow) (row : CoverRow) → with_row (layers ++ made ∷ []) row ≡ layers ++ (made ++ row ∷ []) ∷ []
with_row-last [] made row = refl
with_row-last (layer ∷ []) made row = refl
with_row-last (layer ∷ next ∷ layers) made row = ap (λ (rest : List (List CoverRow)). layer ∷ rest) (with_row-last (next ∷ layers) made row)

fold-rows : (layers : List (List CoverRow)) (rows made : List CoverRow) → fold with_row (layers ++ made ∷ []) rows ≡ layers ++ (made ++ rows) ∷ []
fold-rows layers [] made = ap (λ (last : List CoverRow). layers ++ last ∷ []) (sym (append-nil made))
fold-rows layers (row ∷ rows) made =
    ap (λ (start : List (List CoverRow)). fold with_row start rows) (with_row-last layers made row)
    ∙ (fold-rows layers rows (made ++ row ∷ []) ∙ ap (λ (last : List CoverRow). layers ++ last ∷ []) (append_assoc made (row ∷ []) rows))

-- ---- a layer

rows-there : (most : ℕ) (rows : List CoverRow) (done : List (List CoverRow)) (tail : List ℕ) (s : TextState) → Each IsWrittenRow rows → Each (IsFew most) rows → IsAhead (flat_map printed_row rows ++ tail) s
    → Gives (IsAhead tail) (until never (row_into most) (length rows) (done ++ [] ∷ []) s) (done ++ rows ∷ [])
rows-there most rows done tail s fits few ahead =
    let read = until_reads never (row_into most) printed_row with_row (λ row. IsWrittenRow row × IsFew most row) IsAhead tail 0
    (λ row rest made t held here.
    let line = row-there most row (flat_map printed_row rest ++ tail) made t held.0 held.1 here in
    (refl, record { state = line.state; is = line.is; there = after_blank 10 (flat_map printed_row rest ++ tail) line.state refl line.there }))
    (λ made t here. until_none never (row_into most) made t)
    (length rows) rows (done ++ [] ∷ []) s (omega arith) (each-both IsWrittenRow (IsFew most) rows fits few) ahead in
    record { state = read.state; is = read.is ∙ ap (λ layers. Ok (layers, read.state)) (fold-rows done rows []); there = read.there }

number-word : (k : ℕ) (more : List ℕ) (s : TextState) → k < 2 ^ 64 → BeginsBlank more → IsAhead (decimal k ++ more) s → (fixed_at (decimal k) s ≡ Ok (after_token s)) × IsAt more (after_token s)
number-word k more s small blank ahead =
    let p = is_printed (pos k) (omega arith) in
    let word = passes_word p.first p.others more s p.solid p.ascii blank (record { before = subst (λ w. IsBefore (w ++ more) s) p.printed_is ahead.before; comment_is = ahead.comment_is }) in
    (ap (λ w. fixed_at w s) p.printed_is ∙ passes_fixed p.first p.others more s word, word.at)

layer-parts : (k : ℕ) (rows : List CoverRow) (tail : List ℕ) → printed_layer k rows ++ tail ≡ codes "layer" ++ (32 ∷ (decimal k ++ (32 ∷ (decimal (length rows) ++ (10 ∷ (flat_map printed_row rows ++ tail))))))
layer-parts k rows tail = simp append_assoc

layer-there : (most : ℕ) (rows : List CoverRow) (done : List (List CoverRow)) (tail : List ℕ) (s : TextState) → length done < 2 ^ 64 → IsWrittenLayer rows → Each (IsFew most) rows → IsAhead (printed_layer (length done) rows ++ tail) s
    → (stands (codes "end") s ≡ false) × Gives (IsAhead tail) (layer_at most done s) (done ++ rows ∷ [])
unfolding layer_at numbered_at
layer-there most rows done tail s small fits few ahead =
    let lines = flat_map printed_row rows ++ tail in
    let count = decimal (length rows) ++ (10 ∷ lines) in
    let number = decimal (length done) ++ (32 ∷ count) in
    let here : IsAhead (codes "layer" ++ (32 ∷ number)) s = record { before = subst (λ bytes. IsBefore bytes s) (layer-parts (length done) rows tail) ahead.before; comment_is = ahead.comment_is } in
    let word = passes_word 108 (codes "ayer") (32 ∷ number) s refl (lit< tt) (record { blank = 32; more = number; is = refl; is_blank = refl }) here in
    let t = after_token s in
    let place = number-word (length done) (32 ∷ count) t small (record { blank = 32; more = count; is = refl; is_blank = refl }) (after_blank 32 number t refl word.at) in
    let u = after_token t in
    let size = passes_small (length rows) (10 ∷ lines) u fits.few (record { blank = 10; more = lines; is = refl; is_blank = refl }) (after_blank 32 count u refl place.1) in
    let v = after_token u in
    let read = rows-there most rows done tail v fits.rows few (after_blank 10 lines v refl size.at) in
    (ap (λ w. word_same w (codes "end")) word.token_is, record { state = read.state; is = rw (passes_fixed 108 (codes "ayer") (32 ∷ number) s word, place.0, size.value, read.is) refl; there = read.there })

-- ---- all layers

abbrev end_line : List ℕ
end_line = codes "end\n"

end-there : (s : TextState) → IsAhead end_line s → PassesWord (codes "end") (10 ∷ []) s
end-there s ahead = passes_word 101 (codes "nd") (10 ∷ []) s refl (lit< tt) (record { blank = 10; more = []; is = refl; is_blank = refl }) ahead

step-layer : (most n : ℕ) (done next : List (List CoverRow)) (s t : TextState) → stands (codes "end") s ≡ false → layer_at most done s ≡ Ok (next, t) → until (stands (codes "end")) (layer_at most) (suc n) done s ≡ until (stands (codes "end")) (layer_at most) n next t
unfolding until
step-layer most n done next s t goes_on read = rw (goes_on, read) refl

layers-there : (most : ℕ) (layers done : List (List CoverRow)) (n : ℕ) (s : TextState) → length layers ≤ n → length done + length layers < 2 ^ 64 → Each IsWrittenLayer layers → Each (Each (IsFew most)) layers
    → IsAhead (printed_layers (length done) layers ++ end_line) s → Gives (IsAhead end_line) (until (stands (codes "end")) (layer_at most) n done s) (done ++ layers)
layers-there most [] done n s low small fits few ahead =
    record {
      state = s;
      is = until_ended (stands (codes "end")) (layer_at most) n done s (stands-is (codes "end") s (end-there s ahead).token_is) ∙ ap (λ layers. Ok (layers, s)) (sym (append-nil done));
      there = ahead;
    }
layers-there most (layer ∷ layers) done zero s low small fits few ahead = absurd (omega arith)
layers-there most (layer ∷ layers) done (suc n) s low small fits few ahead =
    let tail = printed_layers (length done + 1) layers ++ end_line in
    let here : IsAhead (printed_layer (length done) layer ++ tail) s = record { before = subst (λ bytes. IsBefore bytes s) (append_assoc (printed_layer (length done) layer) (printed_layers (length done + 1) layers) end_line) ahead.before; comment_is = ahead.comment_is } in
    let one = layer-there most layer done tail s (omega arith) fits.0 few.0 here in
    let next = done ++ layer ∷ [] in
    let longer : length next ≡ length done + 1 = length-append done (layer ∷ []) in
    let ahead_next : IsAhead (printed_layers (length next) layers ++ end_line) one.1.state = subst (λ k. IsAhead (printed_layers k layers ++ end_line) one.1.state) (sym longer) one.1.there in
    let rest = layers-there most layers next n one.1.state (omega arith) (omega arith) fits.1 few.1 ahead_next in
    record {
      state = rest.state;
      is = step-layer most n done next s one.1.state one.0 one.1.is ∙ (rest.is ∙ ap (λ all. Ok (all, rest.state)) (append_assoc done (layer ∷ []) layers));
      there = rest.there;
    }

pub sections_read : (cover : List (List CoverRow)) → IsWritten cover → sections_at (printed_cover cover) ≡ Ok cover
unfolding sections_at
sections_read cover held =
    let bytes = printed_cover cover in
    let most = length bytes in
    let both = length-append (printed_layers 0 cover) end_line in
    let few = layers-few most 0 cover (omega arith) in
    let low = few.1 in
    let s = text_start Never bytes in
    let few_layers = held.few in
    let read = layers-there most cover [] most s (omega arith) (omega arith) held.layers few.0 (record { before = before_start Never bytes; comment_is = refl }) in
    let word = end-there read.state read.there in
    let ends = finishes (after_token read.state) (after_blank 10 [] (after_token read.state) refl word.at).before in
    rw (read.is, passes_fixed 101 (codes "nd") (10 ∷ []) read.state word, ends) refl

-- after what is read before it it is the cover of the text
pub texts_read : (bytes instance : List ℕ) (head : HeadView) (cover : List (List CoverRow)) → IsWritten cover
    → head_at bytes ≡ Ok head → parted bytes head.size.line head.size.bytes ≡ Ok (instance, printed_cover cover)
    → text_of bytes ≡ Ok (record { model = head.model; part = head.part; best = head.claim.best; within = head.claim.within; assignment = head.claim.assignment; instance = instance; cover = cover })
unfolding text_of opened cover_after
texts_read bytes instance head cover held head_is parts_are = rw (head_is, parts_are, sections_read cover held) refl
