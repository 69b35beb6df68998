-- What a cover in memory shows after a layer or a row is added.
use Rattle.std.proofs.Common.{◌≡◌, ℕ, zero, suc, ◌+◌, ◌-◌, ◌^◌, ◌<◌, ◌≤◌, ℤ, Bool, true, false, cond, List, [], ◌∷◌, ◌++◌, length, map, take, drop, Option, Some, None, refl, sym, ◌∙◌, ap, subst, arith, length-append, length-drop}
use Rattle.std.proofs.lemmas.List.{drop_all, take_all, drop-append-le, length-map}
use Rattle.std.proofs.Math.Seq.{drop-append_seam, take-length}
use Rattle.std.specs.List.{slice_range}
use Rattle.std.specs.Prelude.{Result, Ok, Err, is_ok, IsOk}
use Rattle.dp_model.specs.Lists.{Each}
use Rattle.dp_model.proofs.Members.{Each-append, Each-then}
use Rattle.bound_cover.specs.declared.cover.CoverArc.{CoverArc}
use Rattle.bound_cover.specs.declared.storing.Span.{Span}
use Rattle.bound_cover.specs.Covers.{CoverRow}
use Rattle.bound_cover.specs.Exploring.{layer_of}
use Rattle.bound_cover.specs.Stored.{row_of, layers_of, IsWithin, RiseTo, AreShort, IsStored, last_layer, with_row}

pub length-layers : (starts : List ℕ) (rows : List CoverRow) → length (layers_of starts rows) ≡ length starts
length-layers [] rows = refl
length-layers (start ∷ []) rows = refl
length-layers (start ∷ next ∷ starts) rows = ap suc (length-layers (next ∷ starts) rows)

-- ---- a further layer

range-all : (start : ℕ) (rows : List CoverRow) → slice_range rows start (length rows) ≡ drop start rows
range-all start rows = take_all (length rows - start) (drop start rows) (let long = length-drop start rows in omega arith)

pub layers-more : (starts : List ℕ) (rows : List CoverRow) → layers_of (starts ++ length rows ∷ []) rows ≡ layers_of starts rows ++ [] ∷ []
layers-more [] rows = ap (λ l. l ∷ []) (drop_all (length rows) rows (omega arith))
layers-more (start ∷ []) rows = ap (λ l. l ∷ drop (length rows) rows ∷ []) (range-all start rows) ∙ ap (λ l. drop start rows ∷ l ∷ []) (drop_all (length rows) rows (omega arith))
layers-more (start ∷ next ∷ starts) rows = ap (λ ls. slice_range rows start next ∷ ls) (layers-more (next ∷ starts) rows)

pub rises-more : (starts : List ℕ) (n : ℕ) → RiseTo starts n → RiseTo (starts ++ n ∷ []) n
rises-more [] n h = omega arith
rises-more (start ∷ []) n h = (h, omega arith)
rises-more (start ∷ next ∷ starts) n h = (h.0, rises-more (next ∷ starts) n h.1)

-- ---- a further row

rises-to : (starts : List ℕ) (n m : ℕ) → RiseTo starts n → n ≤ m → RiseTo starts m
rises-to [] n m h up = tt
rises-to (start ∷ []) n m h up = omega arith
rises-to (start ∷ next ∷ starts) n m h up = (h.0, rises-to (next ∷ starts) n m h.1 up)

pub starts-within : (start : ℕ) (starts : List ℕ) (n : ℕ) → RiseTo (start ∷ starts) n → start ≤ n
starts-within start [] n h = h
starts-within start (next ∷ starts) n h = let up = h.0 in let more = starts-within next starts n h.1 in omega arith

take-front : {X : Type 0} (n : ℕ) (xs ys : List X) → n ≤ length xs → take n (xs ++ ys) ≡ take n xs
take-front zero xs ys h = refl
take-front (suc n) [] ys h = absurd (omega arith)
take-front (suc n) (x ∷ xs) ys h = ap (λ l. x ∷ l) (take-front n xs ys (omega arith))

pub range-front : {X : Type 0} (xs ys : List X) (from to : ℕ) → from ≤ to → to ≤ length xs → slice_range (xs ++ ys) from to ≡ slice_range xs from to
range-front xs ys from to up low =
    ap (take (to - from)) (drop-append-le from xs ys (omega arith)) ∙ take-front (to - from) (drop from xs) ys (let long = length-drop from xs in omega arith)

range-following : {X : Type 0} (xs ys : List X) → slice_range (xs ++ ys) (length xs) (length xs + length ys) ≡ ys
range-following xs ys =
    let count : length xs + length ys - length xs ≡ length ys = omega arith in
    ap (λ n. take n (drop (length xs) (xs ++ ys))) count ∙ (ap (take (length ys)) (drop-append_seam xs ys) ∙ take-length ys)

with-row-following : (layer : List CoverRow) (layers : List (List CoverRow)) (row : CoverRow) → 0 < length layers → with_row (layer ∷ layers) row ≡ layer ∷ with_row layers row
with-row-following layer [] row h = absurd (omega arith)
with-row-following layer (next ∷ layers) row h = refl

pub layers-row : (starts : List ℕ) (rows : List CoverRow) (row : CoverRow) → RiseTo starts (length rows) → layers_of starts (rows ++ row ∷ []) ≡ with_row (layers_of starts rows) row
layers-row [] rows row h = refl
layers-row (start ∷ []) rows row h = ap (λ l. l ∷ []) (drop-append-le start rows (row ∷ []) h)
layers-row (start ∷ next ∷ starts) rows row h =
    let some : 0 < length (layers_of (next ∷ starts) rows) = (let e = length-layers (next ∷ starts) rows in omega arith) in
    ap (λ l. l ∷ layers_of (next ∷ starts) (rows ++ row ∷ [])) (range-front rows (row ∷ []) start next h.0 (starts-within next starts (length rows) h.1))
    ∙ (ap (λ ls. slice_range rows start next ∷ ls) (layers-row (next ∷ starts) rows row h.1) ∙ sym (with-row-following (slice_range rows start next) (layers_of (next ∷ starts) rows) row some))

-- the rows that are there show the same
rows-same : (words new_words : List ℤ) (arcs new_arcs : List CoverArc) (heads : List Span) → Each (IsWithin (length words) (length arcs)) heads → map (row_of (words ++ new_words) (arcs ++ new_arcs)) heads ≡ map (row_of words arcs) heads
rows-same words new_words arcs new_arcs [] h = refl
rows-same words new_words arcs new_arcs (head ∷ heads) h =
    let w = range-front words new_words head.words_from head.words_to h.0.words_rise h.0.words_end in
    let a = range-front arcs new_arcs head.arcs_from head.arcs_to h.0.arcs_rise h.0.arcs_end in
    let first : row_of (words ++ new_words) (arcs ++ new_arcs) head ≡ row_of words arcs head =
    ap (λ l. record { bound = head.bound; words = l; arcs = cond head.has_arcs (Some (slice_range (arcs ++ new_arcs) head.arcs_from head.arcs_to)) None }) w
    ∙ ap (λ l. record { bound = head.bound; words = slice_range words head.words_from head.words_to; arcs = cond head.has_arcs (Some l) None }) a in
    ap (λ r. r ∷ map (row_of (words ++ new_words) (arcs ++ new_arcs)) heads) first ∙ ap (λ rs. row_of words arcs head ∷ rs) (rows-same words new_words arcs new_arcs heads h.1)

-- the head of a row whose words and arcs were put after all others
abbrev pub head_after : Option ℤ → Bool → ℕ → ℕ → ℕ → ℕ → Span
head_after bound has_arcs words words_to arcs arcs_to = record { bound = bound; words_from = words; words_to = words_to; has_arcs = has_arcs; arcs_from = arcs; arcs_to = arcs_to }

pub map-following : {X Y : Type 0} (f : X → Y) (xs : List X) (x : X) → map f (xs ++ x ∷ []) ≡ map f xs ++ f x ∷ []
map-following f [] x = refl
map-following f (y ∷ xs) x = ap (λ l. f y ∷ l) (map-following f xs x)

pub row-added : (starts : List ℕ) (heads : List Span) (words new_words : List ℤ) (arcs new_arcs : List CoverArc) (bound : Option ℤ) (has_arcs : Bool) → IsStored starts heads (length words) (length arcs)
    → layers_of starts (map (row_of (words ++ new_words) (arcs ++ new_arcs)) (heads ++ head_after bound has_arcs (length words) (length words + length new_words) (length arcs) (length arcs + length new_arcs) ∷ []))
    ≡ with_row (layers_of starts (map (row_of words arcs) heads)) (record { bound = bound; words = new_words; arcs = cond has_arcs (Some new_arcs) None })
row-added starts heads words new_words arcs new_arcs bound has_arcs h =
    let show = row_of (words ++ new_words) (arcs ++ new_arcs) in
    let head = head_after bound has_arcs (length words) (length words + length new_words) (length arcs) (length arcs + length new_arcs) in
    let new : CoverRow = record { bound = bound; words = new_words; arcs = cond has_arcs (Some new_arcs) None } in
    let shown : show head ≡ new =
    ap (λ l. record { bound = bound; words = l; arcs = cond has_arcs (Some (slice_range (arcs ++ new_arcs) (length arcs) (length arcs + length new_arcs))) None }) (range-following words new_words)
    ∙ ap (λ l. record { bound = bound; words = new_words; arcs = cond has_arcs (Some l) None }) (range-following arcs new_arcs) in
    let old = rows-same words new_words arcs new_arcs heads h.within in
    let rises : RiseTo starts (length (map (row_of words arcs) heads)) = subst (λ n. RiseTo starts n) (sym (length-map heads (row_of words arcs))) h.starts_rise in
    ap (layers_of starts) (map-following show heads head ∙ (ap (λ l. l ++ show head ∷ []) old ∙ ap (λ r. map (row_of words arcs) heads ++ r ∷ []) shown))
    ∙ layers-row starts (map (row_of words arcs) heads) new rises

pub row-stored : (starts : List ℕ) (heads : List Span) (words arcs new_words new_arcs : ℕ) (bound : Option ℤ) (has_arcs : Bool) → IsStored starts heads words arcs
    → IsStored starts (heads ++ head_after bound has_arcs words (words + new_words) arcs (arcs + new_arcs) ∷ []) (words + new_words) (arcs + new_arcs)
row-stored starts heads words arcs new_words new_arcs bound has_arcs h = record {
  starts_rise = rises-to starts (length heads) (length (heads ++ head_after bound has_arcs words (words + new_words) arcs (arcs + new_arcs) ∷ [])) h.starts_rise (let long = length-append heads (head_after bound has_arcs words (words + new_words) arcs (arcs + new_arcs) ∷ []) in omega arith);
  within = Each-append (IsWithin (words + new_words) (arcs + new_arcs)) heads (head_after bound has_arcs words (words + new_words) arcs (arcs + new_arcs) ∷ [])
      (Each-then (IsWithin words arcs) (IsWithin (words + new_words) (arcs + new_arcs)) heads (λ x w. (let a = w.words_end in let b = w.arcs_end in record { words_rise = w.words_rise; words_end = omega arith; arcs_rise = w.arcs_rise; arcs_end = omega arith })) h.within)
      (record { words_rise = omega arith; words_end = omega arith; arcs_rise = omega arith; arcs_end = omega arith }, tt);
}

pub layer-stored : (starts : List ℕ) (heads : List Span) (words arcs : ℕ) → IsStored starts heads words arcs → IsStored (starts ++ length heads ∷ []) heads words arcs
layer-stored starts heads words arcs h = record { starts_rise = rises-more starts (length heads) h.starts_rise; within = h.within }

-- what is put where there is room
pub extended : {X E : Type 0} (r : Result (Unit {0}) E) (len capacity now : ℕ) (old more items : List X) → (len + length more ≤ capacity → IsOk r) → len + length more ≤ capacity
    → items ≡ cond (is_ok r) (old ++ more) old → now ≡ cond (is_ok r) (len + length more) len → (items ≡ old ++ more) × (now ≡ len + length more)
extended (Ok x) len capacity now old more items may fits is count = (is, count)
extended (Err e) len capacity now old more items may fits is count = let no : false ≡ true = may fits in absurd (cc)

pub layer-added : (starts : List ℕ) (heads : List Span) (words : List ℤ) (arcs : List CoverArc) → layers_of (starts ++ length heads ∷ []) (map (row_of words arcs) heads) ≡ layers_of starts (map (row_of words arcs) heads) ++ [] ∷ []
layer-added starts heads words arcs =
    let long = length-map heads (row_of words arcs) in
    subst (λ n. layers_of (starts ++ n ∷ []) (map (row_of words arcs) heads) ≡ layers_of starts (map (row_of words arcs) heads) ++ [] ∷ []) long (layers-more starts (map (row_of words arcs) heads))

-- ---- no layer grows too long

pub short-layer : (layers : List (List CoverRow)) → AreShort layers → AreShort (layers ++ [] ∷ [])
short-layer layers short = Each-append (λ (layer : List CoverRow). length layer < 2 ^ 32) layers ([] ∷ []) short (omega arith, tt)

pub short-row : (layers : List (List CoverRow)) (row : CoverRow) → AreShort layers → length (last_layer layers) < 2 ^ 32 - 1 → AreShort (with_row layers row)
short-row [] row short few = short
short-row (layer ∷ []) row short few = (let long = length-append layer (row ∷ []) in omega arith, tt)
short-row (layer ∷ next ∷ layers) row short few = (short.0, short-row (next ∷ layers) row short.1 few)

-- the layer at any place, also where there is none
pub short_at : (layers : List (List CoverRow)) → AreShort layers → (k : ℕ) → length (layer_of layers k) < 2 ^ 32
short_at [] short k = omega arith
short_at (layer ∷ layers) short zero = short.0
short_at (layer ∷ layers) short (suc k) = short_at layers short.1 k
