-- A row of a layer by its place among all rows.
use Rattle.std.proofs.Common.{◌≡◌, ℕ, zero, suc, ◌+◌, ◌-◌, ◌<◌, ◌≤◌, nat_lt, ℤ, Bool, true, false, cond, List, [], ◌∷◌, length, map, take, drop, slice_get, Option, Some, None, option_map, option_and_then, unwrap_or, refl, sym, ◌∙◌, ap, subst, arith, zero-add}
use Rattle.std.proofs.lemmas.List.{length-map, length-drop, length-take-le, take_all}
use Rattle.std.proofs.lemmas.Option.{slice_get-map}
use Rattle.std.specs.List.{slice_range}
use Rattle.bound_cover.proofs.Blocks.{starts-within}
use Rattle.bound_cover.proofs.Spans.{length-spans}
use Rattle.bound_cover.specs.declared.cover.CoverArc.{CoverArc}
use Rattle.bound_cover.specs.declared.storing.Head.{Head}
use Rattle.bound_cover.specs.declared.storing.Span.{Span}
use Rattle.bound_cover.specs.Covers.{CoverRow}
use Rattle.bound_cover.specs.Exploring.{layer_of}
use Rattle.bound_cover.specs.Stored.{row_of, layers_of, spans, RiseTo, place_from, place_at, count_at, start_at, rows_from}

none-either : (b : Bool) → ◌≡◌ {A = Option CoverRow} None (cond b None None)
none-either true = refl
none-either false = refl

get-take : (n i : ℕ) (xs : List CoverRow) → slice_get (take n xs) i ≡ cond (nat_lt i n) (slice_get xs i) None
get-take zero i xs = let none : nat_lt i 0 ≡ false = grind arith in rw none refl
get-take (suc n) i [] = none-either (nat_lt i (suc n))
get-take (suc n) zero (x ∷ xs) = let some : nat_lt 0 (suc n) ≡ true = grind arith in rw some refl
get-take (suc n) (suc i) (x ∷ xs) =
    let same : nat_lt (suc i) (suc n) ≡ nat_lt i n = (elim (nat_lt i n) as (λ b. nat_lt i n ≡ b → nat_lt (suc i) (suc n) ≡ b) [ true ↦ λ e. grind arith | false ↦ λ e. grind arith ] refl) in
    get-take n i xs ∙ ap (λ b. cond b (slice_get xs i) None) (sym same)

get-drop : (n i : ℕ) (xs : List CoverRow) → slice_get (drop n xs) i ≡ slice_get xs (n + i)
get-drop zero i xs = ap (slice_get xs) (sym (zero-add i))
get-drop (suc n) i [] = refl
get-drop (suc n) i (x ∷ xs) = let e : suc n + i ≡ suc (n + i) = omega arith in get-drop n i xs ∙ ap (slice_get (x ∷ xs)) (sym e)

get-beyond : (xs : List CoverRow) (i : ℕ) → length xs ≤ i → slice_get xs i ≡ None
get-beyond [] i h = refl
get-beyond (x ∷ xs) zero h = absurd (omega arith)
get-beyond (x ∷ xs) (suc i) h = get-beyond xs i (omega arith)

-- from a start on
from-start : (start row : ℕ) (rows : List CoverRow) → start ≤ length rows → option_and_then (slice_get rows) (place_from row (length rows) start) ≡ slice_get (drop start rows) row
from-start start row rows low =
    elim (nat_lt row (length rows - start)) as (λ b. nat_lt row (length rows - start) ≡ b → option_and_then (slice_get rows) (cond b (Some (start + row)) None) ≡ slice_get (drop start rows) row) [
      | true ↦ λ _. sym (get-drop start row rows)
      | false ↦ λ e. sym (get-drop start row rows ∙ get-beyond rows (start + row) (let more : length rows - start ≤ row = grind arith in omega arith))
    ] refl

-- up to an end
to-end : (start row end : ℕ) (rows : List CoverRow) → option_and_then (slice_get rows) (place_from row end start) ≡ slice_get (slice_range rows start end) row
to-end start row end rows =
    elim (nat_lt row (end - start)) as (λ b. option_and_then (slice_get rows) (cond b (Some (start + row)) None) ≡ cond b (slice_get (drop start rows) row) None) [
      | true ↦ sym (get-drop start row rows)
      | false ↦ refl
    ] ∙ sym (get-take (end - start) row (drop start rows))

pub row-at : (starts : List ℕ) (rows : List CoverRow) (layer row : ℕ) → RiseTo starts (length rows) → option_and_then (slice_get rows) (place_at starts (length rows) layer row) ≡ slice_get (layer_of (layers_of starts rows) layer) row
row-at [] rows layer row h = refl
row-at (start ∷ []) rows zero row h = from-start start row rows h
row-at (start ∷ []) rows (suc layer) row h = refl
row-at (start ∷ next ∷ starts) rows zero row h = to-end start row next rows
row-at (start ∷ next ∷ starts) rows (suc layer) row h =
    let e : suc layer + 1 ≡ suc (layer + 1) = omega arith in
    ap (λ n. option_and_then (slice_get rows) (option_and_then (place_from row (unwrap_or (slice_get (start ∷ next ∷ starts) n) (length rows))) (slice_get (next ∷ starts) layer))) e ∙ row-at (next ∷ starts) rows layer row h.1

-- as the code finds it
pub row-found : (cover : List (List CoverRow)) (starts : List ℕ) (heads : List Span) (words : List ℤ) (arcs : List CoverArc) (layer row : ℕ) (place : Option ℕ) → layers_of starts (map (row_of words arcs) heads) ≡ cover → RiseTo starts (length heads)
    → place ≡ place_at starts (length heads) layer row → option_and_then (λ i. option_map (row_of words arcs) (slice_get heads i)) place ≡ slice_get (layer_of cover layer) row
row-found cover starts heads words arcs layer row place is rises at =
    let rows = map (row_of words arcs) heads in
    let long : length rows ≡ length heads = length-map heads (row_of words arcs) in
    let each : (o : Option ℕ) → option_and_then (λ i. option_map (row_of words arcs) (slice_get heads i)) o ≡ option_and_then (slice_get rows) o = λ o. elim o as (λ o. option_and_then (λ i. option_map (row_of words arcs) (slice_get heads i)) o ≡ option_and_then (slice_get rows) o) [
      | None ↦ refl
      | Some i ↦ sym (slice_get-map (row_of words arcs) heads i)
    ] in
    each place ∙ (ap (option_and_then (slice_get rows)) (at ∙ ap (λ n. place_at starts n layer row) (sym long))
    ∙ (row-at starts rows layer row (subst (RiseTo starts) (sym long) rises) ∙ ap (λ (ls : List (List CoverRow)). slice_get (layer_of ls layer) row) is))

-- what the code answers

pub row-none : (cover : List (List CoverRow)) (starts s : List ℕ) (heads : List Span) (words : List ℤ) (arcs : List CoverArc) (layer row n : ℕ) (place : Option ℕ) → layers_of starts (map (row_of words arcs) heads) ≡ cover → RiseTo starts (length heads)
    → s ≡ starts → n ≡ length heads → place ≡ place_at s n layer row → place ≡ None → None ≡ slice_get (layer_of cover layer) row
row-none cover starts s heads words arcs layer row n place is rises same many at none =
    let found = row-found cover starts heads words arcs layer row place is rises (at ∙ (ap (λ l. place_at l n layer row) same ∙ ap (λ m. place_at starts m layer row) many)) in
    ap (option_and_then (λ i. option_map (row_of words arcs) (slice_get heads i))) (sym none) ∙ found

pub row-some : (cover : List (List CoverRow)) (starts s : List ℕ) (heads hs : List Span) (words : List ℤ) (arcs : List CoverArc) (layer row n i : ℕ) (place : Option ℕ) (o : Option Span) → layers_of starts (map (row_of words arcs) heads) ≡ cover → RiseTo starts (length heads)
    → s ≡ starts → n ≡ length heads → place ≡ place_at s n layer row → place ≡ Some i → hs ≡ heads → o ≡ slice_get hs i → option_map (row_of words arcs) o ≡ slice_get (layer_of cover layer) row
row-some cover starts s heads hs words arcs layer row n i place o is rises same many at some those got =
    let found = row-found cover starts heads words arcs layer row place is rises (at ∙ (ap (λ l. place_at l n layer row) same ∙ ap (λ m. place_at starts m layer row) many)) in
    ap (option_map (row_of words arcs)) (got ∙ ap (λ l. slice_get l i) those) ∙ (ap (option_and_then (λ i. option_map (row_of words arcs) (slice_get heads i))) (sym some) ∙ found)

-- how many rows a layer has

count-of : (starts : List ℕ) (rows : List CoverRow) (layer : ℕ) → RiseTo starts (length rows) → count_at starts (length rows) layer ≡ length (layer_of (layers_of starts rows) layer)
count-of [] rows layer h = refl
count-of (start ∷ []) rows zero h = sym (length-drop start rows)
count-of (start ∷ []) rows (suc layer) h = refl
count-of (start ∷ next ∷ starts) rows zero h =
    let low = starts-within next starts (length rows) h.1 in
    let up = h.0 in
    let long = length-drop start rows in
    sym (length-take-le (next - start) (drop start rows) (omega arith))
count-of (start ∷ next ∷ starts) rows (suc layer) h =
    let e : suc layer + 1 ≡ suc (layer + 1) = omega arith in
    ap (λ n. unwrap_or (option_map (λ s. unwrap_or (slice_get (start ∷ next ∷ starts) n) (length rows) - s) (slice_get (next ∷ starts) layer)) 0) e ∙ count-of (next ∷ starts) rows layer h.1

pub count-is : (cover : List (List CoverRow)) (starts s : List ℕ) (heads : List Span) (words : List ℤ) (arcs : List CoverArc) (layer n result : ℕ) → layers_of starts (map (row_of words arcs) heads) ≡ cover → RiseTo starts (length heads)
    → s ≡ starts → n ≡ length heads → result ≡ count_at s n layer → result ≡ length (layer_of cover layer)
count-is cover starts s heads words arcs layer n result is rises same many at =
    let rows = map (row_of words arcs) heads in
    let long : length rows ≡ length heads = length-map heads (row_of words arcs) in
    at ∙ (ap (λ l. count_at l n layer) same ∙ (ap (λ m. count_at starts m layer) (many ∙ sym long) ∙ (count-of starts rows layer (subst (RiseTo starts) (sym long) rises) ∙ ap (λ (ls : List (List CoverRow)). length (layer_of ls layer)) is)))

-- the rows of a layer lie side by side

layer-range : (starts : List ℕ) (rows : List CoverRow) (layer : ℕ) → RiseTo starts (length rows)
    → slice_range rows (start_at starts (length rows) layer) (start_at starts (length rows) layer + count_at starts (length rows) layer) ≡ layer_of (layers_of starts rows) layer
layer-range [] rows layer h = let none : length rows + 0 - length rows ≡ 0 = omega arith in ap (λ n. take n (drop (length rows) rows)) none
layer-range (start ∷ []) rows zero h =
    let count : start + (length rows - start) - start ≡ length rows - start = omega arith in
    ap (λ n. take n (drop start rows)) count ∙ take_all (length rows - start) (drop start rows) (let long = length-drop start rows in omega arith)
layer-range (start ∷ []) rows (suc layer) h = let none : length rows + 0 - length rows ≡ 0 = omega arith in ap (λ n. take n (drop (length rows) rows)) none
layer-range (start ∷ next ∷ starts) rows zero h =
    let count : start + (next - start) - start ≡ next - start = omega arith in
    ap (λ n. take n (drop start rows)) count
layer-range (start ∷ next ∷ starts) rows (suc layer) h =
    let e : suc layer + 1 ≡ suc (layer + 1) = omega arith in
    let from = start_at (next ∷ starts) (length rows) layer in
    ap (λ n. slice_range rows from (from + unwrap_or (option_map (λ s. unwrap_or (slice_get (start ∷ next ∷ starts) n) (length rows) - s) (slice_get (next ∷ starts) layer)) 0)) e ∙ layer-range (next ∷ starts) rows layer h.1

range-end : (starts : List ℕ) (n layer : ℕ) → RiseTo starts n → start_at starts n layer + count_at starts n layer ≤ n
range-end [] n layer h = omega arith
range-end (start ∷ []) n zero h = omega arith
range-end (start ∷ []) n (suc layer) h = omega arith
range-end (start ∷ next ∷ starts) n zero h =
    let low = starts-within next starts n h.1 in
    let up = h.0 in
    omega arith
range-end (start ∷ next ∷ starts) n (suc layer) h =
    let e : suc layer + 1 ≡ suc (layer + 1) = omega arith in
    let from = start_at (next ∷ starts) n layer in
    subst (λ m. from + unwrap_or (option_map (λ s. unwrap_or (slice_get (start ∷ next ∷ starts) m) n - s) (slice_get (next ∷ starts) layer)) 0 ≤ n) (sym e) (range-end (next ∷ starts) n layer h.1)

-- as the code finds them
pub layer-is : (cover : List (List CoverRow)) (starts : List ℕ) (heads : List Head) (words : List ℤ) (arcs : List CoverArc) (layer first count : ℕ) → layers_of starts (map (row_of words arcs) (spans heads)) ≡ cover → RiseTo starts (length (spans heads))
    → first ≡ start_at starts (length heads) layer → count ≡ count_at starts (length heads) layer → rows_from heads words arcs first count ≡ layer_of cover layer
layer-is cover starts heads words arcs layer first count is rises first_is count_is =
    let rows = map (row_of words arcs) (spans heads) in
    let long : length rows ≡ length heads = length-map (spans heads) (row_of words arcs) ∙ length-spans 0 0 heads in
    let at : RiseTo starts (length rows) = subst (RiseTo starts) (sym (length-map (spans heads) (row_of words arcs))) rises in
    ap (λ n. slice_range rows n (n + count)) (first_is ∙ ap (λ n. start_at starts n layer) (sym long))
    ∙ (ap (λ n. slice_range rows (start_at starts (length rows) layer) (start_at starts (length rows) layer + n)) (count_is ∙ ap (λ n. count_at starts n layer) (sym long))
    ∙ (layer-range starts rows layer at ∙ ap (λ (ls : List (List CoverRow)). layer_of ls layer) is))

pub layer-end : (starts : List ℕ) (heads : List Head) (layer first count : ℕ) → RiseTo starts (length (spans heads)) → first ≡ start_at starts (length heads) layer → count ≡ count_at starts (length heads) layer → first + count ≤ length heads
layer-end starts heads layer first count rises first_is count_is =
    let at : RiseTo starts (length heads) = subst (RiseTo starts) (length-spans 0 0 heads) rises in
    let low = range-end starts (length heads) layer at in
    rw (first_is, count_is) low

-- a row of a part

pub part-some : (rows : List CoverRow) (first count place : ℕ) → place < count → slice_get rows (first + place) ≡ slice_get (slice_range rows first (first + count)) place
part-some rows first count place within =
    let some : nat_lt place (first + count - first) ≡ true = (let e : first + count - first ≡ count = omega arith in rw e (grind arith)) in
    sym (get-take (first + count - first) place (drop first rows) ∙ rw some (get-drop first place rows))
