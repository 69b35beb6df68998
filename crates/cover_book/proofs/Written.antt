-- A cover is written layer by layer, and row by row.
use Rattle.std.proofs.Common.{◌≡◌, ℕ, zero, suc, ◌+◌, ◌<◌, ◌≤◌, ℤ, List, [], ◌∷◌, ◌++◌, length, map, take, get_or, option_map, refl, sym, ◌∙◌, ap, ap₂, arith}
use Rattle.std.proofs.lemmas.List.{map_more, length-map, length-take-le, take_all}
use Rattle.dp_model.specs.Dp.{Dp}
use Rattle.bound_cover.specs.Covers.{CoverRow}
use Rattle.bound_cover.specs.Clamping.{lowest, highest, clamped, clamped_row, clamped_layers}
use Rattle.bound_cover.specs.Stored.{last_layer, with_row}

-- a row comes to the last of some layers
pub row-following : (front : List (List CoverRow)) (layer : List CoverRow) (row : CoverRow) → with_row (front ++ layer ∷ []) row ≡ front ++ (layer ++ row ∷ []) ∷ []
row-following [] layer row = refl
row-following (x ∷ []) layer row = refl
row-following (x ∷ y ∷ front) layer row = ap (λ l. x ∷ l) (row-following (y ∷ front) layer row)

pub last-following : (front : List (List CoverRow)) (layer : List CoverRow) → last_layer (front ++ layer ∷ []) ≡ layer
last-following [] layer = refl
last-following (x ∷ []) layer = refl
last-following (x ∷ y ∷ front) layer = last-following (y ∷ front) layer

-- one row more
pub rows-more : (dp : Dp) (k i : ℕ) (low high : ℤ) (front now new : List (List CoverRow)) (rows : List CoverRow) (row d : CoverRow) → i < length rows → row ≡ get_or rows i d → low ≡ lowest k → high ≡ highest dp k → now ≡ front ++ map (clamped_row dp k) (take i rows) ∷ []
    → new ≡ with_row now (record { bound = option_map (clamped low high) row.bound; words = row.words; arcs = row.arcs }) → new ≡ front ++ map (clamped_row dp k) (take (i + 1) rows) ∷ []
rows-more dp k i low high front now new rows row d less is lo hi h n =
    let f = clamped_row dp k in
    let Row : ℤ → ℤ → CoverRow → CoverRow = λ a b r. record { bound = option_map (clamped a b) r.bound; words = r.words; arcs = r.arcs } in
    let its : Row low high row ≡ f (get_or rows i d) = ap (λ a. Row a high row) lo ∙ (ap (λ b. Row (lowest k) b row) hi ∙ ap f is) in
    n ∙ (ap₂ with_row h its ∙ (row-following front (map f (take i rows)) (f (get_or rows i d)) ∙ ap (λ l. front ++ l ∷ []) (sym (map_more f rows i d less))))

-- the last layer has few rows yet
pub rows-few : (dp : Dp) (k i : ℕ) (front now : List (List CoverRow)) (rows : List CoverRow) → i ≤ length rows → now ≡ front ++ map (clamped_row dp k) (take i rows) ∷ [] → length (last_layer now) ≡ i
rows-few dp k i front now rows less h =
    ap (λ l. length (last_layer l)) h ∙ (ap (λ (l : List CoverRow). length l) (last-following front (map (clamped_row dp k) (take i rows))) ∙ (length-map (take i rows) (clamped_row dp k) ∙ length-take-le i rows less))

pub rows-all : (dp : Dp) (k i : ℕ) (front now : List (List CoverRow)) (rows : List CoverRow) → length rows ≤ i → now ≡ front ++ map (clamped_row dp k) (take i rows) ∷ [] → now ≡ front ++ map (clamped_row dp k) rows ∷ []
rows-all dp k i front now rows end h = h ∙ ap (λ l. front ++ map (clamped_row dp k) l ∷ []) (take_all i rows end)

-- one layer more
layers-from : (dp : Dp) (j i : ℕ) (rows : List (List CoverRow)) (d : List CoverRow) → i < length rows → clamped_layers dp j (take (suc i) rows) ≡ clamped_layers dp j (take i rows) ++ map (clamped_row dp (j + i)) (get_or rows i d) ∷ []
layers-from dp j i [] d less = absurd (omega arith)
layers-from dp j zero (layer ∷ rows) d less = ap (λ n. map (clamped_row dp n) layer ∷ []) (let e : j ≡ j + 0 = omega arith in e)
layers-from dp j (suc i) (layer ∷ rows) d less =
    ap (λ l. map (clamped_row dp j) layer ∷ l) (layers-from dp (j + 1) i rows d (omega arith) ∙ ap (λ n. clamped_layers dp (j + 1) (take i rows) ++ map (clamped_row dp n) (get_or rows i d) ∷ []) (let e : j + 1 + i ≡ j + suc i = omega arith in e))

pub layers-more : (dp : Dp) (i : ℕ) (rows now new : List (List CoverRow)) (layer d : List CoverRow) → i < length rows → layer ≡ get_or rows i d → now ≡ clamped_layers dp 0 (take i rows) → new ≡ now ++ map (clamped_row dp i) layer ∷ [] → new ≡ clamped_layers dp 0 (take (i + 1) rows)
layers-more dp i rows now new layer d less is h n =
    let next : suc i ≡ i + 1 = omega arith in
    let same : 0 + i ≡ i = omega arith in
    n ∙ (ap₂ (λ l x. l ++ map (clamped_row dp i) x ∷ []) h is ∙ (ap (λ m. clamped_layers dp 0 (take i rows) ++ map (clamped_row dp m) (get_or rows i d) ∷ []) (sym same) ∙ (sym (layers-from dp 0 i rows d less) ∙ ap (λ m. clamped_layers dp 0 (take m rows)) next)))
