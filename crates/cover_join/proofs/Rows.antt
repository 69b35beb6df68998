-- The rows of the joined layers, one after another.
use Rattle.std.proofs.Common.{◌≡◌, ℕ, zero, suc, ◌+◌, ◌-◌, ◌<◌, ◌≤◌, List, [], ◌∷◌, ◌++◌, length, map, drop, slice_get, ℤ, Option, Some, refl, sym, ap, ◌∙◌, subst, arith, append_assoc, append-nil}
use Rattle.std.specs.Prelude.{fold, option_map, replicate}
use Rattle.std.proofs.lemmas.List.Sums.{fold-append}
use Rattle.bound_cover.specs.declared.cover.CoverArc.{CoverArc}
use Rattle.bound_cover.specs.Covers.{CoverRow}
use Rattle.bound_cover.specs.Exploring.{layer_of}
use Rattle.bound_cover.specs.Stored.{with_row, last_layer}
use Rattle.bound_cover.proofs.Placing.{layer-beyond}
use Rattle.cover_join.specs.Joined.{PartAnswer, shifted_row, joined_layer, joined_layers}

-- ---- the last layer

pub last_is : (layers : List (List CoverRow)) → 0 < length layers → layer_of layers (length layers - 1) ≡ last_layer layers
last_is [] some = absurd (omega arith)
last_is (layer ∷ []) some = refl
last_is (layer ∷ next ∷ layers) some =
    let place : length (layer ∷ next ∷ layers) - 1 ≡ suc (length (next ∷ layers) - 1) = omega arith in
    ap (layer_of (layer ∷ next ∷ layers)) place ∙ last_is (next ∷ layers) (omega arith)

pub length_with_row : (layers : List (List CoverRow)) (row : CoverRow) → length (with_row layers row) ≡ length layers
length_with_row [] row = refl
length_with_row (layer ∷ []) row = refl
length_with_row (layer ∷ next ∷ layers) row = ap suc (length_with_row (next ∷ layers) row)

with_row-last : (layers : List (List CoverRow)) (made : List CoverRow) (row : CoverRow) → with_row (layers ++ made ∷ []) row ≡ layers ++ (made ++ row ∷ []) ∷ []
with_row-last [] made row = refl
with_row-last (layer ∷ []) made row = refl
with_row-last (layer ∷ next ∷ layers) made row = ap (λ (rest : List (List CoverRow)). layer ∷ rest) (with_row-last (next ∷ layers) made row)

fold-rows : (layers : List (List CoverRow)) (rows made : List CoverRow) → fold with_row (layers ++ made ∷ []) rows ≡ layers ++ (made ++ rows) ∷ []
fold-rows layers [] made = ap (λ (last : List CoverRow). layers ++ last ∷ []) (sym (append-nil made))
fold-rows layers (row ∷ rows) made =
    ap (λ (start : List (List CoverRow)). fold with_row start rows) (with_row-last layers made row)
    ∙ (fold-rows layers rows (made ++ row ∷ []) ∙ ap (λ (last : List CoverRow). layers ++ last ∷ []) (append_assoc made (row ∷ []) rows))

pub no_rows : (layers : List (List CoverRow)) (j : ℕ) → length layers ≤ j → 0 ≡ length (layer_of layers j)
no_rows layers j beyond = ap length (sym (layer-beyond layers j beyond))

-- the rows of a first layer
pub first_added : (none begun next : List (List CoverRow)) (rows : List CoverRow) → none ≡ [] → begun ≡ none ++ [] ∷ [] → next ≡ fold with_row begun rows → next ≡ rows ∷ []
first_added none begun next rows empty one is = is ∙ (ap (λ c. fold with_row c rows) (one ∙ ap (λ (c : List (List CoverRow)). c ++ [] ∷ []) empty) ∙ fold-rows [] rows [])

-- ---- rows of a part

-- what is made of a row whose parts are seen
pub row_seen : {Y : Type 0} (f : CoverRow → Y) (rows : List CoverRow) (i : ℕ) (bound : Option ℤ) (words : List ℤ) (arcs : Option (List CoverArc)) → option_map (λ r. r.bound) (slice_get rows i) ≡ Some bound
    → option_map (λ r. r.words) (slice_get rows i) ≡ Some words → option_map (λ r. r.arcs) (slice_get rows i) ≡ Some arcs → option_map f (slice_get rows i) ≡ Some (f (record { bound = bound; words = words; arcs = arcs }))
row_seen f [] i bound words arcs b w a = absurd (cc)
row_seen f (row ∷ rows) zero bound words arcs b w a =
    let at_bound : row.bound ≡ bound = cc in
    let at_words : row.words ≡ words = cc in
    let at_arcs : row.arcs ≡ arcs = cc in
    rw (sym at_bound, sym at_words, sym at_arcs) refl
row_seen f (row ∷ rows) (suc i) bound words arcs b w a = row_seen f rows i bound words arcs b w a

-- a row more
pub row_added : (before : ℕ) (rows : List CoverRow) (i : ℕ) (cover next whole : List (List CoverRow)) → option_map (λ r. with_row cover (shifted_row before r)) (slice_get rows i) ≡ Some next
    → fold with_row cover (map (shifted_row before) (drop i rows)) ≡ whole → fold with_row next (map (shifted_row before) (drop (i + 1) rows)) ≡ whole
row_added before [] i cover next whole at so_far = absurd (cc)
row_added before (row ∷ rows) zero cover next whole at so_far =
    let is : with_row cover (shifted_row before row) ≡ next = cc in
    subst (λ c. fold with_row c (map (shifted_row before) rows) ≡ whole) is so_far
row_added before (row ∷ rows) (suc i) cover next whole at so_far =
    let more : suc i + 1 ≡ suc (i + 1) = omega arith in
    rw more (row_added before rows i cover next whole at so_far)

pub rows_done : (before : ℕ) (rows : List CoverRow) (i : ℕ) (cover whole : List (List CoverRow)) → length rows ≤ i → fold with_row cover (map (shifted_row before) (drop i rows)) ≡ whole → cover ≡ whole
rows_done before [] zero cover whole all so_far = so_far
rows_done before [] (suc i) cover whole all so_far = so_far
rows_done before (row ∷ rows) zero cover whole all so_far = absurd (omega arith)
rows_done before (row ∷ rows) (suc i) cover whole all so_far = rows_done before rows i cover whole (omega arith) so_far

pub ruleset row_steps = (row_added, rows_done)

-- ---- the parts

pub part_added : (j n m : ℕ) (p : PartAnswer) (ps : List PartAnswer) (cover next whole : List (List CoverRow)) → fold with_row cover (joined_layer j n (p ∷ ps)) ≡ whole
    → next ≡ fold with_row cover (map (shifted_row n) (layer_of p.layers j)) → m ≡ n + length (layer_of p.layers (j + 1)) → fold with_row next (joined_layer j m ps) ≡ whole
part_added j n m p ps cover next whole so_far is count =
    ap (λ c. fold with_row c (joined_layer j m ps)) is
    ∙ (ap (λ k. fold with_row (fold with_row cover (map (shifted_row n) (layer_of p.layers j))) (joined_layer j k ps)) count
    ∙ (sym (fold-append with_row cover (map (shifted_row n) (layer_of p.layers j)) (joined_layer j (n + length (layer_of p.layers (j + 1))) ps)) ∙ so_far))

-- ---- the layers

pub layer_added : (layers next with_layer : List (List CoverRow)) (rows : List CoverRow) → with_layer ≡ layers ++ [] ∷ [] → next ≡ fold with_row with_layer rows → next ≡ layers ++ rows ∷ []
layer_added layers next with_layer rows begun is = is ∙ (ap (λ c. fold with_row c rows) begun ∙ fold-rows layers rows [])

pub next_layer : (count i : ℕ) (ps : List PartAnswer) (cover next whole : List (List CoverRow)) → i < count → next ≡ cover ++ joined_layer (i + 1) 0 ps ∷ [] → cover ++ joined_layers (count - i) (i + 1) ps ≡ whole
    → next ++ joined_layers (count - (i + 1)) (i + 1 + 1) ps ≡ whole
next_layer count i ps cover next whole below is so_far =
    let left : count - i ≡ suc (count - (i + 1)) = omega arith in
    ap (λ c. c ++ joined_layers (count - (i + 1)) (i + 1 + 1) ps) is
    ∙ (append_assoc cover (joined_layer (i + 1) 0 ps ∷ []) (joined_layers (count - (i + 1)) (i + 1 + 1) ps) ∙ (ap (λ m. cover ++ joined_layers m (i + 1) ps) (sym left) ∙ so_far))

pub last_layer_added : (count i : ℕ) (ps : List PartAnswer) (cover whole : List (List CoverRow)) → count ≤ i → cover ++ joined_layers (count - i) (i + 1) ps ≡ whole → cover ≡ whole
last_layer_added count i ps cover whole all so_far =
    let left : count - i ≡ 0 = omega arith in
    sym (append-nil cover) ∙ (ap (λ m. cover ++ joined_layers m (i + 1) ps) (sym left) ∙ so_far)

pub ruleset layer_steps = (next_layer, last_layer_added)

pub empty_added : (count i : ℕ) (cover next whole : List (List CoverRow)) → i < count → next ≡ cover ++ [] ∷ [] → cover ++ replicate (count - i) [] ≡ whole → next ++ replicate (count - (i + 1)) [] ≡ whole
empty_added count i cover next whole below is so_far =
    let left : count - i ≡ suc (count - (i + 1)) = omega arith in
    let none : List CoverRow = [] in
    ap (λ c. c ++ replicate (count - (i + 1)) []) is ∙ (append_assoc cover (none ∷ []) (replicate (count - (i + 1)) none) ∙ (ap (λ m. cover ++ replicate m none) (sym left) ∙ so_far))

pub empty_done : (count i : ℕ) (cover whole : List (List CoverRow)) → count ≤ i → cover ++ replicate (count - i) [] ≡ whole → cover ≡ whole
empty_done count i cover whole all so_far =
    let left : count - i ≡ 0 = omega arith in
    let none : List CoverRow = [] in
    sym (append-nil cover) ∙ (ap (λ m. cover ++ replicate m none) (sym left) ∙ so_far)

pub ruleset empty_steps = (empty_added, empty_done)
