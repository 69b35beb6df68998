-- The rows of the layers of a diagram that is under way.
use Rattle.std.proofs.Common.{◌≡◌, ℕ, zero, suc, ◌+◌, ◌-◌, ◌<◌, ◌≤◌, ℤ, Bool, true, false, cond, ◌&&◌, List, [], ◌∷◌, ◌++◌, length, map, take, slice_get, Option, Some, None, unwrap_or, refl, sym, ◌∙◌, ap, arith}
use Rattle.std.proofs.lemmas.List.{length-map, length-take-le}
use Rattle.std.specs.Prelude.{option_map, option_and_then, is_none}
use Rattle.dp_model.specs.Dp.{Dp}
use Rattle.dp_model.specs.Lists.{Each}
use Rattle.dp_laws.specs.Diagrams.Nodes.{DdNode, DdLayers}
use Rattle.dp_laws.specs.Rules.Expanding.{new_layer}
use Rattle.dp_laws.specs.Rules.Pruning.{prune_redirects}
use Rattle.dp_laws.specs.Rules.Reducing.{merge_redirects}
use Rattle.dp_laws.specs.Rules.Compiling.{TwoLayers, expand, prune, merge_rest, is_wide, built, first_of_layers, with_suffixes}
use Rattle.dp_laws.proofs.Rules.Expanded.{with_arcs_of}
use Rattle.dp_laws.proofs.Rules.Redirecting.{followed_node}
use Rattle.layer_build.specs.Ended.{ended}
use Rattle.layer_build.specs.Layers.{last_layer, expand_last, reduced_first}
use Rattle.layer_build.specs.UnderWay.{last_two}
use Rattle.relaxed_dd.specs.Cut.{CutView, rows_of}
use Rattle.relaxed_dd.specs.Lean.{HoldsCut}
use Rattle.relaxed_dd.proofs.Lasts.{nth, length-expand, last-at}

-- ---- one row after another

pub node-in : (o : Option (List DdNode)) (i : ℕ) → option_and_then (λ (l : List DdNode). slice_get l i) o ≡ slice_get (unwrap_or o []) i
node-in None i = refl
node-in (Some l) i = refl

pub rows-next : (layer : List DdNode) (i : ℕ) (r : List ℤ) → option_map (λ (n : DdNode). n.row) (slice_get layer i) ≡ Some r → take (suc i) (rows_of layer) ≡ take i (rows_of layer) ++ r ∷ []
rows-next [] i r e = absurd (let no : true ≡ false = ap is_none e in cc)
rows-next (x ∷ layer) zero r e = ap (λ (o : Option (List ℤ)). unwrap_or o [] ∷ []) e
rows-next (x ∷ layer) (suc i) r e = ap (λ rows. x.row ∷ rows) (rows-next layer i r e)

pub row-long : (words : ℕ) (layer : List DdNode) (i : ℕ) (r : List ℤ) → Each (λ (node : DdNode). length node.row ≡ words) layer → option_map (λ (n : DdNode). n.row) (slice_get layer i) ≡ Some r → length r ≡ words
row-long words [] i r h e = absurd (let no : true ≡ false = ap is_none e in cc)
row-long words (x ∷ layer) zero r h e = ap (λ (o : Option (List ℤ)). length (unwrap_or o [])) (sym e) ∙ h.0
row-long words (x ∷ layer) (suc i) r h e = row-long words layer i r h.1 e

pub few-rows : (layer : List DdNode) (i : ℕ) → i ≤ length layer → length (take i (rows_of layer)) ≡ i
few-rows layer i low = length-take-le i (rows_of layer) (let long = length-map layer (λ (node : DdNode). node.row) in omega arith)

-- ---- rules that keep the rows of the layer above

abbrev pub RowsStay : (List DdNode → TwoLayers) → Type 0
RowsStay rule = (l : List DdNode) → rows_of (rule l).above ≡ rows_of l

map-rows : (f : DdNode → DdNode) → ((x : DdNode) → (f x).row ≡ x.row) → (layer : List DdNode) → rows_of (map f layer) ≡ rows_of layer
map-rows f same [] = refl
map-rows f same (x ∷ layer) = ap (λ r. r ∷ rows_of (map f layer)) (same x) ∙ ap (λ rows. x.row ∷ rows) (map-rows f same layer)

pub pruned-stays : (dp : Dp) (t : Option ℤ) (k : ℕ) → RowsStay (λ l. prune dp (k + 1) t (expand dp k l))
pruned-stays dp t k layer =
    let next = new_layer dp k layer in
    map-rows (followed_node (prune_redirects dp (k + 1) t [] 0 next)) (λ x. refl) (expand dp k layer).above ∙ map-rows (with_arcs_of dp k next) (λ x. refl) layer

pub built-stays : (dp : Dp) (first w : ℕ) (t : Option ℤ) (k : ℕ) → RowsStay (built dp first w t k)
built-stays dp first w t k layer =
    let two = prune dp (k + 1) t (expand dp k layer) in
    elim (is_wide dp first w (k + 1) two.next) as (λ v. rows_of (cond v (merge_rest dp (k + 1) w two) two).above ≡ rows_of layer) [
      | true ↦ map-rows (followed_node (merge_redirects dp (k + 1) w two.next)) (λ x. refl) two.above ∙ pruned-stays dp t k layer
      | false ↦ pruned-stays dp t k layer
    ]

pub expand-rows : (rule : List DdNode → TwoLayers) → RowsStay rule → (ls : List (List DdNode)) (i : ℕ) → i < length ls → rows_of (nth (expand_last rule ls) i) ≡ rows_of (nth ls i)
expand-rows rule stay [] i less = absurd (omega arith)
expand-rows rule stay (l ∷ []) zero less = stay l
expand-rows rule stay (l ∷ []) (suc i) less = absurd (omega arith)
expand-rows rule stay (l ∷ n ∷ rest) zero less = refl
expand-rows rule stay (l ∷ n ∷ rest) (suc i) less = expand-rows rule stay (n ∷ rest) i (omega arith)

-- the layer that was the last one has its rows
pub rows-above-new : (rule : List DdNode → TwoLayers) → RowsStay rule → (ls : List (List DdNode)) (i : ℕ) → 0 < length ls → i ≡ length ls - 1 → rows_of (nth (expand_last rule ls) i) ≡ rows_of (last_layer ls)
rows-above-new rule stay ls i some at = expand-rows rule stay ls i (omega arith) ∙ (ap (λ j. rows_of (nth ls j)) at ∙ ap rows_of (last-at ls some))

-- suffixes change no row
pub suffix-rows : (dp : Dp) (k i : ℕ) (ls : List (List DdNode)) → rows_of (nth (with_suffixes dp k ls) i) ≡ rows_of (nth ls i)
suffix-rows dp k i [] = refl
suffix-rows dp k zero (layer ∷ rest) = map-rows (ended dp k (first_of_layers (with_suffixes dp (k + 1) rest))) (λ x. refl) layer
suffix-rows dp k (suc i) (layer ∷ rest) = suffix-rows dp (k + 1) i rest

-- the layer above the last one
pub two-at : (ls : List (List DdNode)) (i : ℕ) → 2 ≤ length ls → i + 2 ≡ length ls → nth ls i ≡ (last_two ls).above
two-at [] i some at = absurd (omega arith)
two-at (l ∷ []) i some at = absurd (omega arith)
two-at (l ∷ n ∷ []) zero some at = refl
two-at (l ∷ n ∷ []) (suc i) some at = absurd (omega arith)
two-at (l ∷ n ∷ m ∷ rest) zero some at = absurd (omega arith)
two-at (l ∷ n ∷ m ∷ rest) (suc i) some at = two-at (n ∷ m ∷ rest) i (omega arith) (omega arith)

-- ---- the kept rows

abbrev pub layers_so_far : ℕ → List (List DdNode) → Option ℕ → DdLayers
layers_so_far first ls reduced = record { first = first; layers = ls; first_reduced = reduced }

-- one layer more, which is the first reduced one or not
pub cut-grows : (first : ℕ) (ls : List (List DdNode)) (rule : List DdNode → TwoLayers) → RowsStay rule → 0 < length ls → (rows : List (List ℤ)) → rows ≡ rows_of (last_layer ls) → (c : CutView) (o : Option ℕ) (b : Bool) → HoldsCut (layers_so_far first ls o) c
    → HoldsCut (layers_so_far first (expand_last rule ls) (cond b (reduced_first o (first + (length ls - 1) + 1)) o)) (cond (is_none o && b) (record c { rows = rows }) c)
cut-grows first ls rule stay some rows is c (Some depth) true h reduced e =
    let here = h reduced e in
    record { low = (let a = here.low in let long = length-expand rule ls some in omega arith); rows = here.rows ∙ sym (expand-rows rule stay ls (reduced - 1 - first) here.low) }
cut-grows first ls rule stay some rows is c (Some depth) false h reduced e =
    let here = h reduced e in
    record { low = (let a = here.low in let long = length-expand rule ls some in omega arith); rows = here.rows ∙ sym (expand-rows rule stay ls (reduced - 1 - first) here.low) }
cut-grows first ls rule stay some rows is c None true h reduced e =
    let at : first + (length ls - 1) + 1 ≡ reduced = ap (λ (o : Option ℕ). unwrap_or o 0) e in
    let long = length-expand rule ls some in
    record { low = omega arith; rows = is ∙ sym (rows-above-new rule stay ls (reduced - 1 - first) some (omega arith)) }
cut-grows first ls rule stay some rows is c None false h reduced e = absurd (let no : true ≡ false = ap is_none e in cc)
