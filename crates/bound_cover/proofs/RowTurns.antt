-- The turns over the rows of a layer.
use Rattle.std.proofs.Common.{◌≡◌, ℕ, zero, suc, ◌+◌, ◌<◌, length, ℤ, Bool, true, false, ◌&&◌, ◌||◌, List, [], ◌∷◌, drop, slice_get, Option, Some, None, option_map, refl, sym, ◌∙◌, ap, subst, arith}
use Rattle.std.specs.Option.{is_some}
use Rattle.std.specs.Prelude.{IfSome}
use Rattle.std.proofs.lemmas.Bool.{and_parts}
use Rattle.dp_model.specs.Dp.{Dp}
use Rattle.dp_laws.proofs.Diagrams.Places.{same-Some}
use Rattle.bound_cover.specs.declared.storing.RowRef.{RowRef}
use Rattle.bound_cover.specs.declared.cover.Why.{Why}
use Rattle.bound_cover.specs.Covers.{CoverRow}
use Rattle.bound_cover.specs.Stored.{shown_row}
use Rattle.bound_cover.specs.Tests.{first_of, row_fault, is_state_row, are_states}
use Rattle.bound_cover.specs.Verdicts.{first_layer, rows_fault, layers_fault, root_test, has_root}
use Rattle.bound_cover.specs.Exploring.{layer_of}

next-row : (rows : List CoverRow) (i : ℕ) (r : CoverRow) → slice_get rows i ≡ Some r → drop i rows ≡ r ∷ drop (suc i) rows
next-row [] i r e = absurd (let none : None ≡ Some r = e in cc)
next-row (x ∷ rows) zero r e = ap (λ y. y ∷ rows) (same-Some x r e)
next-row (x ∷ rows) (suc i) r e = next-row rows i r e

first-some : (a b : Option Why) → true ≡ is_some a → a ≡ first_of a b
first-some None b h = absurd (let clash : true ≡ false = h in cc)
first-some (Some why) b h = refl

first-rest : (a b : Option Why) → false ≡ is_some a → first_of a b ≡ b
first-rest None b h = refl
first-rest (Some why) b h = absurd (let clash : false ≡ true = h in cc)

shown-at : (rows : List CoverRow) (i : ℕ) (o : Option RowRef) (row : RowRef) → option_map shown_row o ≡ slice_get rows i → o ≡ Some row → slice_get rows i ≡ Some (shown_row row)
shown-at rows i o row shown is = sym shown ∙ ap (option_map shown_row) is

opened : (dp : Dp) (k i : ℕ) (next rows : List CoverRow) (r : CoverRow) → slice_get rows i ≡ Some r → rows_fault dp k next i (drop i rows) ≡ first_of (row_fault dp k i next r) (rows_fault dp k next (i + 1) (drop (i + 1) rows))
opened dp k i next rows r at =
    let up : suc i ≡ i + 1 = omega arith in
    ap (rows_fault dp k next i) (next-row rows i r at) ∙ ap (λ n. first_of (row_fault dp k i next r) (rows_fault dp k next (i + 1) (drop n rows))) up

pub row-fails : (dp : Dp) (k i : ℕ) (next rows : List CoverRow) (o : Option RowRef) (row : RowRef) (why : Option Why) → rows_fault dp k next i (drop i rows) ≡ rows_fault dp k next 0 rows → option_map shown_row o ≡ slice_get rows i → o ≡ Some row
    → why ≡ row_fault dp k i next (shown_row row) → true ≡ is_some why → why ≡ rows_fault dp k next 0 rows
row-fails dp k i next rows o row why so_far shown is its some =
    let open' = opened dp k i next rows (shown_row row) (shown-at rows i o row shown is) in
    first-some why (rows_fault dp k next (i + 1) (drop (i + 1) rows)) some ∙ (ap (λ a. first_of a (rows_fault dp k next (i + 1) (drop (i + 1) rows))) its ∙ (sym open' ∙ so_far))

pub row-passes : (dp : Dp) (k i : ℕ) (next rows : List CoverRow) (o : Option RowRef) (row : RowRef) (why : Option Why) → rows_fault dp k next i (drop i rows) ≡ rows_fault dp k next 0 rows → option_map shown_row o ≡ slice_get rows i → o ≡ Some row
    → why ≡ row_fault dp k i next (shown_row row) → false ≡ is_some why → rows_fault dp k next (i + 1) (drop (i + 1) rows) ≡ rows_fault dp k next 0 rows
row-passes dp k i next rows o row why so_far shown is its none =
    let open' = opened dp k i next rows (shown_row row) (shown-at rows i o row shown is) in
    let rest = first-rest why (rows_fault dp k next (i + 1) (drop (i + 1) rows)) none in
    sym rest ∙ (ap (λ a. first_of a (rows_fault dp k next (i + 1) (drop (i + 1) rows))) its ∙ (sym open' ∙ so_far))

-- ---- the layers

next-layer : (cover : List (List CoverRow)) (k : ℕ) → k < length cover → drop k cover ≡ layer_of cover k ∷ drop (suc k) cover
next-layer [] k h = absurd (omega arith)
next-layer (layer ∷ cover) zero h = refl
next-layer (layer ∷ cover) (suc k) h = next-layer cover k (omega arith)

first-following : (cover : List (List CoverRow)) (k : ℕ) → first_layer (drop k cover) ≡ layer_of cover k
first-following [] zero = refl
first-following [] (suc k) = refl
first-following (layer ∷ cover) zero = refl
first-following (layer ∷ cover) (suc k) = first-following cover k

open-layer : (dp : Dp) (k : ℕ) (cover : List (List CoverRow)) → k < length cover → layers_fault dp k (drop k cover) ≡ first_of (rows_fault dp k (layer_of cover (k + 1)) 0 (layer_of cover k)) (layers_fault dp (k + 1) (drop (k + 1) cover))
open-layer dp k cover inside =
    let up : suc k ≡ k + 1 = omega arith in
    ap (layers_fault dp k) (next-layer cover k inside)
    ∙ (ap (λ n. first_of (rows_fault dp k (first_layer (drop n cover)) 0 (layer_of cover k)) (layers_fault dp (k + 1) (drop n cover))) up
    ∙ ap (λ l. first_of (rows_fault dp k l 0 (layer_of cover k)) (layers_fault dp (k + 1) (drop (k + 1) cover))) (first-following cover (k + 1)))

pub layer-fails : (dp : Dp) (k n : ℕ) (cover : List (List CoverRow)) (why : Option Why) → layers_fault dp k (drop k cover) ≡ layers_fault dp 0 cover → k < n → n ≡ length cover
    → why ≡ rows_fault dp k (layer_of cover (k + 1)) 0 (layer_of cover k) → true ≡ is_some why → why ≡ layers_fault dp 0 cover
layer-fails dp k n cover why so_far less many its some =
    let open' = open-layer dp k cover (subst (λ x. k < x) many less) in
    first-some why (layers_fault dp (k + 1) (drop (k + 1) cover)) some ∙ (ap (λ a. first_of a (layers_fault dp (k + 1) (drop (k + 1) cover))) its ∙ (sym open' ∙ so_far))

pub layer-passes : (dp : Dp) (k n : ℕ) (cover : List (List CoverRow)) (why : Option Why) → layers_fault dp k (drop k cover) ≡ layers_fault dp 0 cover → k < n → n ≡ length cover
    → why ≡ rows_fault dp k (layer_of cover (k + 1)) 0 (layer_of cover k) → false ≡ is_some why → layers_fault dp (k + 1) (drop (k + 1) cover) ≡ layers_fault dp 0 cover
layer-passes dp k n cover why so_far less many its none =
    let open' = open-layer dp k cover (subst (λ x. k < x) many less) in
    sym (first-rest why (layers_fault dp (k + 1) (drop (k + 1) cover)) none) ∙ (ap (λ a. first_of a (layers_fault dp (k + 1) (drop (k + 1) cover))) its ∙ (sym open' ∙ so_far))

-- ---- the root

open-root : (dp : Dp) (claim : Option ℤ) (i : ℕ) (rows : List CoverRow) (r : CoverRow) → slice_get rows i ≡ Some r → has_root dp claim (drop i rows) ≡ (root_test dp claim r || has_root dp claim (drop (i + 1) rows))
open-root dp claim i rows r at =
    let up : suc i ≡ i + 1 = omega arith in
    ap (has_root dp claim) (next-row rows i r at) ∙ ap (λ n. root_test dp claim r || has_root dp claim (drop n rows)) up

pub root-found : (dp : Dp) (claim : Option ℤ) (i : ℕ) (rows : List CoverRow) (o : Option RowRef) (row : RowRef) (test : Bool) → has_root dp claim (drop i rows) ≡ has_root dp claim rows → option_map shown_row o ≡ slice_get rows i → o ≡ Some row
    → test ≡ root_test dp claim (shown_row row) → test ≡ true → true ≡ has_root dp claim rows
root-found dp claim i rows o row test so_far shown is its holds =
    let open' = open-root dp claim i rows (shown_row row) (shown-at rows i o row shown is) in
    ap (λ b. b || has_root dp claim (drop (i + 1) rows)) (sym holds ∙ its) ∙ (sym open' ∙ so_far)

pub root-not-yet : (dp : Dp) (claim : Option ℤ) (i : ℕ) (rows : List CoverRow) (o : Option RowRef) (row : RowRef) (test : Bool) → has_root dp claim (drop i rows) ≡ has_root dp claim rows → option_map shown_row o ≡ slice_get rows i → o ≡ Some row
    → test ≡ root_test dp claim (shown_row row) → test ≡ false → has_root dp claim (drop (i + 1) rows) ≡ has_root dp claim rows
root-not-yet dp claim i rows o row test so_far shown is its fails =
    let open' = open-root dp claim i rows (shown_row row) (shown-at rows i o row shown is) in
    ap (λ b. b || has_root dp claim (drop (i + 1) rows)) (sym fails ∙ its) ∙ (sym open' ∙ so_far)

-- ---- the states

open-states : (dp : Dp) (k i : ℕ) (rows : List CoverRow) (r : CoverRow) → slice_get rows i ≡ Some r → are_states dp k (drop i rows) ≡ (is_state_row dp k r.words && are_states dp k (drop (i + 1) rows))
open-states dp k i rows r at =
    let up : suc i ≡ i + 1 = omega arith in
    ap (are_states dp k) (next-row rows i r at) ∙ ap (λ n. is_state_row dp k r.words && are_states dp k (drop n rows)) up

pub state-missing : (dp : Dp) (k i : ℕ) (rows : List CoverRow) (o : Option RowRef) (row : RowRef) (test : Bool) → are_states dp k (drop i rows) ≡ are_states dp k rows → option_map shown_row o ≡ slice_get rows i → o ≡ Some row
    → test ≡ is_state_row dp k row.words.now → test ≡ false → false ≡ are_states dp k rows
state-missing dp k i rows o row test so_far shown is its fails =
    let open' = open-states dp k i rows (shown_row row) (shown-at rows i o row shown is) in
    ap (λ b. b && are_states dp k (drop (i + 1) rows)) (sym fails ∙ its) ∙ (sym open' ∙ so_far)

pub states-so-far : (dp : Dp) (k i : ℕ) (rows : List CoverRow) (o : Option RowRef) (row : RowRef) (test : Bool) → are_states dp k (drop i rows) ≡ are_states dp k rows → option_map shown_row o ≡ slice_get rows i → o ≡ Some row
    → test ≡ is_state_row dp k row.words.now → test ≡ true → are_states dp k (drop (i + 1) rows) ≡ are_states dp k rows
states-so-far dp k i rows o row test so_far shown is its holds =
    let open' = open-states dp k i rows (shown_row row) (shown-at rows i o row shown is) in
    ap (λ b. b && are_states dp k (drop (i + 1) rows)) (sym holds ∙ its) ∙ (sym open' ∙ so_far)

state-found : (dp : Dp) (k i : ℕ) (rows : List CoverRow) (r : CoverRow) → are_states dp k rows ≡ true → slice_get rows i ≡ Some r → is_state_row dp k r.words ≡ true
state-found dp k i [] r all at = absurd (let none : None ≡ Some r = at in cc)
state-found dp k zero (x ∷ rows) r all at = ap (λ (y : CoverRow). is_state_row dp k y.words) (sym (same-Some x r at)) ∙ (and_parts (is_state_row dp k x.words) (are_states dp k rows) all).0
state-found dp k (suc i) (x ∷ rows) r all at = state-found dp k i rows r (and_parts (is_state_row dp k x.words) (are_states dp k rows) all).1 at

-- each row of a layer of states is one
pub state-at : (dp : Dp) (k i : ℕ) (rows : List CoverRow) (o : Option RowRef) (known : Bool) → (known ≡ true → are_states dp k rows ≡ true) → option_map shown_row o ≡ slice_get rows i → IfSome o (λ r. known ≡ true → is_state_row dp k r.words.now ≡ true)
state-at dp k i rows None known all shown = tt
state-at dp k i rows (Some row) known all shown = λ h. state-found dp k i rows (shown_row row) (all h) (sym shown)
