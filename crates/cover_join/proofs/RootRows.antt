-- The root row of a cover, looked for row by row.
use Rattle.std.proofs.Common.{◌≡◌, ℕ, zero, suc, ◌+◌, ◌≤◌, Bool, true, false, ◌&&◌, List, [], ◌∷◌, length, drop, slice_get, ℤ, Option, Some, None, refl, sym, ap, ◌∙◌, arith}
use Rattle.std.specs.Prelude.{option_map, option_and_then, int_le, ◌+ℤ◌, ◌-ℤ◌}
use Rattle.std.proofs.lemmas.Int.{ints}
use Rattle.dp_model.specs.Dp.{Dp}
use Rattle.dp_model.specs.Rows.{row_same}
use Rattle.bound_cover.specs.declared.cover.CoverArc.{CoverArc}
use Rattle.bound_cover.specs.Covers.{CoverRow}
use Rattle.bound_cover.specs.Exploring.{layer_of, rest_of}
use Rattle.bound_cover.specs.Tests.{is_at_most}
use Rattle.cover_join.specs.Joined.{PartAnswer, is_root_row, root_row, root_arcs}

-- the test of a row whose bound and words are seen
pub root_seen : (dp : Dp) (best bound : Option ℤ) (words root : List ℤ) (rows : List CoverRow) (i : ℕ) (same within : Bool) → root ≡ dp.root → option_map (λ r. r.words) (slice_get rows i) ≡ Some words → option_map (λ r. r.bound) (slice_get rows i) ≡ Some bound
    → same ≡ row_same words root → within ≡ is_at_most bound (rest_of best dp.root_value) → option_map (is_root_row dp best) (slice_get rows i) ≡ Some (same && within)
root_seen dp best bound words root [] i same within r w b s n = absurd (cc)
root_seen dp best bound words root (row ∷ rows) zero same within r w b s n =
    let at_words : row.words ≡ words = cc in
    let at_bound : row.bound ≡ bound = cc in
    rw (at_words, at_bound, s, n, r) refl
root_seen dp best bound words root (row ∷ rows) (suc i) same within r w b s n = root_seen dp best bound words root rows i same within r w b s n

-- a sum is within a number where its first part is within what the second one leaves
pub within_rest : (bound value best : ℤ) → int_le (bound +ℤ value) best ≡ int_le bound (best -ℤ value)
within_rest bound value best =
    elim (int_le (bound +ℤ value) best) as (λ b. int_le (bound +ℤ value) best ≡ b → b ≡ int_le bound (best -ℤ value)) [
      | true ↦ λ e. sym (let is : int_le bound (best -ℤ value) ≡ true = grind (arith, ints) in is)
      | false ↦ λ e. sym (let is : int_le bound (best -ℤ value) ≡ false = grind (arith, ints) in is)
    ] refl

-- a row that is not the root is passed over
pub root_next : (dp : Dp) (best : Option ℤ) (rows : List CoverRow) (i : ℕ) → option_map (is_root_row dp best) (slice_get rows i) ≡ Some false → root_row dp best (drop i rows) ≡ root_row dp best (drop (i + 1) rows)
root_next dp best [] i other = absurd (cc)
root_next dp best (row ∷ rows) zero other = let no : is_root_row dp best row ≡ false = cc in rw no refl
root_next dp best (row ∷ rows) (suc i) other = let next : suc i + 1 ≡ suc (i + 1) = omega arith in rw next (root_next dp best rows i other)

found-here : (dp : Dp) (best : Option ℤ) (rows : List CoverRow) (i : ℕ) (arcs : Option (List CoverArc)) → option_map (is_root_row dp best) (slice_get rows i) ≡ Some true → option_map (λ r. r.arcs) (slice_get rows i) ≡ Some arcs
    → arcs ≡ option_and_then (λ (row : CoverRow). row.arcs) (root_row dp best (drop i rows))
found-here dp best [] i arcs here a = absurd (cc)
found-here dp best (row ∷ rows) zero arcs here a =
    let is : is_root_row dp best row ≡ true = cc in
    let at_arcs : row.arcs ≡ arcs = cc in
    rw is (sym at_arcs)
found-here dp best (row ∷ rows) (suc i) arcs here a = found-here dp best rows i arcs here a

-- the row that is the root is found, with its arcs
pub root_here : (dp : Dp) (p : PartAnswer) (i : ℕ) (arcs : Option (List CoverArc)) → option_map (is_root_row dp p.best) (slice_get (layer_of p.layers 0) i) ≡ Some true → option_map (λ r. r.arcs) (slice_get (layer_of p.layers 0) i) ≡ Some arcs
    → root_row dp p.best (drop i (layer_of p.layers 0)) ≡ root_row dp p.best (layer_of p.layers 0) → arcs ≡ root_arcs dp p
root_here dp p i arcs here a so_far = found-here dp p.best (layer_of p.layers 0) i arcs here a ∙ ap (λ found. option_and_then (λ (row : CoverRow). row.arcs) found) so_far

-- none is left
pub root_none : (dp : Dp) (best : Option ℤ) (rows : List CoverRow) (i : ℕ) → length rows ≤ i → root_row dp best (drop i rows) ≡ None
root_none dp best [] zero all = refl
root_none dp best [] (suc i) all = refl
root_none dp best (row ∷ rows) zero all = absurd (omega arith)
root_none dp best (row ∷ rows) (suc i) all = root_none dp best rows i (omega arith)

pub ruleset root_steps = (root_next, root_here, root_none)
