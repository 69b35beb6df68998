-- Whether each number of a row is zero.
use Rattle.std.proofs.Common.{◌≡◌, ℕ, ◌+◌, ◌<◌, ◌≤◌, ℤ, pos, Bool, true, List, length, drop, get_or, refl, ap, sym, ◌∙◌, to_z, of_z, w64}
use Rattle.std.specs.Prelude.{◌&&◌}
use Rattle.std.proofs.lemmas.Int.{to_z-of_z}
use mir.Val.{SFits}
use Rattle.std.proofs.lemmas.List.{drop_more, drop_all}
use Rattle.pair_rows.specs.Program.{all_zero, is_within}

pub all_zero-more : (row : List ℤ) (i : ℕ) (answer : Bool) → i < length row → SFits w64 (get_or row i (pos 0)) → answer ≡ is_within (to_z w64 (of_z w64 (get_or row i (pos 0)))) (pos 0) →
    all_zero (drop i row) ≡ all_zero row → all_zero row ≡ (answer && all_zero (drop (i + 1) row))
all_zero-more row i answer h fits is before =
    let here : answer ≡ is_within (get_or row i (pos 0)) (pos 0) = rw (to_z-of_z w64 (get_or row i (pos 0)) fits) at is in
    rw here (sym before ∙ rw (drop_more row i (pos 0) h) refl)

pub all_zero-done : (row : List ℤ) (i : ℕ) → length row ≤ i → all_zero (drop i row) ≡ all_zero row → true ≡ all_zero row
all_zero-done row i h before = ap all_zero (sym (drop_all i row h)) ∙ before
