-- One cell more of a fold, and its end.
use Rattle.std.proofs.Common.{◌≡◌, ℕ, ◌+◌, ◌<◌, ◌≤◌, ℤ, pos, List, length, get_or, drop, w64, sym, ap}
use Rattle.std.specs.Int.{rotate_left}
use Rattle.std.proofs.lemmas.List.{drop_more, drop_all}
use Rattle.dp_model.specs.Folds.{fold_of, folded, spread}

-- one cell more
pub fold_more : (so_far : ℕ) (row : List ℤ) (i : ℕ) → i < length row
    → fold_of (folded so_far (get_or row i (pos 0))) (drop (i + 1) row) ≡ fold_of so_far (drop i row)
unfolding fold_of
fold_more so_far row i more = sym (ap (fold_of so_far) (drop_more row i (pos 0) more))

-- no cell is left
pub fold_end : (so_far : ℕ) (row : List ℤ) (i : ℕ) → length row ≤ i → fold_of so_far (drop i row) ≡ rotate_left w64 (spread so_far) 32
unfolding fold_of
fold_end so_far row i done = ap (fold_of so_far) (drop_all i row done)
