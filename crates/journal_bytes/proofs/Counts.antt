-- The sizes of lists that are counted one by one.
use Rattle.std.proofs.Common.{◌≡◌, ℕ, ◌+◌, ◌<◌, List, [], ◌∷◌, length, map, take, get_or, ap, ◌∙◌}
use Rattle.std.specs.Prelude.{sum_by}
use Rattle.std.proofs.lemmas.List.{map-append, take_more}
use Rattle.std.proofs.lemmas.List.Sums.{sum_by_push}

-- the size of one more of a list
pub size_more : {X Y : Type 0} (view : X → Y) (size : Y → ℕ) (xs : List X) (i : ℕ) (d : X) → i < length xs → sum_by size (map view (take (i + 1) xs)) ≡ sum_by size (map view (take i xs)) + size (view (get_or xs i d))
size_more {X} view size xs i d lt =
    ap (λ (l : List X). sum_by size (map view l)) (take_more xs i d lt) ∙ ap (sum_by size) (map-append view (take i xs) (get_or xs i d ∷ [])) ∙ sum_by_push size (map view (take i xs)) (view (get_or xs i d))
