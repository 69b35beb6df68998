-- A list that is made entry by entry of another one.
use Rattle.std.proofs.Common.{◌≡◌, ℕ, ◌+◌, ◌<◌, ◌≤◌, List, [], ◌∷◌, ◌++◌, length, drop, map, get_or, ap, sym, ◌∙◌, append_assoc, append-nil}
use Rattle.std.proofs.lemmas.List.{drop_more, drop_all}

pub map-more : {X Y : Type 0} (f : X → Y) (none : X) (xs : List X) (i : ℕ) (made : List Y) (cell : Y) → i < length xs → cell ≡ f (get_or xs i none)
    → made ++ map f (drop i xs) ≡ map f xs → (made ++ cell ∷ []) ++ map f (drop (i + 1) xs) ≡ map f xs
map-more f none xs i made cell h is before =
    let cut : map f (drop i xs) ≡ f (get_or xs i none) ∷ map f (drop (i + 1) xs) = ap (map f) (drop_more xs i none h) in
    append_assoc made (cell ∷ []) (map f (drop (i + 1) xs)) ∙ rw is (rw cut at before)

pub map-done : {X Y : Type 0} (f : X → Y) (xs : List X) (i : ℕ) (made : List Y) → length xs ≤ i → made ++ map f (drop i xs) ≡ map f xs → made ≡ map f xs
map-done f xs i made h before = let none : drop i xs ≡ [] = drop_all i xs h in sym (append-nil made) ∙ rw none at before
