-- How a test of each member of a list goes on to the next.
use Rattle.std.proofs.Common.{◌≡◌, ℕ, ◌+◌, ◌<◌, ◌≤◌, Bool, true, false, ◌&&◌, List, [], ◌∷◌, map, length, drop, get_or, refl, ap, ◌∙◌}
use Rattle.std.specs.List.{list_all}
use Rattle.std.proofs.lemmas.List.{drop_more, drop_all}

-- those that are left pass, as others see them
abbrev pub rest_pass : {X Y : Type 0} → (Y → Bool) → (X → Y) → List X → ℕ → Bool
rest_pass test f xs i = list_all test (map f (drop i xs))

module _ {X Y : Type 0} (test : Y → Bool) (f : X → Y) (xs : List X) (i : ℕ) where
  pub pass_next : (x : X) → i < length xs → test (f (get_or xs i x)) ≡ true → rest_pass test f xs i ≡ rest_pass test f xs (i + 1)
  pass_next x below e = ap (λ (l : List X). list_all test (map f l)) (drop_more xs i x below) ∙ ap (λ (b : Bool). b && rest_pass test f xs (i + 1)) e

  pub pass_not : (x : X) → i < length xs → test (f (get_or xs i x)) ≡ false → rest_pass test f xs i ≡ false
  pass_not x below e = ap (λ (l : List X). list_all test (map f l)) (drop_more xs i x below) ∙ ap (λ (b : Bool). b && rest_pass test f xs (i + 1)) e

  pub pass_end : length xs ≤ i → rest_pass test f xs i ≡ true
  pass_end past = ap (λ (l : List X). list_all test (map f l)) (drop_all i xs past)

module _ {X : Type 0} (test : X → Bool) (xs : List X) (i : ℕ) where
  pub all_next : (x : X) → i < length xs → test (get_or xs i x) ≡ true → list_all test (drop i xs) ≡ list_all test (drop (i + 1) xs)
  all_next x below e = ap (list_all test) (drop_more xs i x below) ∙ ap (λ (b : Bool). b && list_all test (drop (i + 1) xs)) e

  pub all_not : (x : X) → i < length xs → test (get_or xs i x) ≡ false → list_all test (drop i xs) ≡ false
  all_not x below e = ap (list_all test) (drop_more xs i x below) ∙ ap (λ (b : Bool). b && list_all test (drop (i + 1) xs)) e
