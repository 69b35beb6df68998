-- Lists of decisions.
use Rattle.std.specs.Prelude.{ℕ, zero, suc, Bool, true, false, ◌&&◌, nat_eq, List, [], ◌∷◌, ◌++◌}

-- the numbers below n, in order
abbrev pub below : ℕ → List ℕ
below zero = []
below (suc n) = below n ++ n ∷ []

-- whether the second list begins with the first
abbrev pub begins : List ℕ → List ℕ → Bool
begins [] x = true
begins (d ∷ p) [] = false
begins (d ∷ p) (e ∷ x) = nat_eq d e && begins p x
