-- A search that begins with some start prefixes: what it keeps of the solutions that begin with them. A whole search begins with the empty
-- one alone.
use Rattle.std.specs.Prelude.{ℕ, ◌+◌, ℤ, Bool, cond, IsTrue, List, [], ◌∷◌, Option, ◌⊎◌}
use Rattle.dp_model.specs.Decisions.{begins}
use Rattle.dp_model.specs.Dp.{Dp}
use Rattle.dp_model.specs.Lists.{OneOf}
use Rattle.dp_model.specs.Numbers.{AtMost}
use Rattle.dp_model.specs.Prefixes.{IsSolution, IsMatched, value_of}

-- the start of a whole search
abbrev pub whole_search : List (List ℕ)
whole_search = [] ∷ []

-- the decisions begin with one of the start prefixes
abbrev pub BeginsWithOne : List (List ℕ) → List ℕ → Type 0
BeginsWithOne starts x = OneOf (λ (p : List ℕ). IsTrue (begins p x)) starts

-- each solution that begins with a start prefix is at most the incumbent or matched by a prefix of the list
abbrev pub CoversFrom : Dp → List (List ℕ) → Option ℤ → List (List ℕ) → Type 0
CoversFrom dp starts inc P = (x : List ℕ) → IsSolution dp x → BeginsWithOne starts x → AtMost (value_of dp x) inc ⊎ OneOf (IsMatched dp x) P

-- those of a list whose places pass a test, in order; the first one's place is i
abbrev pub chosen : {X : Type 0} → (ℕ → Bool) → ℕ → List X → List X
chosen p i [] = []
chosen p i (x ∷ xs) = cond (p i) (x ∷ chosen p (i + 1) xs) (chosen p (i + 1) xs)
