-- A state is the capacity that is left, and covers each that has no more left.
use Rattle.std.proofs.Common.{◌≡◌, ℕ, ◌≤◌, ℤ, pos, Bool, true, cond, List, [], ◌∷◌, Option, Some, None, refl, ap, arith, leb}
use Rattle.std.proofs.lemmas.Bool.{leb-true, le-leb}
use Rattle.std.proofs.lemmas.Bool.Decides.{nat_tests}
use Rattle.knapsack.specs.Program.{left, is_left}

-- a row that is a state is the capacity that it has left
pub record IsLeft (capacity : ℕ) (s : List ℤ) : Type 0 where
  pub row : s ≡ pos (left s) ∷ []
  pub within : left s ≤ capacity

pub is_left-is : (capacity : ℕ) (s : List ℤ) → is_left capacity s ≡ true → IsLeft capacity s
is_left-is capacity (pos r ∷ []) h = record { row = refl; within = leb-true _ _ h }
is_left-is capacity _ h = absurd (grind arith)

pub is_left-from : (capacity r : ℕ) → r ≤ capacity → is_left capacity (pos r ∷ []) ≡ true
is_left-from capacity r h = le-leb _ _ h

-- a gap is there exactly where no less is left, and it is 0
pub record IsGap (r q : ℕ) (g : ℤ) : Type 0 where
  pub more : q ≤ r
  pub zero : g ≡ pos 0

pub gap-is : (r q : ℕ) (g : ℤ) → cond (leb q r) (Some (pos 0)) None ≡ Some g → IsGap r q g
gap-is r q g h = record { more = grind (arith, nat_tests); zero = grind (arith, nat_tests) }

pub gap-from : (r q : ℕ) → q ≤ r → cond (leb q r) (Some (pos 0)) None ≡ Some (pos 0)
gap-from r q h = ap (λ (b : Bool). let o : Option ℤ = cond b (Some (pos 0)) None in o) (le-leb _ _ h)
