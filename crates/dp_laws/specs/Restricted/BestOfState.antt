-- Which candidates a layer keeps.
use Rattle.std.specs.Prelude.{◌≡◌, ℕ, ◌<ℤ◌, ◌≤ℤ◌, List, ◌∷◌, ◌++◌, []}
use Rattle.dp_model.specs.Dp.{Dp}
use Rattle.dp_model.specs.Lists.{Each, OneOf}
use Rattle.dp_model.specs.Reached.{Reached}
use Rattle.dp_laws.specs.Restricted.Extensions.{all_joined}
use Rattle.dp_laws.specs.Restricted.Ordered.{IsInOrder}
use Rattle.dp_laws.specs.Restricted.ReductionOrder.{in_order}

-- of the candidates with its row it is the first of greatest value: those before it have less, those after it no more
pub record IsBestOfState (cs : List Reached) (r : Reached) : Type 0 where
  pub before : List Reached
  pub after : List Reached
  pub split : cs ≡ before ++ r ∷ after
  pub earlier : Each (λ c. c.row ≡ r.row → c.value <ℤ r.value) before
  pub later : Each (λ c. c.row ≡ r.row → c.value ≤ℤ r.value) after

-- the list has the best candidate of each state
pub record HasBest (cs rs : List Reached) : Type 0 where
  pub best : Each (IsBestOfState cs) rs
  pub all : Each (λ c. OneOf (λ r. r.row ≡ c.row) rs) cs

-- the list has the best candidate of each state, and stands in the reduction order
pub record IsExpansion (dp : Dp) (k : ℕ) (cs rs : List Reached) : Type 0 where
  pub has : HasBest cs rs
  pub order : IsInOrder dp k rs

-- the candidates joined and put in order have the best of each state, in order, and no other list has
pub record ExpansionsAreUnique (dp : Dp) : Type 0 where
  pub is : (k : ℕ) (cs : List Reached) → IsExpansion dp k cs (in_order dp k (all_joined [] cs))
  pub only : (k : ℕ) (cs rs : List Reached) → IsExpansion dp k cs rs → rs ≡ in_order dp k (all_joined [] cs)
