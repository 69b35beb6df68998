-- The best value of a problem, joined from what is known of its parts.
use Rattle.std.specs.Prelude.{◌≡◌, ℕ, ◌+◌, ℤ, int_le, Bool, ◌&&◌, IsTrue, cond, List, [], ◌∷◌, map, Option, Some, None, ◌⊎◌}
use Rattle.dp_model.specs.Dp.{Dp}
use Rattle.dp_model.specs.Decisions.{begins}
use Rattle.dp_model.specs.Lists.{OneOf}
use Rattle.dp_model.specs.Numbers.{AtMost}
use Rattle.board_laws.specs.Board.{reach_of}
use Rattle.bound_cover.specs.Tests.{is_at_most}
use Rattle.dp_model.specs.Prefixes.{IsSolution, IsCompletion, value_of}

-- what is known of a start prefix: the greatest value that was found for it, or none
pub record Settled : Type 0 where
  pub prefix : List ℕ
  pub best : Option ℤ

-- where there is a value, a feasible solution has it
pub record HasValue (dp : Dp) (v : ℤ) : Type 0 where
  pub by : List ℕ
  pub solution : IsSolution dp by
  pub value : value_of dp by ≡ v

abbrev pub IsShown : Dp → Option ℤ → Type 0
IsShown dp None = Unit {0}
IsShown dp (Some v) = HasValue dp v

-- the value is shown, and each completion is at most it or at most the incumbent
pub record IsSettled (dp : Dp) (inc : Option ℤ) (part : Settled) : Type 0 where
  pub shown : IsShown dp part.best
  pub held : (x : List ℕ) → IsCompletion dp part.prefix x → AtMost (value_of dp x) part.best ⊎ AtMost (value_of dp x) inc

-- the value is shown, and no completion is further above it, or further above the incumbent, than the distance
pub record IsSettledWithin (dp : Dp) (within : ℤ) (inc : Option ℤ) (part : Settled) : Type 0 where
  pub shown : IsShown dp part.best
  pub held : (x : List ℕ) → IsCompletion dp part.prefix x → AtMost (value_of dp x) (reach_of within part.best) ⊎ AtMost (value_of dp x) (reach_of within inc)

-- each feasible solution is at most the incumbent or begins with one of the prefixes
abbrev pub DealsOut : Dp → Option ℤ → List (List ℕ) → Type 0
DealsOut dp inc P = (x : List ℕ) → IsSolution dp x → AtMost (value_of dp x) inc ⊎ OneOf (λ (p : List ℕ). IsTrue (begins p x)) P

-- the greater of two options, where none is less than every number
abbrev pub better : Option ℤ → Option ℤ → Option ℤ
better None b = b
better (Some a) None = Some a
better (Some a) (Some b) = cond (int_le a b) (Some b) (Some a)

-- the greatest of an incumbent and of values
abbrev pub joined : Option ℤ → List (Option ℤ) → Option ℤ
joined inc [] = inc
joined inc (value ∷ more) = joined (better inc value) more

-- whether both are the same number, or both are none
abbrev pub is_same : Option ℤ → Option ℤ → Bool
is_same a b = is_at_most a b && is_at_most b a

-- the first place of a value in a list that begins with the place i
abbrev pub place_from : Option ℤ → ℕ → List (Option ℤ) → Option ℕ
place_from value i [] = None
place_from value i (first ∷ more) = cond (is_same first value) (Some i) (place_from value (i + 1) more)

-- the first place of the joined value; none where the incumbent has it
abbrev pub joined_place : Option ℤ → List (Option ℤ) → Option ℕ
joined_place inc all = cond (is_same inc (joined inc all)) None (place_from (joined inc all) 0 all)

abbrev pub values : List Settled → List (Option ℤ)
values parts = map (λ (part : Settled). part.best) parts

abbrev pub prefixes : List Settled → List (List ℕ)
prefixes parts = map (λ (part : Settled). part.prefix) parts
